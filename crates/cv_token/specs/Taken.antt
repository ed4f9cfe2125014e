-- What the parts of the reading answer: want of memory is free, and a part has one fault of its own.
use Rattle.std.specs.Prelude.{◌≡◌, Option, Some, None, Result, Ok, Err}
use Rattle.serde_json.specs.Data.{Data}
use Rattle.serde_json.specs.View.{view}
use Rattle.serde_json.specs.declared.value.Value.{Value}
use Rattle.cv_token.specs.declared.fault.TokenFault.{TokenFault}
use Rattle.cv_token.specs.declared.fault.TokenFault.TheVariants.{NotJson, TooDeep, BadNumber, TooLarge, OutOfMemory}

abbrev pub NoValue : TokenFault → Option Data → Type 0
NoValue NotJson o = o ≡ None
NoValue TooDeep o = ⊥
NoValue BadNumber o = ⊥
NoValue TooLarge o = ⊥
NoValue OutOfMemory o = Unit {0}

-- the bytes have that value, or NotJson is told where they have none
abbrev pub Parses : Result Value TokenFault → Option Data → Type 0
Parses (Ok v) o = o ≡ Some (view v)
Parses (Err e) o = NoValue e o

abbrev pub NoToken : {T : Type 0} → TokenFault → Option T → Type 0
NoToken NotJson o = ⊥
NoToken TooDeep o = ⊥
NoToken BadNumber o = o ≡ None
NoToken TooLarge o = ⊥
NoToken OutOfMemory o = Unit {0}

-- the value has that token, or BadNumber is told where it has none
abbrev pub Converts : {T : Type 0} → Result T TokenFault → Option T → Type 0
Converts (Ok t) o = o ≡ Some t
Converts (Err e) o = NoToken e o

abbrev pub NoTree : {T : Type 0} → TokenFault → Option T → Type 0
NoTree NotJson o = o ≡ None
NoTree TooDeep o = ⊥
NoTree BadNumber o = o ≡ None
NoTree TooLarge o = ⊥
NoTree OutOfMemory o = Unit {0}

-- the bytes have that tree, or NotJson or BadNumber is told where they have none
abbrev pub Reads : {T : Type 0} → Result T TokenFault → Option T → Type 0
Reads (Ok t) o = o ≡ Some t
Reads (Err e) o = NoTree e o
