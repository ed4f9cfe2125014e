-- The cause of each fault of a text, and its place.
use Rattle.std.specs.Prelude.{◌≡◌, ℕ, ◌+◌, ◌-◌, ◌<◌, ◌⊎◌, Option, Some, None, List, ◌∷◌, ◌++◌, length, take, drop}
use Rattle.cv_lex.specs.Characters.{quote, slash, star}
use Rattle.cv_lex.specs.declared.lexeme.Sort.{Sort}
use Rattle.cv_lex.specs.declared.lexeme.Sort.TheVariants as sorts
use Rattle.cv_lex.specs.declared.lexeme.LexFault.{LexFault}
use Rattle.cv_lex.specs.declared.lexeme.LexFault.TheVariants as faults
use Rattle.cv_lex.specs.Shapes.{IsAt, Stands, IsInLimits}
use Rattle.cv_lex.specs.Texts.{said_from, bad_of}

-- from a place on, white space, comments and lexemes lead to a place with what is left there
pub data ReadsOn : ℕ → List ℕ → ℕ → List ℕ → Type 0 where
  here : {at : ℕ} {bytes : List ℕ} → ReadsOn at bytes at bytes
  blank : {at place : ℕ} {rest left : List ℕ} (front : List ℕ) → Stands None front rest → ReadsOn (at + length front) rest place left → ReadsOn at (front ++ rest) place left
  lexeme : {at place : ℕ} {rest left : List ℕ} (sort : Sort) (front : List ℕ) → Stands (Some sort) front rest → IsInLimits sort front → ReadsOn (at + length front) rest place left → ReadsOn at (front ++ rest) place left

-- neither white space, nor a comment, nor a lexeme stands at the front
abbrev pub NothingStands : List ℕ → Type 0
NothingStands left = (thing : Option Sort) (front tail : List ℕ) → left ≡ front ++ tail → IsAt thing front tail → ⊥

-- `/*` or `"""` stands at the front
abbrev pub OpensComment : List ℕ → Type 0
OpensComment left = (tail : List ℕ) × ((left ≡ slash ∷ star ∷ tail) ⊎ (left ≡ quote ∷ quote ∷ quote ∷ tail))

-- a quote stands at the front
abbrev pub OpensText : List ℕ → Type 0
OpensText left = (tail : List ℕ) × (left ≡ quote ∷ tail)

-- what stands at the front, the longest, with what follows it, is beyond a limit
abbrev pub Exceeds : Sort → List ℕ → Type 0
Exceeds sort left = (front : List ℕ) × (tail : List ℕ) × (left ≡ front ++ tail) × Stands (Some sort) front tail × (IsInLimits sort front → ⊥)

-- a text stands at the front, and its first bad escape is at a distance from its quote
abbrev pub HasBadEscape : ℕ → List ℕ → Type 0
HasBadEscape distance left =
    (front : List ℕ) × (tail : List ℕ) × (bad : ℕ) × (left ≡ front ++ tail) × Stands (Some sorts.Text) front tail
    × (bad_of (said_from 0 0 (take (length front - 2) (drop 1 front))) ≡ Some bad) × (distance ≡ bad + 1)

-- the fault of what is left at a place
abbrev pub IsFaultAt : LexFault → ℕ → List ℕ → Type 0
IsFaultAt (faults.BadChar at) place left = (at ≡ place) × (0 < length left) × NothingStands left × (OpensText left → ⊥) × (OpensComment left → ⊥)
IsFaultAt (faults.OpenText at) place left = (at ≡ place) × NothingStands left × OpensText left × (OpensComment left → ⊥)
IsFaultAt (faults.OpenComment at) place left = (at ≡ place) × NothingStands left × OpensComment left
IsFaultAt (faults.WideNumber at) place left = (at ≡ place) × Exceeds sorts.Int left
IsFaultAt (faults.BadEscape at) place left = (distance : ℕ) × (at ≡ place + distance) × HasBadEscape distance left
IsFaultAt (faults.LongName at) place left = (at ≡ place) × Exceeds sorts.Name left
IsFaultAt faults.OutOfMemory place left = ⊥

-- the text leads to the fault
abbrev pub HasFault : List ℕ → LexFault → Type 0
HasFault bytes fault = (place : ℕ) × (left : List ℕ) × ReadsOn 0 bytes place left × IsFaultAt fault place left

-- a fault is the text's, but want of memory may come at any time
abbrev pub IsCaused : List ℕ → LexFault → Type 0
IsCaused bytes (faults.BadChar at) = HasFault bytes (faults.BadChar at)
IsCaused bytes (faults.OpenText at) = HasFault bytes (faults.OpenText at)
IsCaused bytes (faults.OpenComment at) = HasFault bytes (faults.OpenComment at)
IsCaused bytes (faults.WideNumber at) = HasFault bytes (faults.WideNumber at)
IsCaused bytes (faults.BadEscape at) = HasFault bytes (faults.BadEscape at)
IsCaused bytes (faults.LongName at) = HasFault bytes (faults.LongName at)
IsCaused bytes faults.OutOfMemory = Unit {0}
