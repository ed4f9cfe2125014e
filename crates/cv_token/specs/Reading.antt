-- What bytes are read as: JSON (RFC 8259) in the kit's reading, its numbers as integers of 64 signed bits.
use Rattle.std.specs.Prelude.{◌≡◌, ℕ, List, length, Option, Some, None, option_and_then, Result, Ok, Err, nat_le, if◌then◌else◌}
use Rattle.std.specs.Str.{is_utf8}
use Rattle.serde_json.specs.Data.{Data, depth as data_depth}
use Rattle.serde_json.specs.Read.{read}
use Rattle.cv_token.specs.declared.token.Token.{Token}
use Rattle.cv_token.specs.declared.fault.TokenFault.{TokenFault}
use Rattle.cv_token.specs.declared.fault.TokenFault.TheVariants.{NotJson, TooDeep, BadNumber, TooLarge, OutOfMemory}
use Rattle.cv_token.specs.Bounds.{most_depth, most_bytes}
use Rattle.cv_token.specs.Forms.{token_of}
use Rattle.cv_token.specs.Spelling.{spelling}

-- the JSON value of the bytes; of equal keys the last counts
abbrev pub json_of : List ℕ → Option Data
json_of bytes = if is_utf8 bytes then read bytes else None

abbrev pub short_token : Token → Result Token TokenFault
short_token t = if nat_le (length (spelling t)) most_bytes then Ok t else Err TooLarge

abbrev pub sized : Option Token → Result Token TokenFault
sized None = Err BadNumber
sized (Some t) = short_token t

abbrev pub shallow : Data → Result Token TokenFault
shallow d = if nat_le (data_depth d) most_depth then sized (token_of d) else Err TooDeep

abbrev pub valued : Option Data → Result Token TokenFault
valued None = Err NotJson
valued (Some d) = shallow d

-- the token of the bytes, or the first fault that applies; want of memory aside
abbrev pub reading : List ℕ → Result Token TokenFault
reading bytes = valued (json_of bytes)

-- the token of the bytes without the bounds, where they are JSON whose numbers are integers of 64 signed bits
abbrev pub tree_of : List ℕ → Option Token
tree_of bytes = option_and_then token_of (json_of bytes)

-- the answer is that fault; only want of memory may come in place of anything
abbrev pub Fails : {T : Type 0} → TokenFault → Result T TokenFault → Type 0
Fails NotJson r = r ≡ Err NotJson
Fails TooDeep r = r ≡ Err TooDeep
Fails BadNumber r = r ≡ Err BadNumber
Fails TooLarge r = r ≡ Err TooLarge
Fails OutOfMemory r = Unit {0}

-- `Answers result r`: the result is r, unless memory wanted
abbrev pub Answers : {T : Type 0} → Result T TokenFault → Result T TokenFault → Type 0
Answers (Ok t) r = r ≡ Ok t
Answers (Err e) r = Fails e r
