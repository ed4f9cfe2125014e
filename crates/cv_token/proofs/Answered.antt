-- What the parts of the reading answer, put together.
use Rattle.std.proofs.Common.{◌≡◌, ◌≤◌, Option, None, Result, Ok, Err, IfOk, refl, arith}
use Rattle.serde_json.specs.Data.{Data, depth as data_depth}
use Rattle.cv_token.specs.declared.fault.TokenFault.{TokenFault}
use Rattle.cv_token.specs.declared.fault.TokenFault.TheVariants.{NotJson, TooDeep, BadNumber, TooLarge, OutOfMemory}
use Rattle.cv_token.specs.declared.token.Token.{Token}
use Rattle.cv_token.specs.Forms.{token_of}
use Rattle.cv_token.specs.Shape.{depth}
use Rattle.cv_token.specs.Taken.{Converts, NoTree}
use Rattle.cv_token.proofs.Founds.{depth-token_of}

pub found_depth : (r : Result Token TokenFault) (d : Data) → Converts r (token_of d) → data_depth d ≤ 127 → IfOk r (λ t. depth t ≤ 127)
found_depth (Ok t) d e h = let same = depth-token_of d t e in omega arith
found_depth (Err e) d c h = tt

pub none-NoTree : {T : Type 0} → (e : TokenFault) (o : Option T) → NoTree e o → (e ≡ OutOfMemory → ⊥) → o ≡ None
none-NoTree NotJson o h other = h
none-NoTree TooDeep o h other = absurd h
none-NoTree BadNumber o h other = h
none-NoTree TooLarge o h other = absurd h
none-NoTree OutOfMemory o h other = absurd (other refl)
