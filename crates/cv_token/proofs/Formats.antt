-- A format whose values are token trees, read by `read_spelled` and then decoded, has exact answers.
use Rattle.std.proofs.Common.{ℕ, List, Option, option_and_then}
use Rattle.cv_token.specs.declared.token.Token.{Token}
use Rattle.cv_token.specs.Spelling.{spelling}
use Rattle.cv_token.specs.Spells.{IsTree, Spells}
use Rattle.cv_token.proofs.Round.{one_spelling}
use Rattle.cv_token.proofs.Strict.{Spells-then}

-- `decode` answers exactly the value whose tree it is given, and each value's tree is one that JSON can hold
pub Spells-decoded : {V : Type 0} → (Valid : V → Type 0) (encode : V → Token) → ((v : V) → Valid v → IsTree (encode v)) → (decode : Token → Option V) → ((t : Token) → Spells Valid encode t (decode t))
    → (bytes : List ℕ) (tree : Option Token) → Spells IsTree spelling bytes tree → Spells Valid (λ v. spelling (encode v)) bytes (option_and_then decode tree)
Spells-decoded Valid encode within decode decodes bytes tree h = Spells-then Valid encode IsTree spelling one_spelling within bytes tree decode h decodes
