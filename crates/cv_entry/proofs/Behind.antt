-- One part behind a name.
use Rattle.std.proofs.Common.{◌≡◌, ◌≢◌, ◌+◌, List, [], ◌∷◌, length, get_or, Option, Some, None, MatchOption, ap, ◌∙◌, arith}
use Rattle.cv_token.specs.declared.token.Token.{Token}
use Rattle.cv_token.specs.declared.token.Token.TheVariants as tree
use Rattle.cv_token.specs.Spells.{Spells}
use Rattle.cv_frame.specs.laws.Shapes.{listed, part_behind, stands}

-- what the part is, the list is
pub one_behind : {V : Type 0} (Valid : V → Type 0) (encode : V → Token) (t w x : Token) (xs : List Token) (o : Option V) → length xs + 1 ≡ 2 → t ≡ tree.List (w ∷ xs) → x ≡ get_or xs 0 x → Spells Valid encode x o
    → MatchOption o ((v : V) → Valid v → t ≢ tree.List (w ∷ encode v ∷ [])) (λ v. Valid v × (t ≡ tree.List (w ∷ encode v ∷ [])))
one_behind Valid encode t w x xs None n is at none = λ v k e. none v k (part_behind _ _ _ _ _ 0 _ is at e)
one_behind Valid encode t w x xs (Some v) n is at found = (found.0, is ∙ ap (λ (l : List Token). tree.List (w ∷ l)) (listed xs (encode v ∷ []) (omega arith) (stands xs 0 x (encode v) found.1 at, tt)))
