use Rattle.std.proofs.Common.{List, ℕ, [], ◌∷◌, ◌++◌, refl, sym, subst}
use Rattle.cv_token.specs.declared.pairs.Pair.{Pair}
use Rattle.cv_token.specs.Rising.{AreRising}
use Rattle.cv_token.proofs.Rises.{AreRising-from_test}
use Rattle.cv_spread.proofs.nodes.node_spec.Goals as goal

pub push-requires-clause-rising : goal.push-requires-clause-rising
push-requires-clause-rising c =
    let pair : Pair (List ℕ) = record { key = c.from_string-key.result; value = c.from_string-value.result } in
    subst (λ (ps : List (Pair (List ℕ))). AreRising (ps ++ pair ∷ [])) (sym c.new-attrs.ensures) (AreRising-from_test (pair ∷ []) refl)
