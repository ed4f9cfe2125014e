use Rattle.std.proofs.Common.{[], ◌∷◌, List, refl}
use Rattle.cv_token.specs.declared.pairs.Pair.{Pair}
use Rattle.cv_token.proofs.Rises.{AreRising-from_test}
use Rattle.cv_rules_rows.proofs.copies.named_node1.Goals as goal

pub push-requires-clause-rising : goal.push-requires-clause-rising
push-requires-clause-rising c =
    let p : Pair (List _) = record { key = c.from_string-key.result; value = c.from_string-value.result } in
    rw c.new-attrs.ensures (AreRising-from_test (p ∷ []) refl)

pub push-requires-clause-key : goal.push-requires-clause-key
push-requires-clause-key c = rw (c.from_string-key.ensures, c.in_ok-from_str.ensures.ok) refl
