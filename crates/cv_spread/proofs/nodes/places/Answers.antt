use Rattle.std.proofs.Common.{ℕ, List, [], ◌∷◌, ◌++◌, sym, ap, ◌∙◌, arith}
use Rattle.std.proofs.lemmas.List.FromFn.{map-range_with_len_more}
use Rattle.cv_spread.specs.Placing.{home_node}
use Rattle.cv_spread.proofs.nodes.places.Goals as goal

pub loop-actor-preserved : goal.loop-actor-preserved
loop-actor-preserved c =
    c.in_ok-push.ensures.items
    ∙ ap (λ (at : List ℕ). at ++ home_node c.args.nodes c.loop-actor.actor ∷ []) c.loop-actor.invariant
    ∙ sym (map-range_with_len_more (home_node c.args.nodes) 0 c.loop-actor.actor c.loop-actor.actor (omega arith))
