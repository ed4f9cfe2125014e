use Rattle.std.proofs.Common.{refl, ap₂, ◌∙◌, arith, below_more}
use Rattle.std.proofs.lemmas.List.{get_or_default}
use Rattle.cv_table.specs.Order.{actor_cmp}
use Rattle.cv_protocol.specs.declared.state.Hint.{Hint}
use Rattle.cv_frame.proofs.states.rise.Goals as goal

pub loop-i-preserved : goal.loop-i-preserved
loop-i-preserved c =
    below_more _ _ c.loop-i.invariant (λ d some within.
    ap₂ (λ (h k : Hint). actor_cmp h.actor k.actor) (get_or_default c.args.hints.now _ d _ (omega arith)) (get_or_default c.args.hints.now _ d _ within)
    ∙ c.if-not-is_below.ensures.0 refl)
