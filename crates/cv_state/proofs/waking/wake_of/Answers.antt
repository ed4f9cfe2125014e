use Rattle.std.proofs.Common.{◌≡◌, ◌<◌, ◌-◌, ◌+◌, ℕ, Option, ap, sym, ◌∙◌, arith}
use Rattle.cv_behave.specs.KindRow.{action_count}
use Rattle.cv_kinds.specs.declared.kind.Kind.{Kind}
use Rattle.cv_kinds.specs.KindRow.{row_of}
use Rattle.cv_protocol.specs.Poll.{row_at}
use Rattle.cv_state.specs.Waking.{earlier, wake_from}
use Rattle.cv_state.proofs.Wakes.{wake_next}
use Rattle.cv_state.proofs.waking.wake_of.Goals as goal

pub loop-action-preserved : goal.loop-action-preserved
loop-action-preserved c =
    let l = c.args.live.now in
    let at = c.loop-action.action in
    let count : c.actions-action-end.result ≡ action_count (row_at l) = c.actions-action-end.ensures.count ∙ ap (λ (k : Kind). action_count (row_of k)) c.kind.ensures in
    let within : at < action_count (row_at l) = omega (arith, count) in
    ap (λ (o : Option ℕ). wake_from l c.args.now o (at + 1) (action_count (row_at l) - (at + 1))) (c.earlier-found.ensures ∙ ap (earlier c.loop-action.found) c.until.ensures)
    ∙ sym (wake_next l c.args.now c.loop-action.found at (action_count (row_at l)) within)
    ∙ c.loop-action.invariant
