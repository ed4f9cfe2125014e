use Rattle.std.proofs.Common.{◌≡◌, ◌<◌, ap, sym, ◌∙◌, arith}
use Rattle.cv_behave.specs.KindRow.{action_count}
use Rattle.cv_kinds.specs.declared.kind.Kind.{Kind}
use Rattle.cv_kinds.specs.KindRow.{row_of}
use Rattle.cv_protocol.specs.Poll.{row_at}
use Rattle.cv_actor.proofs.Sights.{lacking}
use Rattle.cv_actor.proofs.live.Live.outlook.Goals as goal

pub loop-action-preserved : goal.loop-action-preserved
loop-action-preserved c =
    let l = c.args.self.now in
    let count : c.actions-action-end.result ≡ action_count (row_at l) = c.actions-action-end.ensures.count ∙ ap (λ (k : Kind). action_count (row_of k)) c.kind.ensures in
    let within : c.loop-action.action < action_count (row_at l) = omega (arith, count) in
    rw c.from.ensures (sym (lacking l c.args.now c.loop-action.action (action_count (row_at l)) c.loop-action.lacks c.in-Lacks.need within c.in-Lacks.ensures) ∙ c.loop-action.invariant)
