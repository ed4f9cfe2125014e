use Rattle.std.proofs.Common.{◌≡◌, ◌-◌}
use Rattle.cv_behave.specs.KindRow.{action_count}
use Rattle.cv_protocol.specs.Poll.{row_at}
use Rattle.cv_state.specs.Waking.{wake_from, wake_of}
use Rattle.cv_state.proofs.waking.wake_of.Given as goal

abbrev pub invariant-loop-action : goal.invariant-loop-action
invariant-loop-action l =
    wake_from l.live l.now l.found l.action (action_count (row_at l.live) - l.action) ≡ wake_of l.now l.fn.found l.live
