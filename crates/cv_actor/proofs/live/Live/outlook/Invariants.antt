use Rattle.std.proofs.Common.{◌≡◌, ◌-◌}
use Rattle.cv_behave.specs.KindRow.{action_count}
use Rattle.cv_protocol.specs.Poll.{poll, poll_from, row_at}
use Rattle.cv_actor.specs.Polled.{foreseen, foreseen_from}
use Rattle.cv_actor.proofs.live.Live.outlook.Given as goal

abbrev pub invariant-loop-action : goal.invariant-loop-action
invariant-loop-action l =
    foreseen_from l.lacks l.action (poll_from l.self l.now l.action (action_count (row_at l.self) - l.action)) ≡ foreseen (poll l.self l.now)
