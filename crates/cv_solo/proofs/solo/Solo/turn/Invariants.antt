use Rattle.std.proofs.Common.{◌≡◌, ◌-◌}
use Rattle.cv_solo.specs.PlainNetwork.{actions_of, first_ready}
use Rattle.cv_solo.proofs.Turns.{ready_from}
use Rattle.cv_solo.proofs.solo.Solo.turn.Given as goal

abbrev pub invariant-loop-action : goal.invariant-loop-action
invariant-loop-action l = record {
  same : l.self ≡ l.fn.self;
  left : ready_from l.fn.self.net l.fn.self.runtime l.actor l.action (actions_of l.fn.self.net l.actor - l.action) ≡ first_ready l.fn.self.net l.fn.self.runtime l.actor;
}
