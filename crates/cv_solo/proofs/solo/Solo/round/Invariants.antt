use Rattle.std.proofs.Common.{◌≡◌}
use Rattle.cv_solo.proofs.Rounds.{SoFar}
use Rattle.cv_solo.proofs.solo.Solo.round.Given as goal

abbrev pub invariant-loop-actor : goal.invariant-loop-actor
invariant-loop-actor l = record {
  net : l.self.net ≡ l.fn.self.net;
  so_far : SoFar l.fn.self.net l.fn.self.runtime l.self.runtime l.fired l.most l.actor;
}
