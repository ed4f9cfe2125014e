use Rattle.std.proofs.Common.{◌≡◌, ◌-◌}
use Rattle.cv_solo.proofs.Replays.{RanSoFar}
use Rattle.cv_top.proofs.running.make_rounds.Given as goal

abbrev pub invariant-loop-fired : goal.invariant-loop-fired
invariant-loop-fired l = record {
  net : l.solo.net ≡ l.fn.solo.net;
  ran : RanSoFar l.fn.solo.net l.most l.fired l.solo.runtime;
}

abbrev pub decreases-loop-fired : goal.decreases-loop-fired
decreases-loop-fired l = l.most - l.fired
