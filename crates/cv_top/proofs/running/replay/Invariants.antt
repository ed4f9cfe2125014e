use Rattle.std.proofs.Common.{◌≡◌, drop, Some}
use Rattle.cv_solo.specs.OneRuntime.{Runtime, solo, solo_from}
use Rattle.cv_top.specs.Printed.{firings_of}
use Rattle.cv_top.proofs.running.replay.Given as goal

abbrev pub invariant-loop-step : goal.invariant-loop-step
invariant-loop-step l = record {
  net : l.solo.net ≡ l.net;
  left : (r : Runtime) → solo l.net (firings_of l.steps) ≡ Some r → solo_from l.net l.solo.runtime (firings_of (drop l.step-index l.steps)) ≡ Some r;
}
