use Rattle.std.proofs.Common.{◌≡◌, ◌≤◌, ◌+◌, length, drop}
use Rattle.cv_top.specs.Printed.{firings_of}
use Rattle.cv_top.proofs.running.firing_count.Given as goal

abbrev pub invariant-loop-step : goal.invariant-loop-step
invariant-loop-step l = record {
  small : l.count ≤ l.step-index;
  whole : l.count + length (firings_of (drop l.step-index l.steps)) ≡ length (firings_of l.steps);
}
