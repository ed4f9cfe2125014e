use Rattle.std.proofs.Common.{◌≡◌, ◌-◌, ◌<◌, ◌≤◌, length}
use Rattle.cv_node.specs.Counts.{journal_length}
use Rattle.cv_alone.specs.Going.{EndsInFiring, GoesOn, is_own}
use Rattle.cv_alone.specs.Turns.{StaysPatient}
use Rattle.cv_alone.proofs.alone.go_on.Given as goal

abbrev pub invariant-loop-left : goal.invariant-loop-left
invariant-loop-left l = record {
  within : l.left ≤ l.most;
  goes_on : GoesOn is_own l.fn.node l.node (l.most - l.left);
  patient : StaysPatient l.actors l.connections l.fn.node l.node;
  ends : l.left ≡ 0 → 0 < l.most → EndsInFiring l.node.entries;
}

abbrev pub decreases-loop-left : goal.decreases-loop-left
decreases-loop-left l = journal_length - length l.node.entries
