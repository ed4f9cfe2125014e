use Rattle.std.proofs.Common.{◌≡◌, ◌-◌, ◌≤◌}
use Rattle.cv_cluster.specs.Cluster.{GoesOn}
use Rattle.cv_cluster.proofs.Turns.{left_of}
use Rattle.cv_cluster.proofs.cluster.Cluster.run.Given as goal

abbrev pub invariant-loop-left : goal.invariant-loop-left
invariant-loop-left g l = record {
  within : l.left ≤ l.fn.most;
  goes_on : GoesOn l.fn.self l.self (l.fn.most - l.left);
  fine : l.self.failed ≡ l.fn.self.failed;
}

abbrev pub decreases-loop-left : goal.decreases-loop-left
decreases-loop-left g l = left_of l.left l.self.nodes l.settled
