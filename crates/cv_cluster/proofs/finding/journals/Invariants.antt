use Rattle.cv_cluster.proofs.Nodes.{Told}
use Rattle.cv_cluster.proofs.finding.journals.Given as goal

-- those passed are told
abbrev pub invariant-loop-station : goal.invariant-loop-station
invariant-loop-station l = Told l.yielded l.journals.items
