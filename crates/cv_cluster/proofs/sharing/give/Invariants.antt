use Rattle.cv_cluster.proofs.Quotas.{Given}
use Rattle.cv_cluster.proofs.sharing.give.Given as goal

-- those passed got theirs
abbrev pub invariant-loop-place : goal.invariant-loop-place
invariant-loop-place l = Given l.fn.stations l.stations l.fn.most l.left
