use Rattle.cv_cluster.specs.Ticking.{DueBelow}
use Rattle.cv_cluster.proofs.ticking.due_in.Given as goal

-- of those passed it is the least
abbrev pub invariant-loop-place : goal.invariant-loop-place
invariant-loop-place l = DueBelow l.stations l.place l.due
