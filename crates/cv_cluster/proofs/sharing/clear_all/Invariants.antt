use Rattle.cv_cluster.specs.Rounds.{Cleared}
use Rattle.cv_mesh.specs.Passed.{PassedEach}
use Rattle.cv_cluster.proofs.sharing.clear_all.Given as goal

-- those passed are cleared
abbrev pub invariant-loop-place : goal.invariant-loop-place
invariant-loop-place l = PassedEach Cleared l.fn.stations l.place l.stations
