use Rattle.cv_mesh.specs.Moving.{Each}
use Rattle.cv_mesh.specs.Passed.{PassedEach}
use Rattle.cv_cluster.specs.Ticking.{MakesRoom, MayMakeRoom}
use Rattle.cv_cluster.proofs.ticking.reserve_each.Given as goal

-- those passed made room
abbrev pub invariant-loop-place : goal.invariant-loop-place
invariant-loop-place l = record {
  makes : Each MayMakeRoom l.fn.stations l.stations;
  room : PassedEach MakesRoom l.fn.stations l.place l.stations;
}
