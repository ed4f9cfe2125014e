use Rattle.std.proofs.Common.{false}
use Rattle.cv_mesh.specs.Moving.{Each, Settles}
use Rattle.cv_mesh.specs.Passed.{PassedEach}
use Rattle.cv_cluster.specs.Ticking.{StationTicks}
use Rattle.cv_cluster.proofs.ticking.tick_each.Given as goal

-- those passed ticked
abbrev pub invariant-loop-place : goal.invariant-loop-place
invariant-loop-place l = record {
  settles : Each (Settles false) l.fn.stations l.stations;
  ticks : PassedEach (StationTicks l.fn.moment) l.fn.stations l.place l.stations;
}
