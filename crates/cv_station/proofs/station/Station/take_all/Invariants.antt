use Rattle.std.proofs.Common.{◌≡◌, false}
use Rattle.cv_station.specs.Going.{Goes}
use Rattle.cv_station.proofs.station.Station.take_all.Given as goal

abbrev pub invariant-loop-frame : goal.invariant-loop-frame
invariant-loop-frame l = record {
  goes : Goes l.most l.fn.self false l.self;
  fired : l.self.fired ≡ l.fn.self.fired;
}
