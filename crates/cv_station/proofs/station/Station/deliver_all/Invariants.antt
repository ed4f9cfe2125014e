use Rattle.std.proofs.Common.{◌≡◌, false}
use Rattle.cv_station.specs.Going.{Goes}
use Rattle.cv_station.proofs.station.Station.deliver_all.Given as goal

abbrev pub invariant-loop-place : goal.invariant-loop-place
invariant-loop-place l = record {
  goes : Goes l.most l.fn.self false l.self;
  fired : l.self.fired ≡ l.fn.self.fired;
}
