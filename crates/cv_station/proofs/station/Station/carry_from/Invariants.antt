use Rattle.std.proofs.Common.{false}
use Rattle.cv_station.specs.Going.{Goes}
use Rattle.cv_station.proofs.station.Station.carry_from.Given as goal

abbrev pub invariant-loop-port : goal.invariant-loop-port
invariant-loop-port l = Goes l.most l.fn.self false l.self
