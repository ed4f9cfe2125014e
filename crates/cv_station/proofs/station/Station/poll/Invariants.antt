use Rattle.std.proofs.Common.{◌-◌, false, length}
use Rattle.cv_station.specs.Going.{Goes}
use Rattle.cv_station.proofs.station.Station.poll.Given as goal

abbrev pub invariant-loop-self : goal.invariant-loop-self
invariant-loop-self l = Goes l.most l.fn.self false l.self

abbrev pub decreases-loop-self : goal.decreases-loop-self
decreases-loop-self l = l.most - length l.self.node.entries
