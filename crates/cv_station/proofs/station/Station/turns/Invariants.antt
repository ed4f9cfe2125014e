use Rattle.std.proofs.Common.{◌+◌, ◌-◌, ◌*◌, false, length}
use Rattle.cv_station.specs.Going.{Goes}
use Rattle.cv_station.proofs.station.Station.turns.Given as goal

abbrev pub invariant-loop-idle : goal.invariant-loop-idle
invariant-loop-idle l = Goes l.most l.fn.self false l.self

-- each entry is worth more than all idle turns
abbrev pub decreases-loop-idle : goal.decreases-loop-idle
decreases-loop-idle l = (l.most - length l.self.node.entries) * 65 + (64 - l.idle)
