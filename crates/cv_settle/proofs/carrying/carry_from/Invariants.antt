use Rattle.std.proofs.Common.{false}
use Rattle.cv_settle.specs.Settling.{Sweeps}
use Rattle.cv_settle.proofs.carrying.carry_from.Given as goal

-- what was done so far
abbrev pub invariant-loop-port : goal.invariant-loop-port
invariant-loop-port l = Sweeps false l.fn.stations l.stations
