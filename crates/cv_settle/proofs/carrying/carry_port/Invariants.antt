use Rattle.std.proofs.Common.{false}
use Rattle.cv_settle.specs.Settling.{Sweeps}
use Rattle.cv_settle.proofs.carrying.carry_port.Given as goal

-- what was done so far
abbrev pub invariant-loop-place : goal.invariant-loop-place
invariant-loop-place l = Sweeps false l.fn.stations l.stations
