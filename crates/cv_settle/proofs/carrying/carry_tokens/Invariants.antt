use Rattle.std.proofs.Common.{false}
use Rattle.cv_settle.specs.Settling.{Sweeps}
use Rattle.cv_settle.proofs.carrying.carry_tokens.Given as goal

-- what was done so far
abbrev pub invariant-loop-token : goal.invariant-loop-token
invariant-loop-token l = Sweeps false l.fn.stations l.stations
