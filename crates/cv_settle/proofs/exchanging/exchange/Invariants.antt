use Rattle.std.proofs.Common.{false}
use Rattle.cv_settle.specs.Settling.{Sweeps}
use Rattle.cv_settle.proofs.exchanging.exchange.Given as goal

-- what was done so far
abbrev pub invariant-loop-pass : goal.invariant-loop-pass
invariant-loop-pass l = Sweeps false l.fn.stations l.stations
