use Rattle.std.proofs.Common.{false}
use Rattle.cv_settle.specs.Settling.{Settled}
use Rattle.cv_settle.proofs.settling.settle.Given as goal

-- what was done so far
abbrev pub invariant-loop-sweep : goal.invariant-loop-sweep
invariant-loop-sweep l = Settled false l.fn.stations l.stations
