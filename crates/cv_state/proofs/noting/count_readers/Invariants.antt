use Rattle.std.proofs.Common.{◌≡◌, ◌+◌, drop}
use Rattle.cv_state.specs.Arrivals.{readers_in}
use Rattle.cv_state.proofs.noting.count_readers.Given as goal

abbrev pub invariant-loop-out : goal.invariant-loop-out
invariant-loop-out l = l.count + readers_in (drop l.out-index l.outs) ≡ readers_in l.outs
