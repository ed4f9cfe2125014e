use Rattle.std.proofs.Common.{◌≡◌, drop}
use Rattle.cv_protocol.specs.Poll.{all_outs_fit}
use Rattle.cv_actor.proofs.numbers.all_outs_fit.Given as goal

abbrev pub invariant-loop-out : goal.invariant-loop-out
invariant-loop-out l = all_outs_fit (drop l.out-index l.outs) ≡ all_outs_fit l.outs
