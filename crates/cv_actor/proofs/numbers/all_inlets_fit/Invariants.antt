use Rattle.std.proofs.Common.{◌≡◌, drop}
use Rattle.cv_protocol.specs.Poll.{all_inlets_fit}
use Rattle.cv_actor.proofs.numbers.all_inlets_fit.Given as goal

abbrev pub invariant-loop-inlet : goal.invariant-loop-inlet
invariant-loop-inlet l = all_inlets_fit (drop l.inlet-index l.ins) ≡ all_inlets_fit l.ins
