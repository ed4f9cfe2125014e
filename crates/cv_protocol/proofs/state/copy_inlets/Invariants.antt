use Rattle.std.proofs.Common.{◌≡◌, take}
use Rattle.cv_protocol.proofs.state.copy_inlets.Given as goal

abbrev pub invariant-loop-inlet : goal.invariant-loop-inlet
invariant-loop-inlet l = l.copies.items ≡ take l.inlet-index l.ins
