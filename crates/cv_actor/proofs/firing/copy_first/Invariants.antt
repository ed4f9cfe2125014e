use Rattle.std.proofs.Common.{◌≡◌, ◌++◌, take}
use Rattle.cv_actor.proofs.firing.copy_first.Given as goal

abbrev pub invariant-loop-place : goal.invariant-loop-place
invariant-loop-place l = l.heads ≡ l.fn.heads ++ take l.place l.port.held
