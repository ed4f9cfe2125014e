use Rattle.std.proofs.Common.{◌≡◌, take}
use Rattle.cv_frame.proofs.trees.tokens_in.Given as goal

-- what has been copied is what has been passed
abbrev pub invariant-loop-i : goal.invariant-loop-i
invariant-loop-i l = l.held ≡ take l.i l.port.held
