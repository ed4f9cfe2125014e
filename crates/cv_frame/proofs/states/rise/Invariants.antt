use Rattle.std.proofs.Common.{ℕ, ◌<◌}
use Rattle.cv_frame.specs.Values.{RisesAt}
use Rattle.cv_frame.proofs.states.rise.Given as goal

-- the hints passed so far rise
abbrev pub invariant-loop-i : goal.invariant-loop-i
invariant-loop-i l = (j : ℕ) → j < l.i → RisesAt l.hints j
