use Rattle.std.proofs.Common.{◌≡◌, take}
use Rattle.cv_expand.proofs.path.copy_path.Given as goal

-- what has been copied is what has been passed
abbrev pub invariant-loop-step : goal.invariant-loop-step
invariant-loop-step l = l.copy ≡ take l.step-index l.step-items
