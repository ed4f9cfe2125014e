use Rattle.std.proofs.Common.{◌≡◌, None, drop}
use Rattle.cv_merge.specs.Choice.{least_from}
use Rattle.cv_merge.proofs.choosing.least.Given as goal

-- what is left decides
abbrev pub invariant-loop-place : goal.invariant-loop-place
invariant-loop-place l = least_from l.best l.place (drop l.place l.sources) ≡ least_from None 0 l.sources
