use Rattle.std.proofs.Common.{◌≡◌, drop}
use Rattle.cv_alone.specs.Resting.{until_from}
use Rattle.cv_alone.proofs.sweep.until_from.Given as goal

-- what is left decides
abbrev pub invariant-loop-lack : goal.invariant-loop-lack
invariant-loop-lack l = until_from l.due (drop l.lack-index l.lacks) ≡ until_from l.fn.due l.lacks
