use Rattle.std.proofs.Common.{◌≡◌, take}
use Rattle.cv_expand.specs.Walk.{values_of}
use Rattle.cv_expand.proofs.arguments.values_of.Given as goal

-- what has been put is what has been passed
abbrev pub invariant-loop-arg : goal.invariant-loop-arg
invariant-loop-arg l = l.values ≡ values_of (take l.arg-index l.args)
