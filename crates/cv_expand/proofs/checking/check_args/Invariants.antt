use Rattle.std.proofs.Common.{◌≡◌, [], drop}
use Rattle.cv_expand.specs.Walk.{repeat_faults, arg_names}
use Rattle.cv_expand.proofs.checking.check_args.Given as goal

-- what is left decides
abbrev pub invariant-loop-arg : goal.invariant-loop-arg
invariant-loop-arg l = repeat_faults l.places (arg_names (drop l.arg-index l.args)) ≡ repeat_faults [] (arg_names l.args)
