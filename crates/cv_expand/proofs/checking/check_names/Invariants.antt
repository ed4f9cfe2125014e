use Rattle.std.proofs.Common.{◌≡◌, [], drop}
use Rattle.cv_expand.specs.Walk.{repeat_faults}
use Rattle.cv_expand.proofs.checking.check_names.Given as goal

-- what is left decides
abbrev pub invariant-loop-name : goal.invariant-loop-name
invariant-loop-name l = repeat_faults l.places (drop l.name-index l.names) ≡ repeat_faults [] l.names
