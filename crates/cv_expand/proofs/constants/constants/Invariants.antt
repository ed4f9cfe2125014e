use Rattle.std.proofs.Common.{◌≡◌, [], drop}
use Rattle.cv_expand.specs.Heads.{defines_in, define_faults, constants_from}
use Rattle.cv_expand.specs.Runs.{unless}
use Rattle.cv_expand.proofs.constants.constants.Given as goal

-- what is left decides
abbrev pub invariant-loop-item : goal.invariant-loop-item
invariant-loop-item l =
    unless (define_faults l.constants (defines_in (drop l.item-index l.script))) (constants_from l.constants (defines_in (drop l.item-index l.script)))
    ≡ unless (define_faults [] (defines_in l.script)) (constants_from [] (defines_in l.script))
