use Rattle.std.proofs.Common.{◌≡◌, ◌++◌, drop}
use Rattle.std.specs.Prelude.{option_map}
use Rattle.cv_expand.specs.Walk.{arguments, argument_faults}
use Rattle.cv_expand.specs.Runs.{unless}
use Rattle.cv_expand.proofs.arguments.arguments.Given as goal

-- what is left decides
abbrev pub invariant-loop-arg : goal.invariant-loop-arg
invariant-loop-arg l =
    unless (argument_faults l.world l.spot (option_map (λ p. p.now) l.places) (drop l.arg-index l.args)) (l.items ++ arguments l.world l.spot (drop l.arg-index l.args))
    ≡ unless (argument_faults l.world l.spot (option_map (λ p. p.now) l.places) l.args) (arguments l.world l.spot l.args)
