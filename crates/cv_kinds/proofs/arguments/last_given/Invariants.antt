use Rattle.std.proofs.Common.{◌≡◌, drop, option_map}
use Rattle.std.specs.Option.{option_or}
use Rattle.cv_kinds.specs.Arguments.{last_given}
use Rattle.cv_kinds.proofs.arguments.last_given.Given as goal

abbrev pub invariant-loop-argument : goal.invariant-loop-argument
invariant-loop-argument l = option_or (last_given l.name (drop l.argument-index l.given)) (option_map (λ value. value.now) l.last) ≡ last_given l.name l.given
