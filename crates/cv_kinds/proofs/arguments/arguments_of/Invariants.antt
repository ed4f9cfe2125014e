use Rattle.std.proofs.Common.{◌≡◌, take, map}
use Rattle.cv_kinds.specs.Arguments.{argument_of}
use Rattle.cv_kinds.specs.Table.{taking}
use Rattle.cv_kinds.proofs.arguments.arguments_of.Given as goal

abbrev pub invariant-loop-param : goal.invariant-loop-param
invariant-loop-param l = l.args ≡ map (argument_of l.given) (map taking (take l.param-index l.params))
