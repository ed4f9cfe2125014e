use Rattle.std.proofs.Common.{◌≡◌, drop, map}
use Rattle.cv_kinds.specs.Arguments.{sort_named}
use Rattle.cv_kinds.specs.Table.{taking}
use Rattle.cv_kinds.proofs.arguments.sort_named.Given as goal

abbrev pub invariant-loop-param : goal.invariant-loop-param
invariant-loop-param l = sort_named (map taking (drop l.param-index l.params)) l.name ≡ sort_named (map taking l.params) l.name
