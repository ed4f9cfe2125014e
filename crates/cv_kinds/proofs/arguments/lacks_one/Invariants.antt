use Rattle.std.proofs.Common.{◌≡◌, drop, map}
use Rattle.std.specs.List.{list_any}
use Rattle.cv_kinds.specs.Arguments.{is_lacking}
use Rattle.cv_kinds.specs.Table.{taking}
use Rattle.cv_kinds.proofs.arguments.lacks_one.Given as goal

abbrev pub invariant-loop-param : goal.invariant-loop-param
invariant-loop-param l = list_any (is_lacking l.given) (map taking (drop l.param-index l.params)) ≡ list_any (is_lacking l.given) (map taking l.params)
