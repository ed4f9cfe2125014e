use Rattle.std.proofs.Common.{◌≡◌, drop}
use Rattle.cv_kinds.specs.Names.{first_named}
use Rattle.cv_kinds.proofs.names.first_named.Given as goal

abbrev pub invariant-loop-kind : goal.invariant-loop-kind
invariant-loop-kind l = first_named (drop l.kind-index l.kinds) l.name ≡ first_named l.kinds l.name
