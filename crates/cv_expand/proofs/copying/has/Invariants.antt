use Rattle.std.proofs.Common.{◌≡◌, drop}
use Rattle.cv_expand.specs.Lookup.{has}
use Rattle.cv_expand.proofs.copying.has.Given as goal

-- what is left decides
abbrev pub invariant-loop-one : goal.invariant-loop-one
invariant-loop-one l = has l.names l.name ≡ has (drop l.one-index l.names) l.name
