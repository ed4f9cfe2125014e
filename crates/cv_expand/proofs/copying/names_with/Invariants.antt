use Rattle.std.proofs.Common.{◌≡◌, take}
use Rattle.cv_expand.proofs.copying.names_with.Given as goal

-- what has been copied is what has been passed
abbrev pub invariant-loop-one : goal.invariant-loop-one
invariant-loop-one l = l.more ≡ take l.one-index l.names
