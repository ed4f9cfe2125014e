use Rattle.std.proofs.Common.{◌≡◌, take}
use Rattle.cv_expand.proofs.copying.copy_names.Given as goal

-- what has been copied is what has been passed
abbrev pub invariant-loop-name : goal.invariant-loop-name
invariant-loop-name l = l.copies ≡ take l.name-index l.names
