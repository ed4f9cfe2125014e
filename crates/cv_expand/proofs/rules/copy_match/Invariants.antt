use Rattle.std.proofs.Common.{◌≡◌, take}
use Rattle.cv_expand.proofs.rules.copy_match.Given as goal

-- what has been copied is what has been passed
abbrev pub invariant-loop-field : goal.invariant-loop-field
invariant-loop-field l = l.fields ≡ take l.field-index l.field-items
