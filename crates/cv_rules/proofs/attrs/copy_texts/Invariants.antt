use Rattle.std.proofs.Common.{◌≡◌, take}
use Rattle.cv_rules.proofs.attrs.copy_texts.Given as goal

-- what has been copied is what has been passed
abbrev pub invariant-loop-pair : goal.invariant-loop-pair
invariant-loop-pair l = l.copies ≡ take l.pair-index l.pair-items
