use Rattle.std.proofs.Common.{◌≡◌, take}
use Rattle.cv_expand.proofs.copying.+copy.Given as goal

-- what has been copied is what has been passed
abbrev pub invariant-copy_literals-loop-literal : goal.invariant-copy_literals-loop-literal
invariant-copy_literals-loop-literal l = l.copies ≡ take l.literal-index l.literal-items

abbrev pub invariant-copy_pairs-loop-pair : goal.invariant-copy_pairs-loop-pair
invariant-copy_pairs-loop-pair l = l.copies ≡ take l.pair-index l.pair-items
