use Rattle.std.proofs.Common.{◌≡◌, map, take}
use Rattle.cv_frame.specs.Trees.{hint_tree}
use Rattle.cv_frame.proofs.trees.hints_tree.Given as goal

-- the trees of what has been passed
abbrev pub invariant-loop-hint : goal.invariant-loop-hint
invariant-loop-hint l = l.trees ≡ map hint_tree (take l.hint-index l.hints)
