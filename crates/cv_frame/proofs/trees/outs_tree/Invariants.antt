use Rattle.std.proofs.Common.{◌≡◌, map, take}
use Rattle.cv_frame.specs.Trees.{out_tree}
use Rattle.cv_frame.proofs.trees.outs_tree.Given as goal

-- the trees of what has been passed
abbrev pub invariant-loop-out : goal.invariant-loop-out
invariant-loop-out l = l.trees ≡ map out_tree (take l.out-index l.outs)
