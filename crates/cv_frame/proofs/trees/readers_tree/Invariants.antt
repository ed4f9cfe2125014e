use Rattle.std.proofs.Common.{◌≡◌, ◌≤◌, length, map, take}
use Rattle.cv_frame.specs.Trees.{reader_tree}
use Rattle.cv_frame.proofs.trees.readers_tree.Given as goal

-- the trees of the readers that have been passed
abbrev pub invariant-loop-i : goal.invariant-loop-i
invariant-loop-i l = (l.readers ≡ map reader_tree (take l.i l.port.readers)) × (l.i ≤ length l.port.readers)
