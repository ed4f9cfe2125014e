use Rattle.std.proofs.Common.{◌≡◌, map, take}
use Rattle.cv_frame.specs.Trees.{inlet_tree}
use Rattle.cv_frame.proofs.trees.inlets_tree.Given as goal

-- the trees of what has been passed
abbrev pub invariant-loop-inlet : goal.invariant-loop-inlet
invariant-loop-inlet l = l.trees ≡ map inlet_tree (take l.inlet-index l.inlets)
