use Rattle.std.proofs.Common.{◌≡◌, map, take}
use Rattle.cv_entry.specs.Trees.{attr_member}
use Rattle.cv_entry.proofs.trees.attrs_tree.Given as goal

-- the members of the attributes passed so far
abbrev pub invariant-loop-attr : goal.invariant-loop-attr
invariant-loop-attr l = l.members ≡ map attr_member (take l.attr-index l.attr-items)
