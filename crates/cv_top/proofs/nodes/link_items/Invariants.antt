use Rattle.std.proofs.Common.{◌≡◌, map, take}
use Rattle.cv_top.specs.Ran.{link_item}
use Rattle.cv_top.proofs.nodes.link_items.Given as goal

abbrev pub invariant-loop-item : goal.invariant-loop-item
invariant-loop-item l = l.made.items ≡ map link_item (take l.item-index l.items)
