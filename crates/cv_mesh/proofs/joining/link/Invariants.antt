use Rattle.std.proofs.Common.{◌≡◌, fold, take}
use Rattle.cv_link.specs.Items.{no_items, with_item}
use Rattle.cv_mesh.proofs.joining.link.Given as goal

-- those passed are in it
abbrev pub invariant-loop-item : goal.invariant-loop-item
invariant-loop-item l = l.link ≡ fold with_item (no_items l.fn.from l.fn.to) (take l.item-index l.fn.items)
