use Rattle.cv_syntax.specs.Spelling.{item_slots}
use Rattle.cv_writing.proofs.Prints.{item_next}
use Rattle.cv_writing.proofs.printing.print_items.Goals as goal

pub loop-item-preserved : goal.loop-item-preserved
loop-item-preserved c =
    item_next item_slots _ _ _ c.as_slice-item-items.result.now c.loop-item.item-index c.item-item.result c.loop-item-test.true c.item-item.is c.loop-item.invariant c.in_ok-print_item.ensures
