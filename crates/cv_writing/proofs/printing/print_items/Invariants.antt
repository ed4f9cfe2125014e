use Rattle.std.proofs.Common.{◌≡◌, ◌++◌, drop, string_bytes}
use Rattle.cv_readers.specs.Slots.{all_slots}
use Rattle.cv_syntax.specs.Spelling.{item_slots}
use Rattle.cv_writing.specs.Printing.{printed}
use Rattle.cv_writing.proofs.printing.print_items.Given as goal

-- what is left, behind what is printed
abbrev pub invariant-loop-item : goal.invariant-loop-item
invariant-loop-item l = string_bytes l.out ++ printed (all_slots item_slots (drop l.item-index l.item-items)) ≡ string_bytes l.fn.out ++ printed (all_slots item_slots l.fn.items)
