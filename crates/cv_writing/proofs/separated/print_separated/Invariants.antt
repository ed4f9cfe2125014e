use Rattle.std.proofs.Common.{◌≡◌, ◌++◌, drop, string_bytes}
use Rattle.cv_readers.specs.Slots.{sep_slots}
use Rattle.cv_writing.specs.Printing.{printed, row}
use Rattle.cv_writing.proofs.separated.print_separated.Given as goal

-- what is left, behind what is printed
abbrev pub invariant-loop-next : goal.invariant-loop-next
invariant-loop-next g l = string_bytes l.out ++ row l.mark g.T.Printable.spell (drop l.next-index l.rest) ≡ string_bytes l.fn.out ++ printed (sep_slots l.mark g.T.Printable.spell l.fn.row)
