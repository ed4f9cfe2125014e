use Rattle.std.proofs.Common.{◌≡◌, ◌++◌, drop, string_bytes}
use Rattle.cv_lex.specs.declared.word.Mark.TheVariants.{Comma}
use Rattle.cv_readers.specs.Slots.{sep_slots}
use Rattle.cv_syntax.specs.Spelling.{literal_slots}
use Rattle.cv_writing.specs.Printing.{printed, pair_slots, row}
use Rattle.cv_writing.proofs.print_values.+print_literals.Given as goal

-- what is left, behind what is printed
abbrev pub invariant-print_literals-loop-literal : goal.invariant-print_literals-loop-literal
invariant-print_literals-loop-literal l = string_bytes l.out ++ row Comma literal_slots (drop l.literal-index l.rest) ≡ string_bytes l.fn.out ++ printed (sep_slots Comma literal_slots l.fn.list)

abbrev pub invariant-print_pairs-loop-pair : goal.invariant-print_pairs-loop-pair
invariant-print_pairs-loop-pair l = string_bytes l.out ++ row Comma pair_slots (drop l.pair-index l.rest) ≡ string_bytes l.fn.out ++ printed (sep_slots Comma pair_slots l.fn.pairs)
