use Rattle.std.proofs.Common.{◌≡◌, ◌++◌, drop, string_bytes}
use Rattle.cv_readers.specs.Slots.{all_slots}
use Rattle.cv_syntax.specs.Spelling.{statement_slots}
use Rattle.cv_writing.specs.Printing.{printed}
use Rattle.cv_writing.proofs.printing.print_statements.Given as goal

-- what is left, behind what is printed
abbrev pub invariant-loop-statement : goal.invariant-loop-statement
invariant-loop-statement l = string_bytes l.out ++ printed (all_slots statement_slots (drop l.statement-index l.statement-items)) ≡ string_bytes l.fn.out ++ printed (all_slots statement_slots l.fn.statements)
