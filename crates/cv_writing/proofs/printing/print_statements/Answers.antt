use Rattle.cv_syntax.specs.Spelling.{statement_slots}
use Rattle.cv_writing.proofs.Prints.{item_next}
use Rattle.cv_writing.proofs.printing.print_statements.Goals as goal

pub loop-statement-preserved : goal.loop-statement-preserved
loop-statement-preserved c =
    item_next statement_slots _ _ _ c.as_slice-statement-items.result.now c.loop-statement.statement-index c.statement-item.result c.loop-statement-test.true c.statement-item.is c.loop-statement.invariant c.in_ok-print_statement.ensures
