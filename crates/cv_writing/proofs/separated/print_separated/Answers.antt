use Rattle.std.proofs.Common.{sym, ◌∙◌}
use Rattle.cv_writing.proofs.Prints.{row_begun, row_next}
use Rattle.cv_writing.proofs.separated.print_separated.Goals as goal

pub loop-next-init : goal.loop-next-init
loop-next-init g c = row_begun c.args.mark g.T.Printable.spell _ _ c.in-Some.first.now c.in-Some.rest.now c.args.row.now (sym c.as_slice.ensures ∙ c.in-Some.ensures.cases.0) c.in_ok-print.ensures

pub loop-next-preserved : goal.loop-next-preserved
loop-next-preserved g c =
    row_next c.args.mark g.T.Printable.spell _ _ _ _ c.in-Some.rest.now c.loop-next.next-index c.next-item.result c.loop-next-test.true c.next-item.is c.loop-next.invariant c.in_ok-push_mark.ensures c.in_ok-print-2.ensures
