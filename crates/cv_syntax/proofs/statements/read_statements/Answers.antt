use Rattle.std.proofs.Common.{sym, arith}
use Rattle.std.proofs.lemmas.Result.{err_from_is_err_and}
use Rattle.cv_readers.proofs.Repeats.{row_next, loop_fails, loop_over}
use Rattle.cv_syntax.specs.Whole.{most_levels, is_inside, statement_at}
use Rattle.cv_syntax.proofs.statements.read_statements.Goals as goal

pub returns-in_err-next-clause-value : goal.returns-in_err-next-clause-value
returns-in_err-next-clause-value c =
    let p = err_from_is_err_and c.from_residual.result c.from_residual.ensures.1 in
    rw (p.1, p.2) (loop_fails is_inside (statement_at most_levels) _ _ _ _ c.loop-alloc.invariant.0 (sym c.loop-alloc-test.ensures) c.in_err-next.ensures.value)

pub loop-alloc-preserved : goal.loop-alloc-preserved
loop-alloc-preserved c =
    (row_next is_inside (statement_at most_levels) _ _ _ _ _ _ c.loop-alloc.invariant.0 (sym c.loop-alloc-test.ensures) c.in_ok-next.ensures.value (omega (arith, c.in_ok-next.ensures.shorter)) c.in_ok-push.ensures.ok, omega (arith, c.in_ok-next.ensures.shorter))

pub returns-clause-value : goal.returns-clause-value
returns-clause-value c = loop_over is_inside (statement_at most_levels) _ _ _ c.loop-alloc.invariant.0 (sym c.loop-alloc-test.ensures)
