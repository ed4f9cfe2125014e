use Rattle.std.proofs.Common.{arith}
use Rattle.std.proofs.lemmas.Result.{err_from_is_err_and}
use Rattle.cv_readers.proofs.Repeats.{row_next, loop_fails, loop_over}
use Rattle.cv_syntax.specs.Whole.{most_levels, is_anything, item_at, items_at}
use Rattle.cv_syntax.proofs.Nests.{some_word, no_word}
use Rattle.cv_syntax.proofs.roots.read_items.Goals as goal

pub returns-in_err-next : goal.returns-in_err-next
unfolding items_at
returns-in_err-next c =
    let p = err_from_is_err_and c.from_residual.result c.from_residual.ensures.1 in
    rw (p.1, p.2) (loop_fails is_anything (item_at most_levels) _ _ _ _ c.loop-alloc.invariant (some_word _ c.loop-alloc-test.ensures) c.in_err-next.ensures.value)

pub loop-alloc-preserved : goal.loop-alloc-preserved
loop-alloc-preserved c =
    row_next is_anything (item_at most_levels) _ _ _ _ _ _ c.loop-alloc.invariant (some_word _ c.loop-alloc-test.ensures) c.in_ok-next.ensures.value (omega (arith, c.in_ok-next.ensures.shorter)) c.in_ok-push.ensures.ok

pub returns : goal.returns
unfolding items_at
returns c = loop_over is_anything (item_at most_levels) _ _ _ c.loop-alloc.invariant (no_word _ c.loop-alloc-test.ensures)
