use Rattle.std.proofs.Common.{arith}
use Rattle.std.proofs.lemmas.Result.{err_from_is_err_and}
use Rattle.cv_lex.specs.declared.word.Mark.TheVariants.{Comma}
use Rattle.cv_readers.proofs.Repeats.{sep_next, sep_fails, loop_over}
use Rattle.cv_syntax.specs.Nested.{literal_at, pair_with}
use Rattle.cv_syntax.proofs.Nests.{nest_list_ok, nest_list_fails}
use Rattle.cv_syntax.proofs.nested.+literals.Goals as goal

pub read_literal_row-returns-in_err-next-clause-value : goal.read_literal_row-returns-in_err-next-clause-value
read_literal_row-returns-in_err-next-clause-value t c =
    let p = err_from_is_err_and c.from_residual-in_err-next.result c.from_residual-in_err-next.ensures.1 in
    rw (p.1, p.2) (sep_fails Comma (literal_at c.args.levels) _ _ _ _ _ c.loop-after.invariant.0 c.in-Some.ensures.value c.in_err-next.ensures.value)

pub read_literal_row-loop-after-preserved : goal.read_literal_row-loop-after-preserved
read_literal_row-loop-after-preserved t c =
    (sep_next Comma (literal_at c.args.levels) _ _ _ _ _ _ _ c.loop-after.invariant.0 c.in-Some.ensures.value c.in_ok-next.ensures.value (omega (arith, c.in-Some.ensures.shorter, c.in_ok-next.ensures.shorter)) c.in_ok-push-2.ensures.ok, omega (arith, c.in-Some.ensures.shorter, c.in_ok-next.ensures.shorter))

pub read_literal_row-returns-clause-value : goal.read_literal_row-returns-clause-value
read_literal_row-returns-clause-value t c = loop_over _ _ _ _ _ c.loop-after.invariant.0 c.in_default.ensures.value

pub read_pair_row-returns-in_err-next-clause-value : goal.read_pair_row-returns-in_err-next-clause-value
read_pair_row-returns-in_err-next-clause-value t c =
    let p = err_from_is_err_and c.from_residual-in_err-next.result c.from_residual-in_err-next.ensures.1 in
    rw (p.1, p.2) (sep_fails Comma (pair_with (literal_at c.args.levels)) _ _ _ _ _ c.loop-after.invariant.0 c.in-Some.ensures.value c.in_err-next.ensures.value)

pub read_pair_row-loop-after-preserved : goal.read_pair_row-loop-after-preserved
read_pair_row-loop-after-preserved t c =
    (sep_next Comma (pair_with (literal_at c.args.levels)) _ _ _ _ _ _ _ c.loop-after.invariant.0 c.in-Some.ensures.value c.in_ok-next.ensures.value (omega (arith, c.in-Some.ensures.shorter, c.in_ok-next.ensures.shorter)) c.in_ok-push-2.ensures.ok, omega (arith, c.in-Some.ensures.shorter, c.in_ok-next.ensures.shorter))

pub read_pair_row-returns-clause-value : goal.read_pair_row-returns-clause-value
read_pair_row-returns-clause-value t c = loop_over _ _ _ _ _ c.loop-after.invariant.0 c.in_default.ensures.value

pub read_nest-returns-in_err-list-clause-value : goal.read_nest-returns-in_err-list-clause-value
read_nest-returns-in_err-list-clause-value t c =
    let p = err_from_is_err_and c.from_residual.result c.from_residual.ensures.1 in
    rw (p.1, p.2) (nest_list_fails _ _ _ _ _ c.in-Some.ensures c.in-Some-skip_mark.ensures.value c.in_err-list.ensures.value)

pub read_nest-returns-in-Some-skip_mark-clause-value : goal.read_nest-returns-in-Some-skip_mark-clause-value
read_nest-returns-in-Some-skip_mark-clause-value t c =
    nest_list_ok _ _ _ _ _ _ c.in-Some.ensures c.in-Some-skip_mark.ensures.value c.in_ok-list.ensures.value
