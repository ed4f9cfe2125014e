use Rattle.std.proofs.Common.{arith}
use Rattle.std.proofs.lemmas.Result.{err_from_is_err_and}
use Rattle.cv_lex.specs.declared.word.Mark.TheVariants.{Ampersand, Bar}
use Rattle.cv_readers.proofs.Repeats.{sep_next, sep_fails, loop_over}
use Rattle.cv_readers.specs.Combining.{sep}
use Rattle.cv_syntax.specs.Nested.{factor_at, terms_at}
use Rattle.cv_syntax.proofs.Nests.{lift_not_fails}
use Rattle.cv_syntax.proofs.nested.+factors.Goals as goal

pub read_term-returns-in_err-next-clause-value : goal.read_term-returns-in_err-next-clause-value
read_term-returns-in_err-next-clause-value t c =
    let p = err_from_is_err_and c.from_residual-in_err-next.result c.from_residual-in_err-next.ensures.1 in
    rw (p.1, p.2) (sep_fails Ampersand (factor_at c.args.levels) _ _ _ _ _ c.loop-after.invariant.0 c.in-Some.ensures.value c.in_err-next.ensures.value)

pub read_term-loop-after-preserved : goal.read_term-loop-after-preserved
read_term-loop-after-preserved t c =
    (sep_next Ampersand (factor_at c.args.levels) _ _ _ _ _ _ _ c.loop-after.invariant.0 c.in-Some.ensures.value c.in_ok-next.ensures.value (omega (arith, c.in-Some.ensures.shorter, c.in_ok-next.ensures.shorter)) c.in_ok-push-2.ensures.ok, omega (arith, c.in-Some.ensures.shorter, c.in_ok-next.ensures.shorter))

pub read_term-returns-clause-value : goal.read_term-returns-clause-value
read_term-returns-clause-value t c = loop_over _ _ _ _ _ c.loop-after.invariant.0 c.in_default.ensures.value

pub read_terms-returns-in_err-next-clause-value : goal.read_terms-returns-in_err-next-clause-value
unfolding terms_at
read_terms-returns-in_err-next-clause-value t c =
    let p = err_from_is_err_and c.from_residual-in_err-next.result c.from_residual-in_err-next.ensures.1 in
    rw (p.1, p.2) (sep_fails Bar (sep Ampersand (factor_at c.args.levels)) _ _ _ _ _ c.loop-after.invariant.0 c.in-Some.ensures.value c.in_err-next.ensures.value)

pub read_terms-loop-after-preserved : goal.read_terms-loop-after-preserved
read_terms-loop-after-preserved t c =
    (sep_next Bar (sep Ampersand (factor_at c.args.levels)) _ _ _ _ _ _ _ c.loop-after.invariant.0 c.in-Some.ensures.value c.in_ok-next.ensures.value (omega (arith, c.in-Some.ensures.shorter, c.in_ok-next.ensures.shorter)) c.in_ok-push-2.ensures.ok, omega (arith, c.in-Some.ensures.shorter, c.in_ok-next.ensures.shorter))

pub read_terms-returns-clause-value : goal.read_terms-returns-clause-value
unfolding terms_at
read_terms-returns-clause-value t c = loop_over _ _ _ _ _ c.loop-after.invariant.0 c.in_default.ensures.value

pub read_lift-returns-in_err-factor-clause-value : goal.read_lift-returns-in_err-factor-clause-value
read_lift-returns-in_err-factor-clause-value t c =
    let p = err_from_is_err_and c.from_residual.result c.from_residual.ensures.1 in
    rw (p.1, p.2) (lift_not_fails _ _ _ _ _ c.in-Some.ensures c.in-Some-skip_mark.ensures.value c.in_err-factor.ensures.value)
