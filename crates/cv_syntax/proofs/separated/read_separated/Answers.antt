use Rattle.std.proofs.Common.{arith}
use Rattle.std.proofs.lemmas.Result.{err_from_is_err_and}
use Rattle.cv_readers.proofs.Repeats.{sep_next, sep_fails, loop_over}
use Rattle.cv_syntax.proofs.separated.read_separated.Goals as goal

pub returns-in_err-next-clause-value : goal.returns-in_err-next-clause-value
returns-in_err-next-clause-value g c =
    let p = err_from_is_err_and c.from_residual-in_err-next.result c.from_residual-in_err-next.ensures.1 in
    rw (p.1, p.2) (sep_fails c.args.mark g.T.Readable.readable_at _ _ _ _ _ c.loop-after.invariant.0 c.in-Some.ensures.value c.in_err-next.ensures.value)

pub loop-after-preserved : goal.loop-after-preserved
loop-after-preserved g c =
    (sep_next c.args.mark g.T.Readable.readable_at _ _ _ _ _ _ _ c.loop-after.invariant.0 c.in-Some.ensures.value c.in_ok-next.ensures.value (omega (arith, c.in-Some.ensures.shorter, c.in_ok-next.ensures.shorter)) c.in_ok-push-2.ensures.ok, omega (arith, c.in-Some.ensures.shorter, c.in_ok-next.ensures.shorter))

pub returns-clause-value : goal.returns-clause-value
returns-clause-value g c = loop_over _ _ _ _ _ c.loop-after.invariant.0 c.in_default.ensures.value
