use Rattle.std.proofs.Common.{arith}
use Rattle.cv_alone.proofs.Sweeps.{swept_next}
use Rattle.cv_alone.proofs.sweep.poll_all.Goals as goal

pub loop-place-preserved : goal.loop-place-preserved
loop-place-preserved c =
    swept_next c.args.node.now c.loop-place.node c.poll.new.node c.loop-place.swept c.poll.new.swept c.args.most c.loop-place.place c.loop-place.invariant (omega (arith, c.loop-place.invariant.within, c.if-swept-most.false)) c.in_ok-poll.ensures.polled c.in_ok-poll.ensures.few
