use Rattle.cv_alone.proofs.Sweeps.{passes_next}
use Rattle.cv_alone.proofs.sweep.pass_all.Goals as goal

pub loop-place-preserved : goal.loop-place-preserved
loop-place-preserved c =
    passes_next c.args.node.now c.loop-place.node c.pass.new.node c.loop-place.passed c.in_ok-passed.field-0 c.loop-place.place c.loop-place.invariant c.in_ok-passed.ensures.passed c.in_ok-passed.ensures.few
