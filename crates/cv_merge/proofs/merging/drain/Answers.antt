use Rattle.std.proofs.Common.{sym, subst, List}
use Rattle.cv_protocol.specs.declared.event.Step.{Step}
use Rattle.cv_merge.specs.Lanes.{entries_at}
use Rattle.cv_merge.proofs.Steps.{Listed, listed_more, listed_all}
use Rattle.cv_merge.proofs.merging.drain.Goals as goal

pub loop-step-preserved : goal.loop-step-preserved
loop-step-preserved c =
    let more = listed_more (entries_at c.args.sources.now) c.loop-step.sources c.next_step.new.sources c.loop-step.steps c.in-Some.step c.loop-step.invariant c.in-Some.ensures in
    subst (λ (m : List Step). Listed (entries_at c.args.sources.now) c.next_step.new.sources m) (sym c.in_ok-push.ensures.ok) more

pub returns : goal.returns
returns c =
    listed_all (entries_at c.args.sources.now) c.loop-step.sources c.loop-step.steps c.loop-step.invariant c.in_default.ensures
