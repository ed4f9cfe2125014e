use Rattle.cv_top.specs.Causes.{DoneOrFailed, FaultOrFailed, PlanOrFailed}
use Rattle.cv_top.proofs.Refusals.{by_end, success_ends, told_ends}
use Rattle.cv_top.proofs.top.calvin.Goals as goal

pub returns-in-Ok-clause-complete : goal.returns-in-Ok-clause-complete
returns-in-Ok-clause-complete g c = λ task bytes net asked fits told means. told_ends _ _ c.tell.result.end _ _ _ (success_ends _ _ _ _ _ c.in-Ok.ensures.decided) c.tell.ensures.told

pub returns-in-Ok-clause-faulty : goal.returns-in-Ok-clause-faulty
returns-in-Ok-clause-faulty g c = λ task bytes fault asked told has. absurd (c.in-Ok.ensures.faulty task bytes fault asked told has)

pub returns-in-Err-clause-complete : goal.returns-in-Err-clause-complete
returns-in-Err-clause-complete g c = λ task bytes net asked fits told means.
    by_end DoneOrFailed c.in-Err.refusal c.tell_refusal.result.end (c.in-Err.ensures.complete task bytes net asked fits told means) tt tt c.tell_refusal.ensures.ends

pub returns-in-Ok-clause-planned : goal.returns-in-Ok-clause-planned
returns-in-Ok-clause-planned g c = λ task stray bytes net asked fits told means. absurd (c.in-Ok.ensures.planned task stray bytes net asked fits told means)

pub returns-in-Err-clause-planned : goal.returns-in-Err-clause-planned
returns-in-Err-clause-planned g c = λ task stray bytes net asked fits told means.
    by_end (PlanOrFailed stray) c.in-Err.refusal c.tell_refusal.result.end (c.in-Err.ensures.planned task stray bytes net asked fits told means) tt tt c.tell_refusal.ensures.ends

pub returns-in-Err-clause-faulty : goal.returns-in-Err-clause-faulty
returns-in-Err-clause-faulty g c = λ task bytes fault asked told has.
    by_end (FaultOrFailed fault) c.in-Err.refusal c.tell_refusal.result.end (c.in-Err.ensures.faulty task bytes fault asked told has) tt tt c.tell_refusal.ensures.ends
