use Rattle.std.proofs.Common.{sym, subst}
use Rattle.cv_top.specs.Causes.{IsRefusalOf, DoneOrFailed, FaultOrFailed, PlanOrFailed, end_of}
use Rattle.cv_top.proofs.Refusals.{done_so, fault_told, memory_alone, planned_cause, planned_none, planned_so, told_cause}
use Rattle.cv_top.proofs.running.do_task.Goals as goal

pub returns-in-Ok-clause-done : goal.returns-in-Ok-clause-done
returns-in-Ok-clause-done g c = done_so c.args.task c.args.bytes.now c.in-Ok.net c.do_planned.result c.in-Ok.ensures.found c.in-Ok.ensures.wired c.do_planned.ensures.done

pub returns-in-Ok-clause-cause : goal.returns-in-Ok-clause-cause
returns-in-Ok-clause-cause g c = planned_cause c.args.task c.args.bytes.now c.in-Ok.net c.do_planned.result c.in-Ok.ensures.found c.do_planned.ensures.refused

pub returns-in-Ok-clause-complete : goal.returns-in-Ok-clause-complete
returns-in-Ok-clause-complete g c = λ net means fits. planned_none c.args.task c.do_planned.result fits c.do_planned.ensures.refused

pub returns-in-Ok-clause-planned : goal.returns-in-Ok-clause-planned
returns-in-Ok-clause-planned g c = λ net stray means fits. planned_so c.args.task c.in-Ok.net c.do_planned.result stray fits c.do_planned.ensures.done c.do_planned.ensures.refused

pub returns-in-Ok-clause-faulty : goal.returns-in-Ok-clause-faulty
returns-in-Ok-clause-faulty g c = λ fault has. absurd (c.in-Ok.ensures.faulty fault has)

pub returns-in-Err-clause-cause : goal.returns-in-Err-clause-cause
returns-in-Err-clause-cause g c = subst (λ x. IsRefusalOf c.args.task c.args.bytes.now x) (sym c.refusal_of.ensures) (told_cause c.args.task c.args.bytes.now _ c.in-Err.ensures.fault)

pub returns-in-Err-clause-complete : goal.returns-in-Err-clause-complete
returns-in-Err-clause-complete g c = λ net means fits. subst (λ x. DoneOrFailed (end_of x)) (sym c.refusal_of.ensures) (memory_alone DoneOrFailed _ net tt (c.in-Err.ensures.only net means))

pub returns-in-Err-clause-planned : goal.returns-in-Err-clause-planned
returns-in-Err-clause-planned g c = λ net stray means fits. subst (λ x. PlanOrFailed stray (end_of x)) (sym c.refusal_of.ensures) (memory_alone (PlanOrFailed stray) _ net tt (c.in-Err.ensures.only net means))

pub returns-in-Err-clause-faulty : goal.returns-in-Err-clause-faulty
returns-in-Err-clause-faulty g c = λ fault has. subst (λ x. FaultOrFailed fault (end_of x)) (sym c.refusal_of.ensures) (fault_told _ fault (c.in-Err.ensures.faulty fault has))
