use Rattle.std.proofs.Common.{ℕ, List, sym, ◌∙◌, subst}
use Rattle.cv_deploy.specs.Faults.{Means, HasFault}
use Rattle.cv_top.proofs.Refusals.{read_whole, task_decided}
use Rattle.cv_top.proofs.top.do_source.Goals as goal

pub returns-clause-decided : goal.returns-clause-decided
returns-clause-decided g c =
    let read = c.in_ok-bytes.ensures in
    task_decided c.args.task _ c.in_ok-bytes.bytes.items c.do_task.result read.0 read.1 (rw c.as_slice.ensures.value at c.do_task.ensures.done) (rw c.as_slice.ensures.value at c.do_task.ensures.cause)

pub returns-clause-complete : goal.returns-clause-complete
returns-clause-complete g c = λ bytes net fits told means.
    let read = c.in_ok-bytes.ensures in
    c.do_task.ensures.complete net (subst (λ (bs : List ℕ). Means bs net) (read_whole _ _ c.in_ok-bytes.bytes.items bytes told.0 read.0.given read.0.ended ∙ sym c.as_slice.ensures.value) means) fits

pub returns-clause-planned : goal.returns-clause-planned
returns-clause-planned g c = λ stray bytes net fits told means.
    let read = c.in_ok-bytes.ensures in
    c.do_task.ensures.planned net stray (subst (λ (bs : List ℕ). Means bs net) (read_whole _ _ c.in_ok-bytes.bytes.items bytes told.0 read.0.given read.0.ended ∙ sym c.as_slice.ensures.value) means) fits

pub returns-clause-faulty : goal.returns-clause-faulty
returns-clause-faulty g c = λ bytes fault told has.
    let read = c.in_ok-bytes.ensures in
    let same = read_whole _ _ c.in_ok-bytes.bytes.items bytes told.0 read.0.given read.0.ended ∙ sym c.as_slice.ensures.value in
    c.do_task.ensures.faulty fault (subst (λ (bs : List ℕ). HasFault bs fault) same has)
