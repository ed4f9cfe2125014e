use Rattle.std.proofs.Common.{Some, map, string_bytes, sym, ◌∙◌, ap}
use Rattle.cv_words.specs.Asked.{stray_of}
use Rattle.cv_top.proofs.Refusals.{asked_task, gen_answered, task_answered}
use Rattle.cv_top.proofs.top.answer.Goals as goal

pub returns-in-Some-Script-clause-decided : goal.returns-in-Some-Script-clause-decided
returns-in-Some-Script-clause-decided g c = task_answered (map string_bytes c.args.words.now) _ c.in-Some-Script.task c.do_source.result (sym c.read_command.ensures ∙ c.in-Some-Script.is ∙ ap (λ x. Some x) c.in-Some-Script.field-0-is) c.do_source.ensures.decided

pub returns-in-Some-Script-clause-complete : goal.returns-in-Some-Script-clause-complete
returns-in-Some-Script-clause-complete g c = λ task bytes net asked fits told means.
    let same = asked_task (map string_bytes c.args.words.now) task c.in-Some-Script.task asked (sym c.read_command.ensures ∙ c.in-Some-Script.is ∙ ap (λ x. Some x) c.in-Some-Script.field-0-is) in
    c.do_source.ensures.complete bytes net (sym (ap stray_of same) ∙ fits) told means

pub returns-in-Some-Script-clause-planned : goal.returns-in-Some-Script-clause-planned
returns-in-Some-Script-clause-planned g c = λ task stray bytes net asked fits told means.
    let same = asked_task (map string_bytes c.args.words.now) task c.in-Some-Script.task asked (sym c.read_command.ensures ∙ c.in-Some-Script.is ∙ ap (λ x. Some x) c.in-Some-Script.field-0-is) in
    c.do_source.ensures.planned stray bytes net (sym (ap stray_of same) ∙ fits) told means

pub returns-in-Some-Script-clause-faulty : goal.returns-in-Some-Script-clause-faulty
returns-in-Some-Script-clause-faulty g c = λ task bytes fault asked told has. c.do_source.ensures.faulty bytes fault told has

pub returns-in-Some-Gen-clause-decided : goal.returns-in-Some-Gen-clause-decided
returns-in-Some-Gen-clause-decided g c =
    gen_answered (map string_bytes c.args.words.now) _ _ c.in-Some-Gen.number c.generate.result (sym c.read_command.ensures ∙ c.in-Some-Gen.is ∙ ap (λ x. Some x) c.in-Some-Gen.field-0-is) c.generate.ensures
