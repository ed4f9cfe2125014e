use Rattle.std.proofs.Common.{◌<◌, ◌∙◌, ap, length}
use Rattle.std.proofs.lemmas.List.{get_or_default}
use Rattle.cv_solo.specs.Undoing.{undone}
use Rattle.cv_solo.specs.OneRuntime.{stream_after}
use Rattle.cv_solo.proofs.Touched.{first_within, next_changed}
use Rattle.cv_solo.proofs.Undoings.{set_back}
use Rattle.cv_solo.proofs.solo.+advance.Goals as goal

pub returns-in-Err-clause-err : goal.returns-in-Err-clause-err
returns-in-Err-clause-err t c =
    set_back c.args.streams.now.items c.advance_all-rest.new.streams.items c.in-Some.first.now c.index_mut.result.now c.advance.new.stream c.index_mut-in-Err.result.now c.retreat.new.stream
    c.index_mut.ensures.value c.in-Err.ensures.err c.index_mut-in-Err.ensures.value
    (λ same. c.retreat.ensures ∙ ap (undone c.in_ok-change.change) same ∙ c.in_ok-change.ensures.back.1)

pub returns-clause-after : goal.returns-clause-after
returns-clause-after t c =
    let within : c.in-Some.first.now < length c.args.connections.now = first_within (length c.args.connections.now) c.args.places.now c.in-Some.rest.now c.in-Some.first.now c.in-Some.ensures.cases.0 c.requires.within in
    next_changed (λ j s. stream_after c.args.spec.now c.args.actor c.args.action c.args.out.now j s) c.args.connections.now c.args.places.now c.in-Some.rest.now c.args.streams.now.items c.advance_all-rest.new.streams.items c.in-Some.first.now _ c.index_mut.result.now c.advance.new.stream
    c.in-Some.ensures.cases.0 within (get_or_default c.args.connections.now c.in-Some.first.now _ _ within) c.index_mut.ensures.value c.in_ok-change.ensures.after c.in_default-rest.ensures.after
