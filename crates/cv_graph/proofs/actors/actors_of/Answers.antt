use Rattle.std.proofs.Common.{take}
use Rattle.std.proofs.lemmas.Result.{err_from_is_err_and}
use Rattle.cv_expand.specs.declared.flat.Actor.{Actor}
use Rattle.cv_expand.specs.Paths.{IsPath}
use Rattle.cv_kinds.specs.WellFormed.{IsSpec as IsSound}
use Rattle.cv_graph.proofs.Lists.{all_push, take_read}
use Rattle.cv_graph.proofs.Segments.{actor_next, actor_stop, specs_more}
use Rattle.cv_graph.proofs.actors.actors_of.Goals as goal

pub returns-in_err-spec-clause-judged : goal.returns-in_err-spec-clause-judged
returns-in_err-spec-clause-judged c =
    let p = err_from_is_err_and c.from_residual.result c.from_residual.ensures.1 in
    rw (p.1, p.2) (actor_stop c.args.parts.now _ c.as_slice-actor-items.result.now c.loop-actor.actor-index c.actor-item.result _ c.loop-actor-test.true c.actor-item.is c.loop-actor.invariant.left (c.in_err-spec.ensures.judged c.args.parts.now))

pub loop-actor-preserved : goal.loop-actor-preserved
loop-actor-preserved c =
    let xs = c.as_slice-actor-items.result.now in
    let i = c.loop-actor.actor-index in
    let x = c.actor-item.result in
    record {
      sound = rw c.in_ok-push.ensures.items (all_push IsSound c.loop-actor.specs.items c.in_ok-spec.spec c.loop-actor.invariant.sound c.in_ok-spec.ensures.sound);
      named = rw (take_read xs i x c.loop-actor-test.true c.actor-item.is) (all_push (λ (a : Actor). IsPath a.path) (take i xs) x c.loop-actor.invariant.named c.in_ok-spec.ensures.named);
      actors = rw c.in_ok-push.ensures.items (specs_more xs c.loop-actor.specs.items i x c.in_ok-spec.spec c.loop-actor-test.true c.actor-item.is c.loop-actor.invariant.actors c.in_ok-spec.ensures.actor);
      left = actor_next c.args.parts.now _ xs i x c.loop-actor-test.true c.actor-item.is c.loop-actor.invariant.left (c.in_ok-spec.ensures.judged c.args.parts.now);
    }
