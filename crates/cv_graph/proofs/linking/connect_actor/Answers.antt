use Rattle.std.proofs.Common.{◌<◌, length, Option, Err, subst, arith}
use Rattle.cv_graph.specs.declared.ways.Supply.{Supply}
use Rattle.std.proofs.lemmas.Result.{err_from_is_err_and}
use Rattle.cv_graph.specs.Links.{supplied, Linked}
use Rattle.cv_graph.specs.Ports.{actor_place}
use Rattle.cv_graph.proofs.Refusing.{stopped_unfed, links_next}
use Rattle.cv_graph.proofs.Segments.{inport_next}
use Rattle.cv_graph.proofs.linking.connect_actor.Goals as goal

pub returns-in_err-connections-clause-judged : goal.returns-in_err-connections-clause-judged
returns-in_err-connections-clause-judged c = λ parts known at.
    let p = err_from_is_err_and c.from_residual.result c.from_residual.ensures.1 in
    let inside : c.loop-number.number < length (actor_place c.args.actor.now).inports = omega (arith, c.loop-number-test.true, c.inports_of-number-end.ensures.count) in
    let told = subst (λ (o : Option Supply). Linked c.loop-number.connections.items c.args.to c.loop-number.number o c.args.actor.now.at (Err c.in_err-connections.field-0.0)) c.supply_of-supply.ensures c.in_err-connections.ensures in
    rw (p.1, p.2) (stopped_unfed parts _ (supplied c.args.feeders.now c.args.ways.now) c.args.actor.now c.args.to c.loop-number.number c.loop-number.connections.items _ known at inside (c.loop-number.invariant.left parts known at) told)

pub loop-number-preserved : goal.loop-number-preserved
loop-number-preserved c =
    let names = (actor_place c.args.actor.now).inports in
    let n = c.loop-number.number in
    let inside : c.loop-number.number < length (actor_place c.args.actor.now).inports = omega (arith, c.loop-number-test.true, c.inports_of-number-end.ensures.count) in
    let told = rw c.supply_of-supply.ensures at c.in_ok-connections.ensures in
    record {
      links = links_next c.loop-number.connections.items c.in_ok-connections.connections.items _ (supplied c.args.feeders.now c.args.ways.now) c.args.to n names inside told.1 c.loop-number.invariant.links;
      left = λ parts known at. inport_next parts _ (supplied c.args.feeders.now c.args.ways.now) c.args.actor.now c.args.to n known at inside (c.loop-number.invariant.left parts known at) told.0;
    }
