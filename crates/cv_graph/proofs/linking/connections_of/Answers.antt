use Rattle.std.proofs.Common.{◌<◌, length, refl, ap, arith}
use Rattle.std.proofs.lemmas.Option.{slice_get_read}
use Rattle.std.proofs.lemmas.Result.{err_from_is_err_and}
use Rattle.cv_graph.specs.Links.{supplied}
use Rattle.cv_graph.proofs.Refusing.{from_next}
use Rattle.cv_graph.proofs.Segments.{fed_next, fed_stop}
use Rattle.cv_graph.proofs.linking.connections_of.Goals as goal

pub returns-in_err-connections-clause-judged : goal.returns-in_err-connections-clause-judged
returns-in_err-connections-clause-judged c =
    let p = err_from_is_err_and c.from_residual.result c.from_residual.ensures.1 in
    let xs = c.args.parts.now.actors in
    let i = c.loop-to.to in
    let inside : c.loop-to.to < length c.args.parts.now.actors = omega (arith, c.loop-to-test.true, ap length c.as_slice-actor-items.ensures) in
    let read = rw c.as_slice-actor-items.ensures at c.actor-item.is in
    let at = slice_get_read xs (length xs) i c.actor-item.result refl inside read in
    rw (p.1, p.2) (fed_stop c.args.parts.now _ xs i c.actor-item.result _ inside read c.loop-to.invariant.left (c.in_err-connections.ensures.judged c.args.parts.now c.requires.supplied at))

pub loop-to-preserved : goal.loop-to-preserved
loop-to-preserved c =
    let xs = c.args.parts.now.actors in
    let i = c.loop-to.to in
    let inside : c.loop-to.to < length c.args.parts.now.actors = omega (arith, c.loop-to-test.true, ap length c.as_slice-actor-items.ensures) in
    let read = rw c.as_slice-actor-items.ensures at c.actor-item.is in
    let at = slice_get_read xs (length xs) i c.actor-item.result refl inside read in
    record {
      links = from_next c.loop-to.connections.items c.in_ok-connections.connections.items _ (supplied c.args.feeders.now c.args.ways.now) i xs c.actor-item.result inside read c.in_ok-connections.ensures.links c.loop-to.invariant.links;
      left = fed_next c.args.parts.now _ xs i c.actor-item.result inside read c.loop-to.invariant.left (c.in_ok-connections.ensures.judged c.args.parts.now c.requires.supplied at);
    }
