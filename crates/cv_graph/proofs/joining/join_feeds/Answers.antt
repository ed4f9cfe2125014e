use Rattle.std.proofs.Common.{◌≡◌, [], ◌∷◌, ◌++◌, take, length, sym, subst, arith}
use Rattle.std.proofs.lemmas.Result.{err_from_is_err_and}
use Rattle.cv_graph.specs.Tables.{AreWires}
use Rattle.cv_graph.proofs.Lists.{take_read}
use Rattle.cv_graph.proofs.Refusing.{stopped_twice, once, wires_push}
use Rattle.cv_graph.proofs.Segments.{feed_next}
use Rattle.cv_graph.proofs.joining.join_feeds.Goals as goal

pub returns-in_err-feeders-clause-judged : goal.returns-in_err-feeders-clause-judged
returns-in_err-feeders-clause-judged c =
    let p = err_from_is_err_and c.from_residual-in_err-feeders.result c.from_residual-in_err-feeders.ensures.1 in
    let xs = c.as_slice-feed-items.result.now in
    let i = c.loop-feed.feed-index in
    let count : c.len.result ≡ length c.loop-feed.wires.items = omega (arith, c.len.ensures, c.loop-feed.wires.ok.0) in
    let told = c.in_err-feeders.ensures c.loop-feed.wires.items c.loop-feed.invariant.indexed count in
    rw (p.1, p.2) (stopped_twice c.args.parts.now _ xs c.loop-feed.wires.items i c.feed-item.result c.in_ok-wire.wire c.in_err-feeders.field-0.0 c.loop-feed-test.true c.feed-item.is c.loop-feed.invariant.wires c.in_ok-wire.ensures.wire c.loop-feed.invariant.left c.in_ok-wire.ensures.judged told)

pub loop-feed-preserved : goal.loop-feed-preserved
loop-feed-preserved c =
    let xs = c.as_slice-feed-items.result.now in
    let i = c.loop-feed.feed-index in
    let x = c.feed-item.result in
    let w = c.in_ok-wire.wire in
    let count : c.len.result ≡ length c.loop-feed.wires.items = omega (arith, c.len.ensures, c.loop-feed.wires.ok.0) in
    let told = c.in_ok-feeders.ensures c.loop-feed.wires.items c.loop-feed.invariant.indexed count in
    record {
      wires = rw c.in_ok-push.ensures.items (subst (λ fs. AreWires c.args.parts.now fs (c.loop-feed.wires.items ++ w ∷ [])) (sym (take_read xs i x c.loop-feed-test.true c.feed-item.is)) (wires_push c.args.parts.now (take i xs) c.loop-feed.wires.items x w c.loop-feed.invariant.wires c.in_ok-wire.ensures.wire));
      indexed = rw c.in_ok-push.ensures.items told.0;
      left = feed_next c.args.parts.now _ xs i x c.loop-feed-test.true c.feed-item.is c.loop-feed.invariant.left c.in_ok-wire.ensures.judged (once c.args.parts.now (take i xs) c.loop-feed.wires.items x w c.requires.apart c.loop-feed.invariant.wires c.in_ok-wire.ensures.wire told.1);
    }
