use Rattle.std.proofs.Common.{◌∙◌, ap, drop}
use Rattle.cv_solo.specs.declared.stream.Stream.{Stream}
use Rattle.cv_solo.proofs.Touched.{waits_at_this, waits_at_others}
use Rattle.cv_solo.proofs.solo.waiting_tokens.Goals as goal

pub returns-then-feeds : goal.returns-then-feeds
returns-then-feeds c =
    c.left_of.ensures
    ∙ ap (λ (s : Stream). drop s.took s.wrote) c.index-streams-place.is
    ∙ waits_at_this c.args.connections.now c.args.places.now c.args.streams.now c.args.actor c.args.port c.loop-place.place-index _ _ _ _
    c.requires.by_connection c.loop-place-test.true c.loop-place.invariant.within c.if-feeds.ensures c.loop-place.invariant.left

pub loop-place-preserved : goal.loop-place-preserved
loop-place-preserved c = record {
  left = waits_at_others c.args.connections.now c.args.places.now c.args.streams.now c.args.actor c.args.port c.loop-place.place-index _ _ _
      c.requires.by_connection c.loop-place-test.true c.loop-place.invariant.within c.if-feeds.ensures c.loop-place.invariant.left;
  within = c.loop-place.invariant.within;
}
