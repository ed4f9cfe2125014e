use Rattle.std.proofs.Common.{[], take, drop}
use Rattle.cv_graph.specs.Checks.{feed_checks}
use Rattle.cv_graph.specs.Tables.{AreWires, Indexed}
use Rattle.cv_graph.proofs.Judging.{Left}
use Rattle.cv_graph.proofs.joining.join_feeds.Given as goal

-- what is left decides
abbrev pub invariant-loop-feed : goal.invariant-loop-feed
invariant-loop-feed l = record {
  wires : AreWires l.parts (take l.feed-index l.feed-items) l.wires.items;
  indexed : Indexed l.wires.items l.feeders;
  left : Left l.parts (feed_checks [] l.parts.feeds) (feed_checks (take l.feed-index l.feed-items) (drop l.feed-index l.feed-items));
}
