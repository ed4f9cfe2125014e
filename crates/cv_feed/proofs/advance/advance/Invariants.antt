use Rattle.std.proofs.Common.{◌≤◌, ◌-◌, drop, length}
use Rattle.cv_feed.specs.Streams.{Takes}
use Rattle.cv_feed.proofs.advance.advance.Given as goal

abbrev pub invariant-loop-message : goal.invariant-loop-message
invariant-loop-message g l = (l.at ≤ length l.bytes)
    × Takes g.T.Format.Spells l.fn.waiting.items l.waiting.items l.bytes (drop l.at l.bytes)

abbrev pub decreases-loop-message : goal.decreases-loop-message
decreases-loop-message g l = length l.bytes - l.at
