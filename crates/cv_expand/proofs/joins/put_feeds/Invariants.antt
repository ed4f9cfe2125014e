use Rattle.std.proofs.Common.{◌≡◌, drop}
use Rattle.cv_expand.specs.Walk.{feed_events}
use Rattle.cv_expand.specs.Runs.{run}
use Rattle.cv_expand.proofs.joins.put_feeds.Given as goal

-- what is left decides
abbrev pub invariant-loop-aim : goal.invariant-loop-aim
invariant-loop-aim l = run l.flat (feed_events l.spot l.seen l.join (drop l.aim-index l.aim-items)) ≡ run l.fn.flat (feed_events l.spot l.seen l.join l.join.targets)
