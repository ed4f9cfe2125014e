use Rattle.std.proofs.Common.{◌≡◌, drop}
use Rattle.cv_protocol.specs.Rows.{any_feeds}
use Rattle.cv_actor.proofs.joined.feeds_any.Given as goal

abbrev pub invariant-loop-inlet : goal.invariant-loop-inlet
invariant-loop-inlet l = any_feeds l.actor (drop l.inlet-index l.ins) ≡ any_feeds l.actor l.ins
