use Rattle.std.proofs.Common.{◌≡◌, drop}
use Rattle.cv_protocol.specs.Rows.{any_is_read}
use Rattle.cv_actor.proofs.joined.reads_any.Given as goal

abbrev pub invariant-loop-out : goal.invariant-loop-out
invariant-loop-out l = any_is_read l.actor (drop l.out-index l.outs) ≡ any_is_read l.actor l.outs
