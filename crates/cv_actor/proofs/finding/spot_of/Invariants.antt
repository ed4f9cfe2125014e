use Rattle.std.proofs.Common.{◌≡◌, drop}
use Rattle.cv_protocol.specs.Rows.{spot_of}
use Rattle.cv_actor.proofs.finding.spot_of.Given as goal

abbrev pub invariant-loop-out : goal.invariant-loop-out
invariant-loop-out l = spot_of l.conn l.out (drop l.out l.outs) ≡ spot_of l.conn 0 l.outs
