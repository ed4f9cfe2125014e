use Rattle.std.proofs.Common.{◌≡◌, drop}
use Rattle.cv_protocol.specs.Rows.{seat_of}
use Rattle.cv_actor.proofs.finding.seat_of.Given as goal

abbrev pub invariant-loop-place : goal.invariant-loop-place
invariant-loop-place l = seat_of l.conn l.place (drop l.place l.ins) ≡ seat_of l.conn 0 l.ins
