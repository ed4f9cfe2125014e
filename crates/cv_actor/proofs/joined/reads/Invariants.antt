use Rattle.std.proofs.Common.{◌≡◌, drop}
use Rattle.cv_protocol.specs.Rows.{any_reads}
use Rattle.cv_actor.proofs.joined.reads.Given as goal

abbrev pub invariant-loop-number : goal.invariant-loop-number
invariant-loop-number l = any_reads l.actor (drop l.number l.out.readers) ≡ any_reads l.actor l.out.readers
