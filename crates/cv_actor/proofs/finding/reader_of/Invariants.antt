use Rattle.std.proofs.Common.{◌≡◌, drop}
use Rattle.cv_protocol.specs.Rows.{reader_of}
use Rattle.cv_actor.proofs.finding.reader_of.Given as goal

abbrev pub invariant-loop-number : goal.invariant-loop-number
invariant-loop-number l = reader_of l.conn l.number (drop l.number l.out.readers) ≡ reader_of l.conn 0 l.out.readers
