use Rattle.std.proofs.Common.{length, map}
use Rattle.cv_record.specs.Journals.{view_of}
use Rattle.cv_record.proofs.Standing.{Stands}
use Rattle.cv_record.proofs.reading.read.Given as goal

abbrev pub invariant-loop-rest : goal.invariant-loop-rest
invariant-loop-rest l = Stands l.bytes (map view_of l.journals.items) l.rest l.above l.line

abbrev pub decreases-loop-rest : goal.decreases-loop-rest
decreases-loop-rest l = length l.rest
