use Rattle.std.proofs.Common.{◌≡◌, drop}
use Rattle.cv_behave.specs.KindRow.{given}
use Rattle.cv_kinds.specs.KindRow.{row_of}
use Rattle.cv_protocol.specs.Poll.{first_crowded}
use Rattle.cv_actor.proofs.looking.first_crowded.Given as goal

abbrev pub invariant-loop-port : goal.invariant-loop-port
invariant-loop-port l = first_crowded (given (row_of l.kind) l.action) l.port (drop l.port l.outs) ≡ first_crowded (given (row_of l.kind) l.action) 0 l.outs
