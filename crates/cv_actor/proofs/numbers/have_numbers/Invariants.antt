use Rattle.std.proofs.Common.{◌≡◌, drop}
use Rattle.cv_behave.specs.KindRow.{given}
use Rattle.cv_kinds.specs.KindRow.{row_of}
use Rattle.cv_actor.specs.Room.{have_numbers}
use Rattle.cv_actor.proofs.numbers.have_numbers.Given as goal

abbrev pub invariant-loop-port : goal.invariant-loop-port
invariant-loop-port l = have_numbers (given (row_of l.kind) l.action) l.port (drop l.port l.outs) ≡ have_numbers (given (row_of l.kind) l.action) 0 l.outs
