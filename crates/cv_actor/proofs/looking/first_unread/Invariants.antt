use Rattle.std.proofs.Common.{◌≡◌, drop}
use Rattle.cv_behave.specs.KindRow.{needed}
use Rattle.cv_kinds.specs.KindRow.{row_of}
use Rattle.cv_protocol.specs.Poll.{first_unread}
use Rattle.cv_actor.proofs.looking.first_unread.Given as goal

abbrev pub invariant-loop-port : goal.invariant-loop-port
invariant-loop-port l = first_unread (needed (row_of l.spec.kind) l.spec.args l.action) l.port (drop l.port l.ins) ≡ first_unread (needed (row_of l.spec.kind) l.spec.args l.action) 0 l.ins
