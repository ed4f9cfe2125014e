use Rattle.std.proofs.Common.{◌≡◌, ◌++◌, None, take, drop}
use Rattle.cv_behave.specs.KindRow.{needed}
use Rattle.cv_kinds.specs.KindRow.{row_of}
use Rattle.cv_protocol.specs.Poll.{first_unread, without_needed}
use Rattle.cv_actor.proofs.firing.take_needed.Given as goal

abbrev pub invariant-loop-port : goal.invariant-loop-port
invariant-loop-port l = record {
  read : first_unread (needed (row_of l.spec.kind) l.spec.args l.action) l.port (drop l.port l.ins) ≡ None;
  whole : take l.port l.ins ++ without_needed (needed (row_of l.spec.kind) l.spec.args l.action) l.port (drop l.port l.ins) ≡ without_needed (needed (row_of l.spec.kind) l.spec.args l.action) 0 l.fn.ins;
}
