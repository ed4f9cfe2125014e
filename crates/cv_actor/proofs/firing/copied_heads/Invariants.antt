use Rattle.std.proofs.Common.{◌≡◌, ◌++◌, None, drop}
use Rattle.cv_behave.specs.KindRow.{needed, heads_of}
use Rattle.cv_kinds.specs.KindRow.{row_of}
use Rattle.cv_protocol.specs.Poll.{first_short, inputs}
use Rattle.cv_actor.proofs.firing.copied_heads.Given as goal

abbrev pub invariant-loop-port : goal.invariant-loop-port
invariant-loop-port l = record {
  held : first_short (needed (row_of l.spec.kind) l.spec.args l.action) l.port (drop l.port l.ins) ≡ None;
  whole : l.heads ++ heads_of (row_of l.spec.kind) l.spec.args l.action l.port (inputs (drop l.port l.ins)) ≡ heads_of (row_of l.spec.kind) l.spec.args l.action 0 (inputs l.ins);
}
