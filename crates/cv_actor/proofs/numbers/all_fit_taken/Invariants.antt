use Rattle.std.proofs.Common.{◌≡◌, None, drop}
use Rattle.cv_behave.specs.KindRow.{needed}
use Rattle.cv_kinds.specs.KindRow.{row_of}
use Rattle.cv_protocol.specs.Poll.{first_short, without_needed, all_inlets_fit}
use Rattle.cv_actor.proofs.numbers.all_fit_taken.Given as goal

abbrev pub invariant-loop-port : goal.invariant-loop-port
invariant-loop-port l = record {
  held : first_short (needed (row_of l.spec.kind) l.spec.args l.action) l.port (drop l.port l.ins) ≡ None;
  whole : all_inlets_fit (without_needed (needed (row_of l.spec.kind) l.spec.args l.action) l.port (drop l.port l.ins)) ≡ all_inlets_fit (without_needed (needed (row_of l.spec.kind) l.spec.args l.action) 0 l.ins);
}
