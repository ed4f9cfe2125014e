use Rattle.std.proofs.Common.{◌≡◌, ◌-◌, ◌++◌}
use Rattle.cv_behave.specs.KindRow.{heads_of}
use Rattle.cv_kinds.specs.KindRow.{row_of}
use Rattle.cv_solo.specs.OneRuntime.{inputs_from}
use Rattle.cv_solo.proofs.solo.copied_heads.Given as goal

abbrev pub invariant-loop-port : goal.invariant-loop-port
invariant-loop-port l = l.heads ++ heads_of (row_of l.spec.kind) l.spec.args l.action l.port (inputs_from l.connections l.streams l.actor l.port ((row_of l.spec.kind).inports - l.port)) ≡ heads_of (row_of l.spec.kind) l.spec.args l.action 0 (inputs_from l.connections l.streams l.actor 0 (row_of l.spec.kind).inports)
