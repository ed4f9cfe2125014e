use Rattle.std.proofs.Common.{ℕ, ◌<◌, ◌≤◌}
use Rattle.cv_behave.specs.KindRow.{needed}
use Rattle.cv_kinds.specs.KindRow.{row_of}
use Rattle.cv_graph.specs.Meaning.{most_waiting}
use Rattle.cv_graph.proofs.queues.action_fits.Given as goal

abbrev pub invariant-loop-port : goal.invariant-loop-port
invariant-loop-port l = (port : ℕ) → port < l.port → needed (row_of l.spec.kind) l.spec.args l.action port ≤ most_waiting
