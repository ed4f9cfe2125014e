use Rattle.std.proofs.Common.{ℕ, ◌<◌, ◌≤◌}
use Rattle.cv_behave.specs.KindRow.{needed}
use Rattle.cv_kinds.specs.KindRow.{row_of}
use Rattle.cv_graph.specs.Meaning.{most_waiting}
use Rattle.cv_graph.proofs.queues.fits_queues.Given as goal

abbrev pub invariant-loop-action : goal.invariant-loop-action
invariant-loop-action l = (action port : ℕ) → action < l.action → port < (row_of l.spec.kind).inports → needed (row_of l.spec.kind) l.spec.args action port ≤ most_waiting
