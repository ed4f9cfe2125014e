use Rattle.std.proofs.Common.{drop}
use Rattle.cv_graph.specs.Checks.{queue_checks}
use Rattle.cv_graph.proofs.Judging.{Left}
use Rattle.cv_graph.proofs.queues.check_queues.Given as goal

-- what is left decides
abbrev pub invariant-loop-number : goal.invariant-loop-number
invariant-loop-number l = Left l.parts (queue_checks l.parts.actors) (queue_checks (drop l.number l.parts.actors))
