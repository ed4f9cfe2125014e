use Rattle.cv_merge.specs.Lanes.{entries_at, total}
use Rattle.cv_merge.proofs.Steps.{Listed}
use Rattle.cv_merge.proofs.merging.drain.Given as goal

-- the steps so far and what is left are the journals
abbrev pub invariant-loop-step : goal.invariant-loop-step
invariant-loop-step l = Listed (entries_at l.fn.sources) l.sources l.steps

abbrev pub decreases-loop-step : goal.decreases-loop-step
decreases-loop-step l = total l.sources
