use Rattle.cv_frame.specs.laws.Shapes.{part_behind}
use Rattle.cv_entry.proofs.steps.tick_event.Goals as goal

pub returns-in_err-now : goal.returns-in_err-now
returns-in_err-now c = rw c.from_residual-in_err-now.ensures (λ now k e. c.in_err-now.ensures now k (part_behind _ _ _ _ _ 0 _ c.in_ok-rest.ensures.1 c.index-rest-0.is e))
