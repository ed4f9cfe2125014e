use Rattle.cv_frame.specs.laws.Shapes.{part_behind}
use Rattle.cv_entry.proofs.steps.destroy_event.Goals as goal

pub returns-in_err-app : goal.returns-in_err-app
returns-in_err-app c = rw c.from_residual-in_err-app.ensures (λ app k e. c.in_err-app.ensures app k (part_behind _ _ _ _ _ 0 _ c.in_ok-rest.ensures.1 c.index-rest-0.is e))
