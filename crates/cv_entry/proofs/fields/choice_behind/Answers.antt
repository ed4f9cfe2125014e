use Rattle.cv_frame.specs.laws.Shapes.{part_behind}
use Rattle.cv_entry.proofs.fields.choice_behind.Goals as goal

pub returns-in_err-actor : goal.returns-in_err-actor
returns-in_err-actor c = rw c.from_residual-in_err-actor.ensures (λ actor n j k e. c.in_err-actor.ensures actor j (part_behind _ _ _ _ _ 0 _ c.in_ok-rest.ensures.1 c.index-rest-0.is e))

pub returns-in_err-place : goal.returns-in_err-place
returns-in_err-place c = rw c.from_residual-in_err-place.ensures (λ actor n j k e. c.in_err-place.ensures n k (part_behind _ _ _ _ _ 1 _ c.in_ok-rest.ensures.1 c.index-rest-1.is e))
