use Rattle.cv_frame.specs.laws.Shapes.{part_behind}
use Rattle.cv_entry.proofs.moves.freeze_event.Goals as goal

pub returns-in_err-actor : goal.returns-in_err-actor
returns-in_err-actor c = rw c.from_residual-in_err-actor.ensures (λ actor to k e. c.in_err-actor.ensures actor k.0 (part_behind _ _ _ _ _ 0 _ c.in_ok-rest.ensures.1 c.index-rest-0.is e))

pub returns-in_err-to : goal.returns-in_err-to
returns-in_err-to c = rw c.from_residual-in_err-to.ensures (λ actor to k e. c.in_err-to.ensures to k.1 (part_behind _ _ _ _ _ 1 _ c.in_ok-rest.ensures.1 c.index-rest-1.is e))
