use Rattle.cv_frame.specs.laws.Shapes.{part_behind}
use Rattle.cv_entry.proofs.moves.hint_event.Goals as goal

pub returns-in_err-actor : goal.returns-in_err-actor
returns-in_err-actor c = rw c.from_residual-in_err-actor.ensures (λ actor n node k e. c.in_err-actor.ensures actor k.0 (part_behind _ _ _ _ _ 0 _ c.in_ok-rest.ensures.1 c.index-rest-0.is e))

pub returns-in_err-attempt : goal.returns-in_err-attempt
returns-in_err-attempt c = rw c.from_residual-in_err-attempt.ensures (λ actor n node k e. c.in_err-attempt.ensures n k.1 (part_behind _ _ _ _ _ 1 _ c.in_ok-rest.ensures.1 c.index-rest-1.is e))

pub returns-in_err-node : goal.returns-in_err-node
returns-in_err-node c = rw c.from_residual-in_err-node.ensures (λ actor n node k e. c.in_err-node.ensures node k.2 (part_behind _ _ _ _ _ 2 _ c.in_ok-rest.ensures.1 c.index-rest-2.is e))
