use Rattle.cv_frame.specs.laws.Shapes.{part_behind}
use Rattle.cv_frame.proofs.frames.receipt_of.Goals as goal

pub returns-in_err-conn : goal.returns-in_err-conn
returns-in_err-conn c = rw c.from_residual-in_err-conn.ensures (λ conn actor n j k m e. c.in_err-conn.ensures conn j (part_behind _ _ _ _ _ 0 _ c.in_ok-rest.ensures.1 c.index-rest-0.is e))

pub returns-in_err-actor : goal.returns-in_err-actor
returns-in_err-actor c = rw c.from_residual-in_err-actor.ensures (λ conn actor n j k m e. c.in_err-actor.ensures actor k (part_behind _ _ _ _ _ 1 _ c.in_ok-rest.ensures.1 c.index-rest-1.is e))

pub returns-in_err-count : goal.returns-in_err-count
returns-in_err-count c = rw c.from_residual-in_err-count.ensures (λ conn actor n j k m e. c.in_err-count.ensures n m (part_behind _ _ _ _ _ 2 _ c.in_ok-rest.ensures.1 c.index-rest-2.is e))
