use Rattle.cv_frame.specs.laws.Shapes.{part}
use Rattle.cv_frame.proofs.parts.actor_of.Goals as goal

pub returns-in_err-node : goal.returns-in_err-node
returns-in_err-node c = rw c.from_residual-in_err-node.ensures (λ v k e. c.in_err-node.ensures v.app.node k.app.node (part _ _ _ 0 _ c.in_ok-parts.ensures.1 c.index-parts-0.is e))

pub returns-in_err-seq : goal.returns-in_err-seq
returns-in_err-seq c = rw c.from_residual-in_err-seq.ensures (λ v k e. c.in_err-seq.ensures v.app.seq k.app.seq (part _ _ _ 1 _ c.in_ok-parts.ensures.1 c.index-parts-1.is e))

pub returns-in_err-actor : goal.returns-in_err-actor
returns-in_err-actor c = rw c.from_residual-in_err-actor.ensures (λ v k e. c.in_err-actor.ensures v.actor k.actor (part _ _ _ 2 _ c.in_ok-parts.ensures.1 c.index-parts-2.is e))
