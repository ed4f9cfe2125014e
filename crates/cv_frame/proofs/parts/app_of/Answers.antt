use Rattle.cv_frame.specs.laws.Shapes.{part}
use Rattle.cv_frame.proofs.parts.app_of.Goals as goal

pub returns-in_err-node : goal.returns-in_err-node
returns-in_err-node c = rw c.from_residual-in_err-node.ensures (λ v k e. c.in_err-node.ensures v.node k.node (part _ _ _ 0 _ c.in_ok-parts.ensures.1 c.index-parts-0.is e))

pub returns-in_err-seq : goal.returns-in_err-seq
returns-in_err-seq c = rw c.from_residual-in_err-seq.ensures (λ v k e. c.in_err-seq.ensures v.seq k.seq (part _ _ _ 1 _ c.in_ok-parts.ensures.1 c.index-parts-1.is e))
