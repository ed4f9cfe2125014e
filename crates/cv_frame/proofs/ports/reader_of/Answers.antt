use Rattle.cv_frame.specs.laws.Shapes.{part}
use Rattle.cv_frame.proofs.ports.reader_of.Goals as goal

pub returns-in_err-conn : goal.returns-in_err-conn
returns-in_err-conn c = rw c.from_residual-in_err-conn.ensures (λ v k e. c.in_err-conn.ensures v.conn k.conn (part _ _ _ 0 _ c.in_ok-parts.ensures.1 c.index-parts-0.is e))

pub returns-in_err-consumer : goal.returns-in_err-consumer
returns-in_err-consumer c = rw c.from_residual-in_err-consumer.ensures (λ v k e. c.in_err-consumer.ensures v.consumer k.consumer (part _ _ _ 1 _ c.in_ok-parts.ensures.1 c.index-parts-1.is e))

pub returns-in_err-acked : goal.returns-in_err-acked
returns-in_err-acked c = rw c.from_residual-in_err-acked.ensures (λ v k e. c.in_err-acked.ensures v.acked k.acked (part _ _ _ 2 _ c.in_ok-parts.ensures.1 c.index-parts-2.is e))
