use Rattle.cv_frame.specs.laws.Shapes.{part_behind}
use Rattle.cv_entry.proofs.carried.meet_event.Goals as goal

pub returns-in_default-node_of : goal.returns-in_default-node_of
returns-in_default-node_of c = λ node attrs k e. c.in_default-node_of.ensures node k.0 (part_behind _ _ _ _ _ 0 _ c.in-Some.ensures.1 c.index-rest-0.is e)

pub returns-in_default-2 : goal.returns-in_default-2
returns-in_default-2 c = λ node attrs k e. (rw c.in_default-2.is at c.in_ok-attrs.ensures) attrs k.1 (part_behind _ _ _ _ _ 1 _ c.in-Some.ensures.1 c.index-rest-1.is e)
