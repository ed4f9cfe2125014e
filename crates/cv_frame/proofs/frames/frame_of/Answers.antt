use Rattle.cv_frame.specs.laws.Members.{value_at}
use Rattle.cv_frame.proofs.frames.frame_of.Goals as goal

pub returns-in_default-node_of : goal.returns-in_default-node_of
returns-in_default-node_of c = λ v k e. c.in_default-node_of.ensures v.from k.from (value_at _ _ _ 1 c.in-Some.ensures e)

pub returns-in_default-count_of : goal.returns-in_default-count_of
returns-in_default-count_of c = λ v k e. c.in_default-count_of.ensures v.stamp k.stamp (value_at _ _ _ 2 c.in-Some.ensures e)

pub returns-in_default-node_of-2 : goal.returns-in_default-node_of-2
returns-in_default-node_of-2 c = λ v k e. c.in_default-node_of-2.ensures v.to k.to (value_at _ _ _ 3 c.in-Some.ensures e)

pub returns-in_default-2 : goal.returns-in_default-2
returns-in_default-2 c = λ v k e. (rw c.in_default-2.is at c.in_ok-body.ensures) v.body k.body (value_at _ _ _ 0 c.in-Some.ensures e)
