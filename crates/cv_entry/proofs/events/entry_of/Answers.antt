use Rattle.cv_frame.specs.laws.Shapes.{part}
use Rattle.cv_entry.proofs.events.entry_of.Goals as goal

pub returns-in_default-count_of : goal.returns-in_default-count_of
returns-in_default-count_of c = λ v k e. c.in_default-count_of.ensures v.stamp k.stamp (part _ _ _ 0 _ c.in-Some.ensures.1 c.index-parts-0.is e)

pub returns-in_default-2 : goal.returns-in_default-2
returns-in_default-2 c = λ v k e. (rw c.in_default-2.is at c.in_ok-event.ensures) v.event k.event (part _ _ _ 1 _ c.in-Some.ensures.1 c.index-parts-1.is e)
