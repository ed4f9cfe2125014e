use Rattle.std.proofs.Common.{◌∙◌}
use Rattle.cv_frame.proofs.Lists.{no_image}
use Rattle.cv_frame.specs.laws.Shapes.{same_list}
use Rattle.cv_frame.proofs.listing.all_of.Goals as goal

pub returns-in_default-2 : goal.returns-in_default-2
returns-in_default-2 g c = λ xs all e.
    let none = rw c.in_default-2.is at c.in_ok-part.ensures in
    no_image g.P.Part.Travels g.P.Part.shape _ c.loop-item.item-index c.item-item.result xs c.loop-item-test.true c.item-item.is (λ x. none x) all
    (c.as_slice-item-items.ensures ∙ same_list _ _ _ c.in-List.is e)
