-- What the items of the words say of a frame. Frames of the link from one node to another are numbered from 1, in the order in which
-- they are taken over a whole run.
use Rattle.std.specs.Prelude.{ℕ, ◌≡◌, ◌≤◌, ◌⊎◌, List, Contains}
use Rattle.cv_protocol.specs.declared.frame.Frame.{Frame}
use Rattle.cv_link.specs.declared.items.Item.{Item}
use Rattle.cv_link.specs.declared.items.Item.TheVariants as item
use Rattle.cv_link.specs.declared.plan.Taken.{Taken}
use Rattle.cv_link.specs.declared.plan.Taken.TheVariants.{Deliver, Twice, Lost}

-- The k-th frame is to be lost, in a turn that begins with the frame number `since`: an item loses it, or cuts the link at it or at a
-- frame before it in this turn.
abbrev pub PlansLoss : List Item → ℕ → ℕ → ℕ → ℕ → Type 0
PlansLoss items from to since k =
    Contains items (item.Lose from to k) ⊎ ((n : ℕ) × Contains items (item.Cut from to n) × (since ≤ n) × (n ≤ k))

-- That is told of the k-th frame: it is lost exactly where it is to be, and it comes twice exactly where an item doubles it and it is
-- not to be lost.
abbrev pub IsAsPlanned : List Item → ℕ → ℕ → ℕ → ℕ → Frame → Taken → Type 0
IsAsPlanned items from to since k frame (Lost f) = (f ≡ frame) × PlansLoss items from to since k
IsAsPlanned items from to since k frame (Twice f) = (f ≡ frame) × (¬ PlansLoss items from to since k) × Contains items (item.Twice from to k)
IsAsPlanned items from to since k frame (Deliver f) = (f ≡ frame) × (¬ PlansLoss items from to since k) × (¬ Contains items (item.Twice from to k))
