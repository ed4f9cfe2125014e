-- What the items of the words say of the frames that one node took from another, read off its journal.
use Rattle.std.specs.Prelude.{◌≡◌, ◌⊎◌, ℕ, ◌+◌, ◌≤◌, ◌==◌, if◌then◌else◌, List, [], ◌∷◌, slice_get, Some, Contains}
use Rattle.std.specs.List.{flat_map}
use Rattle.cv_protocol.specs.declared.event.Entry.{Entry}
use Rattle.cv_protocol.specs.declared.event.Event.{Event}
use Rattle.cv_protocol.specs.declared.event.Event.TheVariants as event
use Rattle.cv_link.specs.declared.items.Item.{Item}
use Rattle.cv_link.specs.declared.items.Item.TheVariants as item
use Rattle.cv_link.specs.declared.plan.Taken.{Taken}
use Rattle.cv_link.specs.declared.plan.Taken.TheVariants as told
use Rattle.cv_station.specs.Acts.{events_of}

-- the event itself where it got a frame from that node
abbrev pub came_event : ℕ → Event → List Event
came_event from (event.Deliver f) = if f.from == from then event.Deliver f ∷ [] else []
came_event from (event.Lose f) = if f.from == from then event.Lose f ∷ [] else []
came_event from (event.Meet node attrs) = []
came_event from (event.Deploy name net) = []
came_event from (event.Tick now) = []
came_event from (event.Peek a port) = []
came_event from (event.Fire a action) = []
came_event from (event.Pass conn) = []
came_event from (event.Send conn) = []
came_event from (event.Rewind conn) = []
came_event from (event.Freeze a to) = []
came_event from (event.Resend a) = []
came_event from (event.Withdraw a) = []
came_event from (event.Hint a attempt node) = []
came_event from (event.Destroy app) = []

-- what a journal says of the frames that its node took from that one, in order
abbrev pub came_from : ℕ → List Entry → List Event
came_from from entries = flat_map (λ (e : Entry). came_event from e.event) entries

-- an item loses the k-th frame, or cuts the link at it or at an earlier one
abbrev pub MayBeLost : List Item → ℕ → ℕ → ℕ → Type 0
MayBeLost items from to k =
    Contains items (item.Lose from to k) ⊎ ((n : ℕ) × Contains items (item.Cut from to n) × (n ≤ k))

-- an item loses the k-th frame, or cuts the link at it
abbrev pub MustBeLost : List Item → ℕ → ℕ → ℕ → Type 0
MustBeLost items from to k =
    Contains items (item.Lose from to k) ⊎ Contains items (item.Cut from to k)

-- That became of the k-th frame: it is lost where an item loses it or cuts the link at it, and only there or behind a cut; and where it
-- is not lost it comes twice exactly where an item says so
abbrev pub IsAsItemsSay : List Item → ℕ → ℕ → ℕ → Taken → Type 0
IsAsItemsSay items from to k (told.Lost f) = MayBeLost items from to k
IsAsItemsSay items from to k (told.Twice f) = (¬ MustBeLost items from to k) × Contains items (item.Twice from to k)
IsAsItemsSay items from to k (told.Deliver f) = (¬ MustBeLost items from to k) × (¬ Contains items (item.Twice from to k))

-- the frames that the node with these entries took from another one, and what became of each: one Deliver, two of the same frame, or a
-- Lose, as the items say of its number, counted from 1 over the whole run
pub record LinkKept (items : List Item) (from to : ℕ) (entries : List Entry) : Type 0 where
  pub tellings : List Taken
  pub came : came_from from entries ≡ flat_map events_of tellings
  pub each : (k : ℕ) (t : Taken) → slice_get tellings k ≡ Some t → IsAsItemsSay items from to (k + 1) t
