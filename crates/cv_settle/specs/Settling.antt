-- What a settle does to the stations of a cluster.
use Rattle.std.specs.Prelude.{◌≡◌, ◌||◌, ℕ, Bool, true, false, List}
use Rattle.cv_bounds.specs.Moments.{moment_of}
use Rattle.cv_protocol.specs.declared.event.Event.{Event}
use Rattle.cv_protocol.specs.declared.event.Event.TheVariants as event
use Rattle.cv_link.specs.declared.items.Item.{Item}
use Rattle.cv_station.specs.declared.station.Station.{Station}
use Rattle.cv_mesh.specs.Keeping.{Kept}
use Rattle.cv_mesh.specs.Moving.{AreMeshed, Each, Grows, Settles, firings_in}

-- no time went on: the entries lead to the same moment as before
pub record StaysAtMoment (s u : Station) : Type 0 where
  pub same : (now : ℕ) → moment_of now u.node.entries ≡ moment_of now s.node.entries

-- what a station does in a settle: nothing fires, and no time goes on
pub record Carries (failed : Bool) (s u : Station) : Type 0 where
  pub settles : Settles failed s u
  pub stays : StaysAtMoment s u

-- All that the stations kept they keep, each journal has all entries that it had, nothing fired, no time went on, and the ends stay
-- joined; `failed` tells whether memory was wanting.
pub record Settled (failed : Bool) (old new : List Station) : Type 0 where
  pub kept : (items : List Item) (was : Bool) → Kept items was old → Kept items (was || failed) new
  pub grows : Each Grows old new
  pub calm : firings_in new ≡ firings_in old
  pub stays : Each StaysAtMoment old new
  pub meshed : AreMeshed new

-- a part of a settle: nothing fires, no time goes on, and the ends stay joined
pub record Sweeps (failed : Bool) (old new : List Station) : Type 0 where
  pub carries : Each (Carries failed) old new
  pub meshed : AreMeshed new

-- what a node does by itself in a settle
abbrev pub is_carrying : Event → Bool
is_carrying (event.Pass conn) = true
is_carrying (event.Send conn) = true
is_carrying (event.Rewind conn) = true
is_carrying (event.Fire a action) = false
is_carrying (event.Peek a port) = false
is_carrying (event.Tick now) = false
is_carrying (event.Meet node attrs) = false
is_carrying (event.Deploy name net) = false
is_carrying (event.Freeze a to) = false
is_carrying (event.Resend a) = false
is_carrying (event.Withdraw a) = false
is_carrying (event.Hint a attempt node) = false
is_carrying (event.Destroy app) = false
is_carrying (event.Lose f) = false
is_carrying (event.Deliver f) = false
