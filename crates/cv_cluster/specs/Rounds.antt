-- How the stations of a cluster go on, and how the firings of a round are shared out.
use Rattle.std.specs.Prelude.{◌≡◌, ℕ, ◌+◌, ◌≤◌, ◌||◌, Bool, List}
use Rattle.cv_link.specs.declared.items.Item.{Item}
use Rattle.cv_station.specs.declared.station.Station.{Station}
use Rattle.cv_mesh.specs.Keeping.{Kept}
use Rattle.cv_mesh.specs.Moving.{Each, Grows, Stays, firings_in}
use Rattle.cv_cluster.specs.Holding.{AreEarly, AreTogether}

-- 1. All stations

-- all that the stations kept they keep, and each journal has all entries that it had, with so many firings more, and its moment stays
-- early and that of all; `failed` tells whether memory was wanting
pub record Advanced (items : List Item) (was failed : Bool) (fired : ℕ) (old new : List Station) : Type 0 where
  pub kept : Kept items (was || failed) new
  pub grows : Each Grows old new
  pub count : firings_in new ≡ firings_in old + fired
  pub early : AreEarly old → AreEarly new
  pub together : AreTogether old → AreTogether new

abbrev pub Advances : Bool → ℕ → List Station → List Station → Type 0
Advances failed fired old new =
    (items : List Item) (was : Bool) → Kept items was old → Advanced items was failed fired old new

-- 2. Quotas

-- the station gets no firing
pub record Cleared (s u : Station) : Type 0 where
  pub stays : Stays s u
  pub quota : u.quota ≡ 0

-- the station gets at most so many firings more
pub record Raised (quota : ℕ) (s u : Station) : Type 0 where
  pub stays : Stays s u
  pub most : u.quota ≤ s.quota + quota
