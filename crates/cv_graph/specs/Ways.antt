-- Ways back along joins, and their ends.
use Rattle.std.specs.Prelude.{◌≡◌, ◌↔◌, ℕ, ◌<◌, Bool, true, false, List, length, slice_get, Option, Some, option_and_then}
use Rattle.cv_graph.specs.declared.ways.Supply.{Supply}
use Rattle.cv_graph.specs.declared.ways.Way.{Way}
use Rattle.cv_graph.specs.declared.ways.Way.TheVariants as way

-- each way goes on from a join that is there
abbrev pub AreWithin : List Way → Type 0
AreWithin ways = (i j : ℕ) → slice_get ways i ≡ Some (way.Back j) → j < length ways

-- the way of the join of that number ends in this
pub data EndsIn (ways : List Way) (s : Option Supply) : ℕ → Type 0 where
  here : (i : ℕ) → slice_get ways i ≡ Some (way.Ended s) → EndsIn ways s i
  there : (i j : ℕ) → slice_get ways i ≡ Some (way.Back j) → EndsIn ways s j → EndsIn ways s i

-- one step back, or more, lead from a join to another
pub data LeadsBack (ways : List Way) (j : ℕ) : ℕ → Type 0 where
  next : (i : ℕ) → slice_get ways i ≡ Some (way.Back j) → LeadsBack ways j i
  on : (i k : ℕ) → slice_get ways i ≡ Some (way.Back k) → LeadsBack ways j k → LeadsBack ways j i

abbrev pub is_back : Way → Bool
is_back (way.Back j) = true
is_back (way.Ended s) = false

-- 1 for a way that has not ended
abbrev pub still : Way → ℕ
still (way.Back j) = 1
still (way.Ended s) = 0

-- the way of that join has not ended
abbrev pub IsBack : List Way → ℕ → Type 0
IsBack ways i = (j : ℕ) × (slice_get ways i ≡ Some (way.Back j))

-- what is known of a join is so, on these ways
abbrev pub IsSo : List Way → ℕ → Way → Type 0
IsSo ways i (way.Ended s) = EndsIn ways s i
IsSo ways i (way.Back j) = LeadsBack ways j i

-- of each of these ways something is known
pub record IsOn (ways known : List Way) : Type 0 where
  pub same : length known ≡ length ways
  pub so : (i : ℕ) (w : Way) → slice_get known i ≡ Some w → IsSo ways i w

abbrev pub further : List Way → ℕ → Way → Option Way
further ways i (way.Ended s) = Some (way.Ended s)
further ways i (way.Back j) = slice_get ways j

-- the way of a join, or where it goes on to
abbrev pub leapt : List Way → ℕ → Option Way
leapt ways i = option_and_then (further ways i) (slice_get ways i)

-- of each join is known where its way ends, if it ends
pub record AreEnded (begun now : List Way) : Type 0 where
  pub ends : (i : ℕ) (s : Option Supply) → (slice_get now i ≡ Some (way.Ended s)) ↔ EndsIn begun s i
