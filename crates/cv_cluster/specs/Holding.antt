-- What the stations of a cluster keep, whatever it does.
use Rattle.std.specs.Prelude.{◌≡◌, ℕ, ◌+◌, ◌*◌, ◌≤◌, Bool, List, map, length, slice_get, Some}
use Rattle.cv_bounds.specs.Moments.{IsStart, duration_limit, moment_of}
use Rattle.cv_link.specs.declared.items.Item.{Item}
use Rattle.cv_rules.specs.declared.attrs.NodeSpec.{NodeSpec}
use Rattle.cv_node.specs.Counts.{journal_length}
use Rattle.cv_node.specs.Journalled.{Journalled}
use Rattle.cv_station.specs.declared.station.Station.{Station}
use Rattle.cv_mesh.specs.Keeping.{Kept}
use Rattle.cv_cluster.specs.Opening.{AllAreForNodes}

abbrev pub node_of : Station → Journalled
node_of s = s.node

abbrev pub spec_of : Station → NodeSpec
spec_of s = s.node.base.spec

-- each node was at its start before its first entry
abbrev pub AllStarted : List Station → Type 0
AllStarted ss = (i : ℕ) (s : Station) → slice_get ss i ≡ Some s → IsStart s.node.base

-- no journal's moment is above as many durations as the first journal has entries: the first node is the first to which time goes on
abbrev pub AreEarly : List Station → Type 0
AreEarly ss =
    (i : ℕ) (s first : Station) → slice_get ss 0 ≡ Some first → slice_get ss i ≡ Some s → moment_of 0 s.node.entries ≤ duration_limit * length first.node.entries

-- all nodes are at one moment
abbrev pub AreTogether : List Station → Type 0
AreTogether ss =
    (i j : ℕ) (s u : Station) → slice_get ss i ≡ Some s → slice_get ss j ≡ Some u → moment_of 0 s.node.entries ≡ moment_of 0 u.node.entries

-- the moment is at most one duration later
abbrev pub IsNear : List Station → ℕ → Type 0
IsNear ss moment =
    (first : Station) → slice_get ss 0 ≡ Some first → moment ≤ duration_limit * (length first.node.entries + 1)

-- what the stations keep, that a node can open by each specification, and where the nodes and their moments come from
pub record Holds (items : List Item) (failed : Bool) (ss : List Station) : Type 0 where
  pub kept : Kept items failed ss
  pub fit : AllAreForNodes (map spec_of ss)
  pub started : AllStarted ss
  pub early : AreEarly ss
  pub together : AreTogether ss

-- no journal has more entries than a journal may have
abbrev pub AllFew : List Station → Type 0
AllFew ss = (i : ℕ) (s : Station) → slice_get ss i ≡ Some s → length s.node.entries ≤ journal_length
