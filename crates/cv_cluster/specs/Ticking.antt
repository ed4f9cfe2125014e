-- How time goes on at all nodes of a cluster.
use Rattle.std.specs.Prelude.{◌≡◌, ℕ, ◌<◌, ◌≤◌, min, List, [], ◌∷◌, ◌++◌, Option, Some, None, slice_get, Contains}
use Rattle.cv_token.specs.declared.identifiers.ActorId.{ActorId}
use Rattle.cv_protocol.specs.declared.event.Event.TheVariants as event
use Rattle.cv_protocol.specs.declared.event.Sent.{Sent}
use Rattle.cv_protocol.specs.NodeRow.{cause_of, row}
use Rattle.cv_state.specs.Steps.{LeadsTo}
use Rattle.cv_state.specs.Waking.{Wakes}
use Rattle.cv_node.specs.Journalled.{Journalled, entry_of_row}
use Rattle.cv_station.specs.declared.station.Station.{Station}
use Rattle.cv_mesh.specs.Moving.{Each}
use Rattle.cv_cluster.specs.Cluster.{ClusterView}

-- 1. All nodes

-- an action of a live actor of one of the nodes waits for that moment
pub record WakesAt (nodes : List Journalled) (t : ℕ) : Type 0 where
  pub node : Journalled
  pub there : Contains nodes node
  pub actor : ActorId
  pub wakes : Wakes node.state actor t

-- an action waits for some moment
abbrev pub SomeWakes : List Journalled → Type 0
SomeWakes nodes = (t : ℕ) × WakesAt nodes t

-- a node's journal has a Tick to that moment more, in room that was made for it before
pub record TicksTo (t : ℕ) (old new : Journalled) : Type 0 where
  pub sent : Sent
  pub does : LeadsTo (row old.state (event.Tick t)) new.state sent
  pub appends : new.entries ≡ old.entries ++ entry_of_row old.state (event.Tick t) ∷ []
  pub based : new.base ≡ old.base

-- an action waits for that moment, and none for an earlier one; and each node's journal has a Tick to it more
pub record Ticks (old new : ClusterView) : Type 0 where
  pub moment : ℕ
  pub wakes : WakesAt old.nodes moment
  pub least : (t : ℕ) → WakesAt old.nodes t → moment ≤ t
  pub items : new.items ≡ old.items
  pub failed : new.failed ≡ old.failed
  pub nodes : Each (TicksTo moment) old.nodes new.nodes

-- a node is as it was; only the room made ahead may be more
pub record IsUnchanged (old new : Journalled) : Type 0 where
  pub based : new.base ≡ old.base
  pub state : new.state ≡ old.state
  pub entries : new.entries ≡ old.entries

-- and so is each node
pub record IsAsBefore (old new : ClusterView) : Type 0 where
  pub items : new.items ≡ old.items
  pub failed : new.failed ≡ old.failed
  pub nodes : Each IsUnchanged old.nodes new.nodes

-- 2. As it is found, station by station

-- the earlier one of two moments, where there are any
abbrev pub earlier : Option ℕ → Option ℕ → Option ℕ
earlier None due = due
earlier (Some t) None = Some t
earlier (Some t) (Some u) = Some (min t u)

-- an action of a live actor of the station at that place waits for the moment
pub record WakesIn (ss : List Station) (place t : ℕ) : Type 0 where
  pub station : Station
  pub there : slice_get ss place ≡ Some station
  pub actor : ActorId
  pub wakes : Wakes station.node.state actor t

-- one was found, and it is not after that one
abbrev pub IsBefore : Option ℕ → ℕ → Type 0
IsBefore None t = ⊥
IsBefore (Some due) t = due ≤ t

-- where a moment was found an action waits for it, and none of the first k stations has one that waits for an earlier moment
pub record DueBelow (ss : List Station) (k : ℕ) (due : Option ℕ) : Type 0 where
  pub wakes : (t : ℕ) → due ≡ Some t → (place : ℕ) × WakesIn ss place t
  pub least : (place t : ℕ) → place < k → WakesIn ss place t → IsBefore due t

-- a node's journal has a Tick to that moment more
abbrev pub StationTicks : ℕ → Station → Station → Type 0
StationTicks t s u = TicksTo t s.node u.node

-- 3. Room made ahead

-- the station may have more room made ahead, and else is as it was
pub record MayMakeRoom (s u : Station) : Type 0 where
  pub node : IsUnchanged s.node u.node
  pub peers : u.peers ≡ s.peers

-- room for an entry is made, and else the station is as it was
pub record MakesRoom (s u : Station) : Type 0 where
  pub makes : MayMakeRoom s u
  pub room : 0 < u.node.spare

-- a Tick to that moment is a row of each node
abbrev pub AllTake : ℕ → List Station → Type 0
AllTake t ss =
    (i : ℕ) (s : Station) → slice_get ss i ≡ Some s → cause_of s.node.state (event.Tick t) ≡ None

-- and room is made for it
pub record IsReady (t : ℕ) (s : Station) : Type 0 where
  pub takes : cause_of s.node.state (event.Tick t) ≡ None
  pub room : 0 < s.node.spare

abbrev pub AllReady : ℕ → List Station → Type 0
AllReady t ss = (i : ℕ) (s : Station) → slice_get ss i ≡ Some s → IsReady t s
