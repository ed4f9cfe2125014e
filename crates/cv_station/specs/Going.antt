-- Parts of a station's round.
use Rattle.std.specs.Prelude.{◌≡◌, ℕ, ◌==◌, ◌+◌, ◌≤◌, Bool, true, false, if◌then◌else◌, List, [], ◌∷◌, ◌++◌, length, Option, Some, None, slice_get}
use Rattle.std.specs.List.{flat_map}
use Rattle.cv_protocol.specs.declared.event.Event.{Event}
use Rattle.cv_protocol.specs.declared.event.Sent.{Sent}
use Rattle.cv_protocol.specs.declared.frame.Frame.{Frame}
use Rattle.cv_state.specs.Steps.{frames_of}
use Rattle.cv_node.specs.Counts.{firing_count_of, journal_length}
use Rattle.cv_node.specs.Journalled.{MakesStep}
use Rattle.cv_link.specs.declared.plan.Taken.{Taken}
use Rattle.cv_link.specs.Plan.{frame_of}
use Rattle.cv_station.specs.declared.station.Peer.{Peer}
use Rattle.cv_station.specs.declared.station.Station.{Station}
use Rattle.cv_station.specs.Acts.{Act, EachAct, IsWork, NodeDoes, PeerWorks, Runs, events_in, events_of}

-- the peer at each place became another by the relation of its place
pub record EachPeer (Becomes : ℕ → Peer → Peer → Type 0) (old new : List Peer) : Type 0 where
  pub as_many : length new ≡ length old
  pub at : (j : ℕ) (p : Peer) → slice_get old j ≡ Some p → (q : Peer) × (slice_get new j ≡ Some q) × Becomes j p q

-- of these frames, which were sent, each may have been pushed to the peer that it is addressed to
abbrev pub Pushes : List Frame → List Peer → List Peer → Type 0
Pushes frames old new = EachPeer (λ j p q. PeerWorks frames [] [] p q) old new

-- what place i has, and no other
abbrev pub only_at : {X : Type 0} → ℕ → ℕ → X → List X
only_at i j x = if i == j then x ∷ [] else []

-- a frame was taken from the ring of the peer at that place, or none was known to be there
abbrev pub Takes : ℕ → Option Taken → List Peer → List Peer → Type 0
Takes place None old new = Pushes [] old new
Takes place (Some told) old new =
    EachPeer (λ j p q. PeerWorks [] (only_at place j (frame_of told)) (only_at place j told) p q) old new

-- what became of the one peer
abbrev pub TakesOne : Option Taken → Peer → Peer → Type 0
TakesOne None p q = PeerWorks [] [] [] p q
TakesOne (Some told) p q = PeerWorks [] (frame_of told ∷ []) (told ∷ []) p q

-- one step of the node, with the frames that it sends pushed
pub record Stepped (s : Station) (e : Event) (u : Station) : Type 0 where
  pub sent : Sent
  pub steps : MakesStep s.node e sent u.node
  pub peers : Pushes (frames_of sent) s.peers.items u.peers.items
  pub fired : u.fired ≡ s.fired
  pub quota : u.quota ≡ s.quota

-- that step, or nothing where memory was wanting
abbrev pub Gets : Station → Event → Bool → Station → Type 0
Gets s e false u = Stepped s e u
Gets s e true u = u ≡ s

-- the steps of a frame of which this was told, all of them unless memory was wanting
pub record Received (s : Station) (told : Taken) (failed : Bool) (u : Station) : Type 0 where
  pub done : List Event
  pub rest : List Event
  pub all : events_of told ≡ done ++ rest
  pub whole : failed ≡ false → rest ≡ []
  pub frames : List Frame
  pub does : NodeDoes s.node done frames u.node
  pub peers : Pushes frames s.peers.items u.peers.items
  pub fired : u.fired ≡ s.fired
  pub quota : u.quota ≡ s.quota

-- a part of a round that ends once the journal has `most` entries
pub record Goes (most : ℕ) (s : Station) (failed : Bool) (u : Station) : Type 0 where
  pub acts : List Act
  pub runs : Runs failed s acts u
  pub own : EachAct IsWork acts
  pub counted : u.fired ≡ s.fired + firing_count_of (flat_map events_in acts)
  pub quota : u.quota ≡ s.quota
  pub within : s.fired ≤ s.quota → u.fired ≤ u.quota
  pub grows : length s.node.entries ≤ length u.node.entries
  pub few : length s.node.entries ≤ most → length u.node.entries ≤ most

-- what a worker does in a round
pub record GoesInRound (s : Station) (failed : Bool) (u : Station) : Type 0 where
  pub goes : Goes (length s.node.entries + 2048) s failed u
  pub few : length s.node.entries ≤ journal_length → length u.node.entries ≤ journal_length
