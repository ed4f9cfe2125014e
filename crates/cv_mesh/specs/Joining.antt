-- Stations of nodes, each joined to all others.
use Rattle.std.specs.Prelude.{◌≡◌, ℕ, ◌<◌, ◌≤◌, List, [], ◌∷◌, ◌++◌, length, map, slice_get, Some}
use Rattle.cv_node.specs.Journalled.{Journalled, IsReplay}
use Rattle.cv_link.specs.declared.items.Item.{Item}
use Rattle.cv_link.specs.Items.{link_of}
use Rattle.cv_link.specs.Plan.{new_plan}
use Rattle.cv_link.specs.Ring as ends
use Rattle.cv_station.specs.declared.station.Peer.{Peer}
use Rattle.cv_station.specs.declared.station.Station.{Station}
use Rattle.cv_mesh.specs.Keeping.{number_of}
use Rattle.cv_mesh.specs.Moving.{AreJoined}

-- a node before its first entry
pub record IsUnused (n : Journalled) : Type 0 where
  pub none : n.entries ≡ []
  pub replays : IsReplay n.base n.state []

-- what a node has of another one through whose rings nothing went yet
pub record IsNewPeer (items : List Item) (own : ℕ) (p : Peer) : Type 0 where
  pub pushed : ends.pushed p.tx ≡ []
  pub plan : ends.plan p.rx ≡ new_plan (link_of p.no own items)

-- the stations of these nodes, each with unused ends of rings to and from each
pub record AreNew (items : List Item) (given : List Journalled) (ss : List Station) : Type 0 where
  pub nodes : map (λ (s : Station). s.node) ss ≡ given
  pub peers : (i : ℕ) (s : Station) → slice_get ss i ≡ Some s → map (λ (p : Peer). p.no) s.peers.items ≡ map number_of ss
  pub new : (i j : ℕ) (s : Station) (p : Peer) → slice_get ss i ≡ Some s → slice_get s.peers.items j ≡ Some p → IsNewPeer items (number_of s) p
  pub joined : AreJoined ss

-- what each of two stations has of the other: its number, and unused ends of the two rings between them
pub record AreConnected (items : List Item) (s t : Station) (p q : Peer) : Type 0 where
  pub to : p.no ≡ number_of t
  pub from : q.no ≡ number_of s
  pub here : IsNewPeer items (number_of s) p
  pub there : IsNewPeer items (number_of t) q
  pub forth : ends.AreEnds p.tx q.rx
  pub back : ends.AreEnds q.tx p.rx

-- two stations got ends of rings to each other, as their last ones
pub record Connects (items : List Item) (s t u v : Station) : Type 0 where
  pub peer : Peer
  pub other : Peer
  pub node : u.node ≡ s.node
  pub other_node : v.node ≡ t.node
  pub peers : u.peers.items ≡ s.peers.items ++ peer ∷ []
  pub other_peers : v.peers.items ≡ t.peers.items ++ other ∷ []
  pub connected : AreConnected items s t peer other

-- what a station that was there got, and what the new one has of it at that place
pub record GotPeer (items : List Item) (s t u : Station) (place : ℕ) : Type 0 where
  pub peer : Peer
  pub other : Peer
  pub node : u.node ≡ s.node
  pub peers : u.peers.items ≡ s.peers.items ++ peer ∷ []
  pub at : slice_get t.peers.items place ≡ Some other
  pub connected : AreConnected items s t peer other

-- the new station t is connected to the first k of the stations ss, which became these
pub record ConnectedTo (items : List Item) (ss : List Station) (k : ℕ) (now : List Station) (t : Station) : Type 0 where
  pub long : length now ≡ length ss
  pub many : length t.peers.items ≡ k
  pub before : (i : ℕ) (s : Station) → slice_get ss i ≡ Some s → i < k → (u : Station) × (slice_get now i ≡ Some u) × GotPeer items s t u i
  pub after : (i : ℕ) (s : Station) → slice_get ss i ≡ Some s → k ≤ i → slice_get now i ≡ Some s

-- whatever nodes are there, one more joined them
abbrev pub Joins : List Item → List Station → Journalled → List Station → Type 0
Joins items old node new =
    (given : List Journalled) → AreNew items given old → AreNew items (given ++ node ∷ []) new

-- a station got both ends of a ring to itself, as its last peer
pub record ConnectsItself (items : List Item) (s u : Station) : Type 0 where
  pub own : Peer
  pub node : u.node ≡ s.node
  pub peers : u.peers.items ≡ s.peers.items ++ own ∷ []
  pub number : own.no ≡ number_of s
  pub unused : IsNewPeer items (number_of s) own
  pub joined : ends.AreEnds own.tx own.rx
