-- Stations that all go on at once.
use Rattle.std.specs.Prelude.{◌≡◌, ℕ, ◌≤◌, ◌++◌, Bool, true, false, List, length, slice_get, slice_set, Some}
use Rattle.std.specs.List.{sum_by}
use Rattle.cv_protocol.specs.declared.event.Entry.{Entry}
use Rattle.cv_node.specs.Counts.{firing_count, journal_length}
use Rattle.cv_link.specs.Plan.{frame_of, turned}
use Rattle.cv_link.specs.Ring as ends
use Rattle.cv_station.specs.declared.station.Peer.{Peer}
use Rattle.cv_station.specs.declared.station.Station.{Station}
use Rattle.cv_station.specs.Acts.{Act, Does, Comes, EachAct, Round, Runs}
use Rattle.cv_mesh.specs.Going.{is_of_run}
use Rattle.cv_mesh.specs.Keeping.{StandsSent}

-- 1. Place by place

-- the element at each place became another by that relation
pub record Each {X : Type 0} (Becomes : X → X → Type 0) (old new : List X) : Type 0 where
  pub long : length new ≡ length old
  pub all : (i : ℕ) (x : X) → slice_get old i ≡ Some x → (y : X) × (slice_get new i ≡ Some y) × Becomes x y

-- 2. What becomes of a station

abbrev pub IsOfRun : Act → Type 0
IsOfRun (Does e) = is_of_run e ≡ true
IsOfRun (Comes peer t done) = Unit {0}

-- by steps that a run has; `failed` tells whether memory was wanting
pub record Goes (failed : Bool) (s u : Station) : Type 0 where
  pub acts : List Act
  pub runs : Runs failed s acts u
  pub own : EachAct IsOfRun acts
  pub few : length s.node.entries ≤ journal_length → length u.node.entries ≤ journal_length

-- a round of its worker
pub record Worked (s u : Station) : Type 0 where
  pub acts : List Act
  pub round : Round s acts u
  pub within : u.fired ≤ s.quota
  pub few : length s.node.entries ≤ journal_length → length u.node.entries ≤ journal_length

-- nothing fires
pub record Settles (failed : Bool) (s u : Station) : Type 0 where
  pub goes : Goes failed s u
  pub calm : firing_count u.node.entries ≡ firing_count s.node.entries

-- the node's journal has all entries that it had, and maybe more
pub record Grows (s u : Station) : Type 0 where
  pub based : u.node.base ≡ s.node.base
  pub more : List Entry
  pub appends : u.node.entries ≡ s.node.entries ++ more

-- the node and its ends stay
pub record Stays (s u : Station) : Type 0 where
  pub node : u.node ≡ s.node
  pub peers : u.peers ≡ s.peers

-- the ends are looked at
pub record PeerLooks (p q : Peer) : Type 0 where
  pub number : q.no ≡ p.no
  pub tx : ends.SameTx p.tx q.tx
  pub rx : ends.SameRx p.rx q.rx
  pub pushed : ends.pushed q.tx ≡ ends.pushed p.tx
  pub taken : ends.taken q.rx ≡ ends.taken p.rx
  pub plan : ends.plan q.rx ≡ ends.plan p.rx

pub record Looks (s u : Station) : Type 0 where
  pub node : u.node ≡ s.node
  pub peers : Each PeerLooks s.peers.items u.peers.items

-- the turns of its links end
pub record PeerTurns (p q : Peer) : Type 0 where
  pub number : q.no ≡ p.no
  pub tx : q.tx ≡ p.tx
  pub rx : ends.SameRx p.rx q.rx
  pub taken : ends.taken q.rx ≡ ends.taken p.rx
  pub known : ends.known q.rx ≡ ends.known p.rx
  pub plan : ends.plan q.rx ≡ turned (ends.plan p.rx)

pub record Turns (s u : Station) : Type 0 where
  pub node : u.node ≡ s.node
  pub peers : Each PeerTurns s.peers.items u.peers.items

-- 3. All rings

-- the ends that two stations have of each other are those of one ring
abbrev pub AreJoined : List Station → Type 0
AreJoined ss =
    (i j : ℕ) (s t : Station) (p q : Peer) → slice_get ss i ≡ Some s → slice_get ss j ≡ Some t → slice_get s.peers.items j ≡ Some p → slice_get t.peers.items i ≡ Some q → ends.AreEnds p.tx q.rx

-- and each station has a peer for each station
pub record AreMeshed (ss : List Station) : Type 0 where
  pub full : (i : ℕ) (s : Station) → slice_get ss i ≡ Some s → length s.peers.items ≡ length ss
  pub joined : AreJoined ss

-- what was taken from the ring from one station to another, and what is in it, is what was pushed
abbrev pub IsLooked : List Station → ℕ → ℕ → Type 0
IsLooked us i j =
    (s t : Station) (p q : Peer) → slice_get us i ≡ Some s → slice_get us j ≡ Some t → slice_get s.peers.items j ≡ Some p → slice_get t.peers.items i ≡ Some q → ends.taken q.rx ++ ends.known q.rx ≡ ends.pushed p.tx

abbrev pub AllLooked : List Station → Type 0
AllLooked us = (i j : ℕ) → IsLooked us i j

-- each frame that came stands sent at the station whose place it came from
abbrev pub CameSent : List Station → Act → Type 0
CameSent us (Does e) = Unit {0}
CameSent us (Comes peer t done) = (v : Station) × (slice_get us peer ≡ Some v) × StandsSent v.node (frame_of t)

-- 4. Numbers

-- how many firings the journals have, and how many entries
abbrev pub firings_in : List Station → ℕ
firings_in ss = sum_by (λ (s : Station). firing_count s.node.entries) ss

abbrev pub entries_in : List Station → ℕ
entries_in ss = sum_by (λ (s : Station). length s.node.entries) ss

abbrev pub fired_in : List Station → ℕ
fired_in ss = sum_by (λ (s : Station). s.fired) ss

abbrev pub quotas_in : List Station → ℕ
quotas_in ss = sum_by (λ (s : Station). s.quota) ss

-- memory was wanting in no station's round
abbrev pub AllFine : List Station → Type 0
AllFine ss = (i : ℕ) (s : Station) → slice_get ss i ≡ Some s → s.failed ≡ false

-- 5. One ring

-- the ring from a station s to another one t, which have each other at these places, is looked at
pub record LooksBetween (s t : Station) (from to : ℕ) (u v : Station) : Type 0 where
  pub sender : u.node ≡ s.node
  pub receiver : v.node ≡ t.node
  pub tx_old : Peer
  pub tx_new : Peer
  pub rx_old : Peer
  pub rx_new : Peer
  pub tx_at : slice_get s.peers.items to ≡ Some tx_old
  pub rx_at : slice_get t.peers.items from ≡ Some rx_old
  pub sends : u.peers.items ≡ slice_set s.peers.items to tx_new
  pub receives : v.peers.items ≡ slice_set t.peers.items from rx_new
  pub tx_looks : PeerLooks tx_old tx_new
  pub rx_looks : PeerLooks rx_old rx_new
  -- the other ends of these peers stay
  pub tx_other : tx_new.rx ≡ tx_old.rx
  pub rx_other : rx_new.tx ≡ rx_old.tx
  pub looked : ends.taken rx_new.rx ++ ends.known rx_new.rx ≡ ends.pushed tx_new.tx

-- both stations have each other at these places, with the ends of one ring from the first to the second
pub record EndsMeet (s t : Station) (from to : ℕ) : Type 0 where
  pub tx_end : Peer
  pub rx_end : Peer
  pub tx_at : slice_get s.peers.items to ≡ Some tx_end
  pub rx_at : slice_get t.peers.items from ≡ Some rx_end
  pub meet : ends.AreEnds tx_end.tx rx_end.rx

-- the ends of a ring that two peers have are looked at
pub record LooksAtEnds (p q p' q' : Peer) : Type 0 where
  pub tx_looks : PeerLooks p p'
  pub rx_looks : PeerLooks q q'
  pub tx_other : p'.rx ≡ p.rx
  pub rx_other : q'.tx ≡ q.tx
  pub looked : ends.taken q'.rx ++ ends.known q'.rx ≡ ends.pushed p'.tx

-- the ring from a station at that place to itself is looked at
pub record LooksAtItself (s : Station) (place : ℕ) (u : Station) : Type 0 where
  pub node : u.node ≡ s.node
  pub old : Peer
  pub now : Peer
  pub at : slice_get s.peers.items place ≡ Some old
  pub sets : u.peers.items ≡ slice_set s.peers.items place now
  pub looks : PeerLooks old now
  pub looked : ends.taken now.rx ++ ends.known now.rx ≡ ends.pushed now.tx
