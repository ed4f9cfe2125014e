-- What the stations of a cluster keep: every frame that is on its way, or came, was sent.
use Rattle.std.specs.Prelude.{◌≡◌, ℕ, ◌+◌, ◌≤◌, Bool, true, false, List, ◌∷◌, ◌++◌, map, length, slice_get, Some, Contains}
use Rattle.std.specs.List.{flat_map}
use Rattle.cv_protocol.specs.declared.event.Entry.{Entry}
use Rattle.cv_protocol.specs.declared.frame.Frame.{Frame}
use Rattle.cv_protocol.specs.Journals.{Sends, got_frame}
use Rattle.cv_node.specs.Counts.{journal_length}
use Rattle.cv_node.specs.Journalled.{Journalled, IsReplay}
use Rattle.cv_link.specs.declared.items.Item.{Item}
use Rattle.cv_link.specs.declared.plan.Taken.{Taken}
use Rattle.cv_link.specs.Items.{link_of}
use Rattle.cv_link.specs.Plan.{PlanView}
use Rattle.cv_link.specs.Ring as ends
use Rattle.cv_merge.specs.Lanes.{Ascends}
use Rattle.cv_station.specs.declared.station.Peer.{Peer}
use Rattle.cv_station.specs.declared.station.Station.{Station}
use Rattle.cv_station.specs.Acts.{events_of}
use Rattle.cv_mesh.specs.Going.{is_of_run}
use Rattle.cv_mesh.specs.Links.{came_from, IsAsItemsSay}

-- 1. A frame that was sent

-- an entry of the node's journal, at the frame's stamp, sends that very frame, and it is from that node
pub record StandsSent (n : Journalled) (f : Frame) : Type 0 where
  pub before : List Entry
  pub entry : Entry
  pub after : List Entry
  pub stands : n.entries ≡ before ++ entry ∷ after
  pub stamped : entry.stamp ≡ f.stamp
  pub sends : Sends n.base before entry f
  pub from : f.from ≡ n.base.spec.no

abbrev pub number_of : Station → ℕ
number_of s = s.node.base.spec.no

-- it stands sent at one of the stations
pub record IsSentBySome (ss : List Station) (f : Frame) : Type 0 where
  pub place : ℕ
  pub station : Station
  pub there : slice_get ss place ≡ Some station
  pub sent : StandsSent station.node f

-- 2. A link

-- what was told of the frames of a link so far, and where its plan stands
pub record Planned (items : List Item) (from to : ℕ) (entries : List Entry) (plan : PlanView) : Type 0 where
  pub tellings : List Taken
  pub came : came_from from entries ≡ flat_map events_of tellings
  pub each : (k : ℕ) (t : Taken) → slice_get tellings k ≡ Some t → IsAsItemsSay items from to (k + 1) t
  pub link : plan.items ≡ link_of from to items
  pub next : plan.next ≡ length tellings + 1
  pub since : plan.since ≤ plan.next
  pub few : length tellings ≤ length entries

-- 3. All stations

pub record Kept (items : List Item) (failed : Bool) (ss : List Station) : Type 0 where
  pub ascend : Ascends (map number_of ss)
  pub replays : (i : ℕ) (s : Station) → slice_get ss i ≡ Some s → IsReplay s.node.base s.node.state s.node.entries
  pub peers : (i : ℕ) (s : Station) → slice_get ss i ≡ Some s → map (λ (p : Peer). p.no) s.peers.items ≡ map number_of ss
  -- the ends that two stations have of each other are those of one ring
  pub joined : (i j : ℕ) (s t : Station) (p q : Peer) → slice_get ss i ≡ Some s → slice_get ss j ≡ Some t → slice_get s.peers.items j ≡ Some p → slice_get t.peers.items i ≡ Some q → ends.AreEnds p.tx q.rx
  pub pushed : (i j : ℕ) (s : Station) (p : Peer) (f : Frame) → slice_get ss i ≡ Some s → slice_get s.peers.items j ≡ Some p → Contains (ends.pushed p.tx) f → StandsSent s.node f
  pub got : (i : ℕ) (s : Station) (e : Entry) (f : Frame) → slice_get ss i ≡ Some s → Contains s.node.entries e → got_frame e.event ≡ Some f → IsSentBySome ss f
  pub planned : failed ≡ false → (i j : ℕ) (s : Station) (p : Peer) → slice_get ss i ≡ Some s → slice_get s.peers.items j ≡ Some p → Planned items p.no (number_of s) s.node.entries (ends.plan p.rx)
  pub own : (i : ℕ) (s : Station) (e : Entry) → slice_get ss i ≡ Some s → Contains s.node.entries e → is_of_run e.event ≡ true
  pub few : (i : ℕ) (s : Station) → slice_get ss i ≡ Some s → length s.node.entries ≤ journal_length
