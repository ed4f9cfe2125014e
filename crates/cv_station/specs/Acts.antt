-- What changes a station, act by act: its node's steps, the frames that it takes and those that it pushes.
use Rattle.std.specs.Prelude.{◌≡◌, ℕ, ◌<◌, ◌==◌, ◌⊎◌, Bool, true, false, if◌then◌else◌, List, [], ◌∷◌, ◌++◌, length, slice_get, Some, None, Contains}
use Rattle.std.specs.List.{flat_map}
use Rattle.cv_protocol.specs.declared.event.Event.{Event}
use Rattle.cv_protocol.specs.declared.event.Event.TheVariants as event
use Rattle.cv_protocol.specs.declared.event.Sent.{Sent}
use Rattle.cv_protocol.specs.declared.frame.Frame.{Frame}
use Rattle.cv_protocol.specs.Journals.{got_frame}
use Rattle.cv_state.specs.Steps.{frames_of}
use Rattle.cv_node.specs.Counts.{firing_count_of}
use Rattle.cv_node.specs.Journalled.{Journalled, MakesStep}
use Rattle.cv_link.specs.declared.plan.Taken.{Taken}
use Rattle.cv_link.specs.declared.plan.Taken.TheVariants as told
use Rattle.cv_link.specs.Plan.{PlanView, Tells, counted, frame_of}
use Rattle.cv_link.specs.Ring as ends
use Rattle.cv_station.specs.declared.station.Peer.{Peer}
use Rattle.cv_station.specs.declared.station.Station.{Station}

-- 1. Acts

-- one step of the node by itself; or a frame that came from the peer at that place, with what was told of it and the steps that it made
pub data Act : Type 0 where
  Does : Event → Act
  Comes : (peer : ℕ) → Taken → (done : List Event) → Act

-- the steps that a frame makes of which this was told
abbrev pub events_of : Taken → List Event
events_of (told.Deliver f) = event.Deliver f ∷ []
events_of (told.Twice f) = event.Deliver f ∷ event.Deliver f ∷ []
events_of (told.Lost f) = event.Lose f ∷ []

abbrev pub events_in : Act → List Event
events_in (Does e) = e ∷ []
events_in (Comes peer told done) = done

-- what was told of the frames of the peer at place j
abbrev pub told_by : ℕ → Act → List Taken
told_by j (Does e) = []
told_by j (Comes peer told done) = if peer == j then told ∷ [] else []

-- the frames that came through the ring of the peer at place j
abbrev pub taken_by : ℕ → Act → List Frame
taken_by j (Does e) = []
taken_by j (Comes peer told done) = if peer == j then frame_of told ∷ [] else []

-- the frame made all its steps
abbrev pub IsWhole : Act → Type 0
IsWhole (Does e) = Unit {0}
IsWhole (Comes peer told done) = done ≡ events_of told

-- the frame came from a place where a peer is
abbrev pub IsInside : ℕ → Act → Type 0
IsInside many (Does e) = Unit {0}
IsInside many (Comes peer told done) = peer < many

-- the node's own step gets no frame; a frame makes its steps, or a first part of them
abbrev pub IsAct : Act → Type 0
IsAct (Does e) = got_frame e ≡ None
IsAct (Comes peer told done) = (rest : List Event) × (events_of told ≡ done ++ rest)

-- what a node does by itself in a round
abbrev pub is_work : Event → Bool
is_work (event.Fire a action) = true
is_work (event.Peek a port) = true
is_work (event.Pass conn) = true
is_work (event.Send conn) = true
is_work (event.Tick now) = false
is_work (event.Meet node attrs) = false
is_work (event.Deploy name net) = false
is_work (event.Rewind conn) = false
is_work (event.Freeze a to) = false
is_work (event.Resend a) = false
is_work (event.Withdraw a) = false
is_work (event.Hint a attempt node) = false
is_work (event.Destroy app) = false
is_work (event.Lose f) = false
is_work (event.Deliver f) = false

abbrev pub IsWork : Act → Type 0
IsWork (Does e) = is_work e ≡ true
IsWork (Comes peer told done) = Unit {0}

abbrev pub EachAct : (Act → Type 0) → List Act → Type 0
EachAct P [] = Unit {0}
EachAct P (a ∷ acts) = P a × EachAct P acts

-- 2. The node and its rings

-- the first of several steps
pub record FirstDoes (Later : Journalled → List Frame → Type 0) (old : Journalled) (e : Event) (frames : List Frame) : Type 0 where
  pub sent : Sent
  pub middle : Journalled
  pub rest : List Frame
  pub steps : MakesStep old e sent middle
  pub later : Later middle rest
  pub all : frames ≡ frames_of sent ++ rest

-- the node does these events in order, and sends these frames
abbrev pub NodeDoes : Journalled → List Event → List Frame → Journalled → Type 0
NodeDoes old [] frames new = (new ≡ old) × (frames ≡ [])
NodeDoes old (e ∷ es) frames new = FirstDoes (λ middle rest. NodeDoes middle es rest new) old e frames

-- what a plan tells of these frames, one after the other, and the plan afterwards
abbrev pub TellsAll : PlanView → List Taken → PlanView → Type 0
TellsAll p [] q = q ≡ p
TellsAll p (t ∷ ts) q = Tells p (frame_of t) t × TellsAll (counted p) ts q

-- what became of a peer's ends where the node sent these frames, took those from the ring and was told that
pub record PeerWorks (frames : List Frame) (ring : List Frame) (tellings : List Taken) (p q : Peer) : Type 0 where
  pub number : q.no ≡ p.no
  pub tx : ends.SameTx p.tx q.tx
  pub rx : ends.SameRx p.rx q.rx
  -- what was pushed was sent, and is addressed to the peer
  pub pushed : (f : Frame) → Contains (ends.pushed q.tx) f → Contains (ends.pushed p.tx) f ⊎ (Contains frames f × (f.to ≡ p.no))
  pub taken : ends.taken q.rx ≡ ends.taken p.rx ++ ring
  pub plan : TellsAll (ends.plan p.rx) tellings (ends.plan q.rx)

-- the station s becomes u by these acts, in their order, where memory was wanting or was not
pub record Runs (failed : Bool) (s : Station) (acts : List Act) (u : Station) : Type 0 where
  pub are_acts : EachAct IsAct acts
  pub inside : EachAct (IsInside (length s.peers.items)) acts
  pub whole : failed ≡ false → EachAct IsWhole acts
  pub frames : List Frame
  pub does : NodeDoes s.node (flat_map events_in acts) frames u.node
  pub as_many : length u.peers.items ≡ length s.peers.items
  pub peers : (j : ℕ) (p : Peer) → slice_get s.peers.items j ≡ Some p → (q : Peer) × (slice_get u.peers.items j ≡ Some q) × PeerWorks frames (flat_map (taken_by j) acts) (flat_map (told_by j) acts) p q

-- the station s becomes u by these acts; `failed` tells whether memory was wanting
abbrev pub Works : Station → List Act → Station → Type 0
Works s acts u = Runs u.failed s acts u

-- 3. A round

-- a station's round: its acts, each step that the node does by itself one of a worker's, and how many of all steps are firings
pub record Round (s : Station) (acts : List Act) (u : Station) : Type 0 where
  pub works : Works s acts u
  pub own : EachAct IsWork acts
  pub counted : firing_count_of (flat_map events_in acts) ≡ u.fired
