-- Journals, the record of several, and what was sent before it came.
use Rattle.std.specs.Prelude.{◌≡◌, ◌≢◌, ◌⊎◌, ℕ, ◌<◌, Bool, true, false, ◌==◌, cond, List, [], ◌∷◌, ◌++◌, length, Option, Some, None, IsSome, option_and_then, Contains}
use Rattle.std.specs.List.{flat_map}
use Rattle.cv_token.specs.declared.identifiers.ActorId.{ActorId}
use Rattle.cv_protocol.specs.declared.event.Entry.{Entry}
use Rattle.cv_protocol.specs.declared.event.Event.{Event}
use Rattle.cv_protocol.specs.declared.event.Event.TheVariants as event
use Rattle.cv_protocol.specs.declared.event.Step.{Step}
use Rattle.cv_protocol.specs.declared.frame.Frame.{Frame}
use Rattle.std.specs.FinMap as map
use Rattle.cv_protocol.specs.Actors.{LiveState}
use Rattle.cv_protocol.specs.NodeState.{NodeState}
use Rattle.cv_protocol.specs.Rows.{Did, Deed, Nothing, Deployed, Used, Fired_action, Passed, Received, Froze, Accepted_here, Resumed, Removed, Destroyed_here}
use Rattle.cv_protocol.specs.NodeRow.{row, stamp_of}

-- 1. One journal

-- what an entry does: it is a row of the state, with the stamp that the row has
abbrev pub did_if : Bool → Option Did → Option Did
did_if true d = d
did_if false d = None

abbrev pub did_at : NodeState → Entry → Option Did
did_at s e = did_if (e.stamp == stamp_of s e.event) (row s e.event)

abbrev pub next_of : Option Did → Option NodeState
next_of None = None
next_of (Some d) = Some d.next

-- the state that entries leave, where each is a row of the state before it
abbrev pub replay : NodeState → List Entry → Option NodeState
replay s [] = Some s
replay s (e ∷ es) = option_and_then (λ next. replay next es) (next_of (did_at s e))

-- the entries are a run of a node from this state
abbrev pub IsLocalRun : NodeState → List Entry → Type 0
IsLocalRun s entries = IsSome (replay s entries)

-- what the entry does after these
abbrev pub did_after : NodeState → List Entry → Entry → Option Did
did_after s before e = option_and_then (λ here. did_at here e) (replay s before)

-- 2. The record of several journals

abbrev pub entry_of : Step → Entry
entry_of s = record { stamp = s.stamp; event = s.event }

abbrev pub own_entry : ℕ → Step → List Entry
own_entry i s = cond (s.node == i) (entry_of s ∷ []) []

-- the entries of node i
abbrev pub entries_of : ℕ → List Step → List Entry
entries_of i m = flat_map (own_entry i) m

-- a stamp and a node come before others: by stamp, and then by node
abbrev pub IsBefore : ℕ → ℕ → ℕ → ℕ → Type 0
IsBefore stamp node other_stamp other_node =
    (stamp < other_stamp) ⊎ ((stamp ≡ other_stamp) × (node < other_node))

-- the first of these entries of node i comes after the step
abbrev pub FirstIsAfter : Step → ℕ → List Entry → Type 0
FirstIsAfter s i [] = Unit {0}
FirstIsAfter s i (e ∷ es) = IsBefore s.stamp s.node e.stamp i

-- each step is the least of the entries that the journals have left
abbrev pub NextIsLeast : List Step → Type 0
NextIsLeast [] = Unit {0}
NextIsLeast (s ∷ ss) =
    ((i : ℕ) → i ≢ s.node → FirstIsAfter s i (entries_of i ss)) × NextIsLeast ss

-- the record of the journals: all their entries, each journal's in its own order, and always the least one next
pub record IsRecordOf (journals : ℕ → List Entry) (m : List Step) : Type 0 where
  pub parts : (i : ℕ) → entries_of i m ≡ journals i
  pub next_is_least : NextIsLeast m

-- 3. Frames

-- the frame that an event got
abbrev pub got_frame : Event → Option Frame
got_frame (event.Lose f) = Some f
got_frame (event.Deliver f) = Some f
got_frame (event.Meet node attrs) = None
got_frame (event.Deploy name net) = None
got_frame (event.Tick now) = None
got_frame (event.Peek a port) = None
got_frame (event.Fire a action) = None
got_frame (event.Pass conn) = None
got_frame (event.Send conn) = None
got_frame (event.Rewind conn) = None
got_frame (event.Freeze a to) = None
got_frame (event.Resend a) = None
got_frame (event.Withdraw a) = None
got_frame (event.Hint a attempt node) = None
got_frame (event.Destroy app) = None

-- the entry sends the frame, after these entries of its node
pub record Sends (opening : NodeState) (before : List Entry) (e : Entry) (f : Frame) : Type 0 where
  pub did : Did
  pub does : did_after opening before e ≡ Some did
  pub sent : Contains did.sends f

-- one of the steps, of the frame's sender and at its stamp, sends that very frame
pub record IsSentBy (openings : ℕ → NodeState) (m : List Step) (f : Frame) : Type 0 where
  pub before : List Step
  pub step : Step
  pub after : List Step
  pub stands : m ≡ before ++ step ∷ after
  pub by_sender : step.node ≡ f.from
  pub stamped : step.stamp ≡ f.stamp
  pub sends : Sends (openings f.from) (entries_of f.from before) (entry_of step) f

-- each frame that is delivered or lost was sent by an earlier step
abbrev pub FramesWereSent : (ℕ → NodeState) → List Step → Type 0
FramesWereSent openings m =
    (before after : List Step) (step : Step) (f : Frame) → m ≡ before ++ step ∷ after → got_frame step.event ≡ Some f → IsSentBy openings before f

-- 4. Hints

-- the deed makes the actor live, by that attempt
abbrev pub MakesLive : Deed → ActorId → ℕ → Type 0
MakesLive (Deployed app net) a attempt = (a.app ≡ app) × (a.actor < length net.actors) × (attempt ≡ 0)
MakesLive (Accepted_here b e) a attempt = (a ≡ b) × (attempt ≡ e)
MakesLive (Resumed b e) a attempt = (a ≡ b) × (attempt ≡ e)
MakesLive Nothing a attempt = ⊥
MakesLive (Used b) a attempt = ⊥
MakesLive (Fired_action b action) a attempt = ⊥
MakesLive (Passed b c conn token) a attempt = ⊥
MakesLive (Received b conn t) a attempt = ⊥
MakesLive (Froze b to e) a attempt = ⊥
MakesLive (Removed b e) a attempt = ⊥
MakesLive (Destroyed_here app) a attempt = ⊥

-- a step of that node makes the actor live there by that attempt, or it was opened there
pub record IsMadeLive (openings : ℕ → NodeState) (m : List Step) (a : ActorId) (attempt node : ℕ) : Type 0 where
  pub before : List Step
  pub step : Step
  pub after : List Step
  pub stands : m ≡ before ++ step ∷ after
  pub at_node : step.node ≡ node
  pub did : Did
  pub does : did_after (openings node) (entries_of node before) (entry_of step) ≡ Some did
  pub makes : MakesLive did.deed a attempt

-- the actor lives in the opening state of the node, by that attempt
pub record IsOpenedLive (openings : ℕ → NodeState) (a : ActorId) (attempt node : ℕ) : Type 0 where
  pub live : LiveState
  pub there : map.get (openings node).live a ≡ Some live
  pub by_attempt : live.attempt ≡ attempt

-- each hint names an actor, an attempt and a node such that the actor is made live there by that attempt, somewhere in the
-- record: a hint bears no stamp of the other node, so that may be later
abbrev pub TrueHints : (ℕ → NodeState) → List Step → Type 0
TrueHints openings m =
    (step : Step) (a : ActorId) (attempt node : ℕ) → Contains m step → step.event ≡ event.Hint a attempt node → IsMadeLive openings m a attempt node ⊎ IsOpenedLive openings a attempt node
