-- Numbers that stay few: where no actor moves and no application comes or goes, an entry raises no number by more than one.
use Rattle.std.specs.Prelude.{◌≡◌, ℕ, suc, ◌+◌, ◌<◌, ◌≤◌, Bool, true, false, List, [], ◌∷◌, ◌++◌, length, Option, Some, None, IfSome, Contains}
use Rattle.std.specs.FinMap as map
use Rattle.cv_token.specs.declared.identifiers.ActorId.{ActorId}
use Rattle.cv_token.specs.declared.identifiers.AppId.{AppId}
use Rattle.cv_kinds.specs.Net.{Net}
use Rattle.cv_rules.specs.declared.attrs.NodeSpec.{NodeSpec}
use Rattle.cv_queue.specs.Ports.{OutView, received}
use Rattle.cv_protocol.specs.declared.event.Entry.{Entry}
use Rattle.cv_protocol.specs.declared.event.Event.{Event}
use Rattle.cv_protocol.specs.declared.event.Event.TheVariants as event
use Rattle.cv_protocol.specs.declared.event.Step.{Step}
use Rattle.cv_protocol.specs.declared.frame.Body.{Body}
use Rattle.cv_protocol.specs.declared.frame.Body.TheVariants as body
use Rattle.cv_protocol.specs.declared.frame.Frame.{Frame}
use Rattle.cv_protocol.specs.declared.moving.Location.{Location}
use Rattle.cv_protocol.specs.declared.refusal.StepRefusal.TheVariants as refusal
use Rattle.cv_protocol.specs.declared.state.Inlet.{Inlet}
use Rattle.cv_protocol.specs.Actors.{LiveState}
use Rattle.cv_protocol.specs.NodeRow.{cause_of, row, stamp_of}
use Rattle.cv_protocol.specs.NodeState.{NodeState}
use Rattle.cv_protocol.specs.Journals.{FramesWereSent, IsLocalRun, IsRecordOf, entries_of, got_frame, replay}
use Rattle.cv_protocol.specs.Poll.{limit, row_at}
use Rattle.cv_protocol.specs.Rows.{Did}
use Rattle.cv_state.specs.Opening.{opened}

-- 1. A node

-- no fed inport received more tokens
abbrev pub InsAreFew : ℕ → List (Option Inlet) → Type 0
InsAreFew n [] = Unit {0}
InsAreFew n (None ∷ ins) = InsAreFew n ins
InsAreFew n (Some i ∷ ins) = (received i.port ≤ n) × InsAreFew n ins

-- to no outport more were written
abbrev pub OutsAreFew : ℕ → List OutView → Type 0
OutsAreFew n [] = Unit {0}
OutsAreFew n (o ∷ outs) = (o.write ≤ n) × OutsAreFew n outs

pub record LiveIsFew (n : ℕ) (l : LiveState) : Type 0 where
  pub attempt : l.attempt ≤ n
  pub ins : InsAreFew n l.actor.ins
  pub outs : OutsAreFew n l.actor.outs

-- no count and no attempt of a live actor, and no attempt of a hint, is above n
pub record IsFew (n : ℕ) (s : NodeState) : Type 0 where
  pub live : (a : ActorId) (l : LiveState) → map.get s.live a ≡ Some l → LiveIsFew n l
  pub hints : (a : ActorId) (h : Location) → map.get s.hints a ≡ Some h → h.attempt ≤ n

-- the frame is of no move, and no attempt that it tells is above n
abbrev pub BodyIsFew : ℕ → Body → Type 0
BodyIsFew n (body.Token conn a number t) = Unit {0}
BodyIsFew n (body.Ack conn a upto) = Unit {0}
BodyIsFew n (body.Nack conn a upto) = Unit {0}
BodyIsFew n (body.Located a attempt node) = attempt ≤ n
BodyIsFew n (body.Transfer a attempt state) = ⊥
BodyIsFew n (body.Verdict a attempt v) = ⊥
BodyIsFew n (body.Cancel a attempt) = ⊥
BodyIsFew n (body.Destroy app) = ⊥

-- 2. An event

-- no actor moves by it, and no application comes or goes
abbrev pub is_still : Event → Bool
is_still (event.Meet node attrs) = true
is_still (event.Tick now) = true
is_still (event.Peek a port) = true
is_still (event.Fire a action) = true
is_still (event.Pass conn) = true
is_still (event.Send conn) = true
is_still (event.Rewind conn) = true
is_still (event.Lose f) = true
is_still (event.Deliver f) = true
is_still (event.Deploy name net) = false
is_still (event.Freeze a to) = false
is_still (event.Resend a) = false
is_still (event.Withdraw a) = false
is_still (event.Hint a attempt node) = false
is_still (event.Destroy app) = false

-- the frame that it gets is few
abbrev pub GotFew : ℕ → Option Frame → Type 0
GotFew n None = Unit {0}
GotFew n (Some f) = BodyIsFew n f.body

-- what a row leaves, and what it sends
pub record DidFew (n : ℕ) (d : Did) : Type 0 where
  pub next : IsFew n d.next
  pub sends : (f : Frame) → Contains d.sends f → BodyIsFew n f.body

-- a row raises no number by more than one
abbrev pub RaisesByOne : Type 0
RaisesByOne =
    (n : ℕ) (s : NodeState) (e : Event) → is_still e ≡ true → GotFew n (got_frame e) → IsFew n s → IfSome (row s e) (DidFew (suc n))

-- the moment at which the actor may next fire by a timed action is below the limit
abbrev pub DueIsBounded : NodeState → Event → Type 0
DueIsBounded s (event.Fire a action) =
    (l : LiveState) → map.get s.live a ≡ Some l → s.now + (row_at l).pause l.actor.spec.args < limit
DueIsBounded s (event.Meet node attrs) = Unit {0}
DueIsBounded s (event.Deploy name net) = Unit {0}
DueIsBounded s (event.Tick now) = Unit {0}
DueIsBounded s (event.Peek a port) = Unit {0}
DueIsBounded s (event.Pass conn) = Unit {0}
DueIsBounded s (event.Send conn) = Unit {0}
DueIsBounded s (event.Rewind conn) = Unit {0}
DueIsBounded s (event.Freeze a to) = Unit {0}
DueIsBounded s (event.Resend a) = Unit {0}
DueIsBounded s (event.Withdraw a) = Unit {0}
DueIsBounded s (event.Hint a attempt node) = Unit {0}
DueIsBounded s (event.Destroy app) = Unit {0}
DueIsBounded s (event.Lose f) = Unit {0}
DueIsBounded s (event.Deliver f) = Unit {0}

-- no event is refused for a number, where the numbers are few, the stamp and the moment too
abbrev pub NoneIsSpent : Type 0
NoneIsSpent =
    (n : ℕ) (s : NodeState) (e : Event) → suc n < limit → is_still e ≡ true → GotFew n (got_frame e) → IsFew n s → stamp_of s e < limit → DueIsBounded s e → cause_of s e ≡ Some refusal.StampSpent → ⊥

-- 3. A record

abbrev pub AllStill : List Step → Type 0
AllStill m = (step : Step) → Contains m step → is_still step.event ≡ true

-- a node before its first entry, with its actors at their start
pub record IsNew (s : NodeState) : Type 0 where
  pub unstamped : s.stamp ≡ 0
  pub few : IsFew 0 s

-- after so many steps no stamp, count and attempt of a node is above their number
pub record StateIsFew (n : ℕ) (s : NodeState) : Type 0 where
  pub stamp : s.stamp ≤ n
  pub few : IsFew n s

-- after every beginning of a record of local runs in which each frame that came was sent before, in which no actor moves and no
-- application comes or goes: no stamp, count and attempt of a node is above the number of steps
abbrev pub RecordsStayFew : Type 0
RecordsStayFew =
    (openings : ℕ → NodeState) (journals : ℕ → List Entry) (m : List Step) → IsRecordOf journals m → ((i : ℕ) → IsLocalRun (openings i) (journals i)) → FramesWereSent openings m → AllStill m → ((i : ℕ) → IsNew (openings i)) → (begins rest : List Step) (i : ℕ) (s : NodeState) → m ≡ begins ++ rest → replay (openings i) (entries_of i begins) ≡ Some s → StateIsFew (length begins) s

-- so is a node that opens with the actors of an application in their places
abbrev pub OpenedIsNew : Type 0
OpenedIsNew =
    (spec : NodeSpec) (app : AppId) (net : Net) (at : List ℕ) → IsNew (opened spec app net at)
