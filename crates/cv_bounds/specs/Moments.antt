-- Moments that stay low: an actor waits less than 2^31 milliseconds, so in runs of nodes no event is refused for a number.
use Rattle.std.specs.Prelude.{◌≡◌, ℕ, ◌+◌, ◌<◌, ◌≤◌, ◌^◌, true, Some, IfSome, List, [], ◌∷◌, Contains}
use Rattle.std.specs.FinMap as map
use Rattle.cv_token.specs.declared.identifiers.ActorId.{ActorId}
use Rattle.cv_token.specs.declared.identifiers.AppId.{AppId}
use Rattle.cv_kinds.specs.Net.{Net}
use Rattle.cv_kinds.specs.WellFormed.{IsWellFormed}
use Rattle.cv_rules.specs.declared.attrs.NodeSpec.{NodeSpec}
use Rattle.cv_protocol.specs.declared.event.Entry.{Entry}
use Rattle.cv_protocol.specs.declared.event.Event.{Event}
use Rattle.cv_protocol.specs.declared.event.Event.TheVariants as event
use Rattle.cv_protocol.specs.declared.frame.Frame.{Frame}
use Rattle.cv_protocol.specs.declared.refusal.StepRefusal.TheVariants as refusal
use Rattle.cv_protocol.specs.Actors.{LiveState}
use Rattle.cv_protocol.specs.Journals.{got_frame, replay}
use Rattle.cv_protocol.specs.NodeRow.{cause_of, row}
use Rattle.cv_protocol.specs.NodeState.{NodeState, opening}
use Rattle.cv_protocol.specs.Poll.{row_at}
use Rattle.cv_protocol.specs.Rows.{Did}
use Rattle.cv_merge.specs.Lanes.{Ascends, Lane, entries_at, numbers, total}
use Rattle.cv_merge.specs.Laws.{AreLocalRuns, GotOnlySent, IsSentIn}
use Rattle.cv_state.specs.Opening.{opened}
use Rattle.cv_bounds.specs.Few.{GotFew, IsNew, is_still}

-- 1. How long an actor waits

-- a duration has fewer milliseconds than this
abbrev pub duration_limit : ℕ
duration_limit = 2 ^ 31

-- the moment from which the actor may fire by a timed action is less than a duration ahead, and so it is after each firing
pub record WaitsBriefly (now : ℕ) (l : LiveState) : Type 0 where
  pub due : l.due < now + duration_limit
  pub pause : (row_at l).pause l.actor.spec.args < duration_limit

-- each live actor waits less than a duration
abbrev pub AllWaitBriefly : NodeState → Type 0
AllWaitBriefly s = (a : ActorId) (l : LiveState) → map.get s.live a ≡ Some l → WaitsBriefly s.now l

-- the moment after an event: only a Tick leads to another one
abbrev pub moment_after : ℕ → Event → ℕ
moment_after now (event.Tick moment) = moment
moment_after now (event.Meet node attrs) = now
moment_after now (event.Peek a port) = now
moment_after now (event.Fire a action) = now
moment_after now (event.Pass conn) = now
moment_after now (event.Send conn) = now
moment_after now (event.Rewind conn) = now
moment_after now (event.Lose f) = now
moment_after now (event.Deliver f) = now
moment_after now (event.Deploy name net) = now
moment_after now (event.Freeze a to) = now
moment_after now (event.Resend a) = now
moment_after now (event.Withdraw a) = now
moment_after now (event.Hint a attempt node) = now
moment_after now (event.Destroy app) = now

-- the moment after these entries
abbrev pub moment_of : ℕ → List Entry → ℕ
moment_of now [] = now
moment_of now (e ∷ entries) = moment_of (moment_after now e.event) entries

-- the node is at the moment after the event, and each live actor waits less than a duration
pub record IsTimely (s : NodeState) (e : Event) (d : Did) : Type 0 where
  pub moment : d.next.now ≡ moment_after s.now e
  pub brief : AllWaitBriefly d.next

-- a row leads to another moment only by a Tick, and leaves no actor that waits longer
abbrev pub WaitsStayBrief : Type 0
WaitsStayBrief =
    (n : ℕ) (s : NodeState) (e : Event) → is_still e ≡ true → GotFew n (got_frame e) → AllWaitBriefly s → IfSome (row s e) (IsTimely s e)

-- 2. The start

-- a node before its first entry, at the moment 0, with its actors at their start
pub record IsStart (s : NodeState) : Type 0 where
  pub new : IsNew s
  pub early : s.now ≡ 0
  pub brief : AllWaitBriefly s

-- so is a node that opens with the actors of a network in their places, and one with no actors
abbrev pub OpenedIsStart : Type 0
OpenedIsStart =
    (spec : NodeSpec) (app : AppId) (net : Net) (at : List ℕ) → IsWellFormed net → IsStart (opened spec app net at)

abbrev pub EmptyIsStart : Type 0
EmptyIsStart = (spec : NodeSpec) → IsStart (opening spec)

-- 3. Runs of several nodes

-- The journals of nodes, each a local run from the node's start; each frame that came was sent by an entry of one of them; no actor
-- moves, and no application comes or goes.
pub record AreRuns (openings : ℕ → NodeState) (lanes : List Lane) : Type 0 where
  pub ascend : Ascends (numbers lanes)
  pub starts : (i : ℕ) → IsStart (openings i)
  pub local : AreLocalRuns openings (entries_at lanes)
  pub sent : GotOnlySent openings (entries_at lanes)
  pub still : (i : ℕ) (e : Entry) → Contains (entries_at lanes i) e → is_still e.event ≡ true

-- the event may come to one of the nodes: a frame that it gets was sent by an entry of one of them
pub record MayCome (openings : ℕ → NodeState) (lanes : List Lane) (e : Event) : Type 0 where
  pub still : is_still e ≡ true
  pub sent : (f : Frame) → got_frame e ≡ Some f → IsSentIn openings (entries_at lanes) f

-- the state that entries left is at the moment after them, and each live actor waits less than a duration
pub record EndsTimely (opening : NodeState) (entries : List Entry) (s : NodeState) : Type 0 where
  pub moment : s.now ≡ moment_of opening.now entries
  pub brief : AllWaitBriefly s

-- each run ends so
abbrev pub RunsAreTimely : Type 0
RunsAreTimely =
    (openings : ℕ → NodeState) (lanes : List Lane) → AreRuns openings lanes → (i : ℕ) (s : NodeState) → replay (openings i) (entries_at lanes i) ≡ Some s → EndsTimely (openings i) (entries_at lanes i) s

-- the journals have few entries together, and the moments are low: no event is refused for a number
abbrev pub RunsSpendNothing : Type 0
RunsSpendNothing =
    (openings : ℕ → NodeState) (lanes : List Lane) → AreRuns openings lanes → total lanes < 2 ^ 61 → (i : ℕ) (s : NodeState) → replay (openings i) (entries_at lanes i) ≡ Some s → s.now ≤ 2 ^ 61 → (e : Event) → MayCome openings lanes e → cause_of s e ≡ Some refusal.StampSpent → ⊥
