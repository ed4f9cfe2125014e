-- A node's record of an actor never falls, whatever the state, so a node judges each attempt at most once; and where verdicts come from.
use Rattle.std.specs.Prelude.{◌≡◌, ◌⊎◌, ℕ, ◌<◌, ◌≤◌, Bool, true, false, nat_le, List, ◌∷◌, ◌++◌, Option, Some, None, IfSome}
use Rattle.std.specs.FinMap as map
use Rattle.cv_token.specs.declared.identifiers.ActorId.{ActorId}
use Rattle.cv_protocol.specs.declared.event.Entry.{Entry}
use Rattle.cv_protocol.specs.declared.event.Event.{Event}
use Rattle.cv_protocol.specs.declared.event.Event.TheVariants as event
use Rattle.cv_protocol.specs.declared.frame.Body.{Body}
use Rattle.cv_protocol.specs.declared.frame.Body.TheVariants as body
use Rattle.cv_protocol.specs.declared.frame.Frame.{Frame}
use Rattle.cv_protocol.specs.declared.frame.Verdict.{Verdict}
use Rattle.cv_protocol.specs.declared.frame.Verdict.TheVariants as verdict
use Rattle.cv_protocol.specs.declared.moving.Judged.{Judged}
use Rattle.cv_protocol.specs.Deliveries.{judged_as}
use Rattle.cv_protocol.specs.Journals.{replay}
use Rattle.cv_protocol.specs.NodeRow.{row}
use Rattle.cv_protocol.specs.NodeState.{NodeState, judged_attempt, last}

-- the greatest attempt of the actor that was judged or released here
abbrev pub record_of : NodeState → ActorId → ℕ
record_of s a = judged_attempt (map.get s.moves.judged a)

abbrev pub RowsRaise : Type 0
RowsRaise = (s : NodeState) (e : Event) (a : ActorId) → IfSome (row s e) (λ d. record_of s a ≤ record_of d.next a)

abbrev pub JournalsRaise : Type 0
JournalsRaise = (s u : NodeState) (entries : List Entry) (a : ActorId) → replay s entries ≡ Some u → record_of s a ≤ record_of u a

-- what a node judges of an attempt that is not above all that it keeps of the actor, and of one above
abbrev pub judged_if : Bool → ActorId → ℕ → Verdict → Option (ActorId × Judged)
judged_if true a e v = None
judged_if false a e v = Some (a, record { attempt = e; verdict = Some v })

-- the record that a frame which comes makes: by the judgement of a Transfer, or Cancelled by a Cancel
abbrev pub judgement_by : NodeState → Body → Option (ActorId × Judged)
judgement_by s (body.Transfer a e state) = judged_if (nat_le e (last s a)) a e (judged_as s a state)
judgement_by s (body.Cancel a e) = judged_if (nat_le e (last s a)) a e verdict.Cancelled
judgement_by s (body.Token conn a n t) = None
judgement_by s (body.Ack conn a upto) = None
judgement_by s (body.Nack conn a upto) = None
judgement_by s (body.Verdict a e v) = None
judgement_by s (body.Located a e node) = None
judgement_by s (body.Destroy app) = None

abbrev pub judgement_at : NodeState → Event → Option (ActorId × Judged)
judgement_at s (event.Deliver f) = judgement_by s f.body
judgement_at s (event.Lose f) = None
judgement_at s (event.Meet node attrs) = None
judgement_at s (event.Deploy name net) = None
judgement_at s (event.Tick now) = None
judgement_at s (event.Peek a port) = None
judgement_at s (event.Fire a action) = None
judgement_at s (event.Pass conn) = None
judgement_at s (event.Send conn) = None
judgement_at s (event.Rewind conn) = None
judgement_at s (event.Freeze a to) = None
judgement_at s (event.Resend a) = None
judgement_at s (event.Withdraw a) = None
judgement_at s (event.Hint a attempt node) = None
judgement_at s (event.Destroy app) = None

-- a record with a verdict is new only where a frame that comes has the attempt judged, and then is that judgement
abbrev pub VerdictsAreJudged : Type 0
VerdictsAreJudged =
    (s : NodeState) (e : Event) (a : ActorId) (j : Judged) (v : Verdict) → j.verdict ≡ Some v → IfSome (row s e) (λ d. map.get d.next.moves.judged a ≡ Some j → (map.get s.moves.judged a ≡ Some j) ⊎ (judgement_at s e ≡ Some (a, j)))

-- a Cancel of that attempt is delivered by one of the entries
pub record WasCancelled (entries : List Entry) (a : ActorId) (e : ℕ) : Type 0 where
  pub before : List Entry
  pub entry : Entry
  pub after : List Entry
  pub frame : Frame
  pub stands : entries ≡ before ++ entry ∷ after
  pub delivers : entry.event ≡ event.Deliver frame
  pub cancels : frame.body ≡ body.Cancel a e

-- a record says Cancelled only where it did at first or a Cancel of its attempt was delivered
abbrev pub CancelledByCancel : Type 0
CancelledByCancel =
    (s u : NodeState) (entries : List Entry) (a : ActorId) (j : Judged) → replay s entries ≡ Some u → map.get u.moves.judged a ≡ Some j → j.verdict ≡ Some verdict.Cancelled → (map.get s.moves.judged a ≡ Some j) ⊎ WasCancelled entries a j.attempt

-- the attempt that a frame asks to judge
abbrev pub asks : Body → Option (ActorId × ℕ)
asks (body.Transfer a e state) = Some (a, e)
asks (body.Cancel a e) = Some (a, e)
asks (body.Token conn a n t) = None
asks (body.Ack conn a upto) = None
asks (body.Nack conn a upto) = None
asks (body.Verdict a e v) = None
asks (body.Located a e node) = None
asks (body.Destroy app) = None

-- an attempt above all that the node keeps of the actor is judged, and whatever comes after, it is never above that again
abbrev pub JudgedOnce : Type 0
JudgedOnce =
    (s u : NodeState) (f : Frame) (a : ActorId) (e : ℕ) (entries : List Entry) → asks f.body ≡ Some (a, e) → last s a < e → IfSome (row s (event.Deliver f)) (λ d. replay d.next entries ≡ Some u → e ≤ last u a)
