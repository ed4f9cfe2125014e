-- Attempts to move an actor: what all frames that were ever sent, and the nodes' records, say of one.
use Rattle.std.specs.Prelude.{◌≡◌, ℕ, ◌≤◌, List, ◌++◌, Some, Contains}
use Rattle.std.specs.FinMap as map
use Rattle.cv_token.specs.declared.identifiers.ActorId.{ActorId}
use Rattle.cv_protocol.specs.declared.event.Step.{Step}
use Rattle.cv_protocol.specs.declared.frame.Body.TheVariants as body
use Rattle.cv_protocol.specs.declared.frame.Frame.{Frame}
use Rattle.cv_protocol.specs.declared.frame.Verdict.{Verdict}
use Rattle.cv_protocol.specs.declared.moving.Judged.{Judged}
use Rattle.cv_protocol.specs.Actors.{LiveState, StateView}
use Rattle.cv_protocol.specs.NodeState.{NodeState, judged_attempt}
use Rattle.cv_handover.specs.World.{World}
use Rattle.cv_handover.specs.Meaning.{Nets, Meaning}
use Rattle.cv_handover.specs.Runs.{opened, ran}

-- a frame with an attempt's state, with its verdict, or that gives it up
abbrev pub Transfers : Frame → ActorId → ℕ → StateView → Type 0
Transfers f a e state = f.body ≡ body.Transfer a e state

abbrev pub Tells : Frame → ActorId → ℕ → Verdict → Type 0
Tells f a e v = f.body ≡ body.Verdict a e v

abbrev pub Cancels : Frame → ActorId → ℕ → Type 0
Cancels f a e = f.body ≡ body.Cancel a e

pub record AttemptsAreOne (nodes : ℕ → NodeState) (frames : List Frame) : Type 0 where
  -- an attempt has one source, one target and one state, however often it was sent
  pub one_transfer : (f g : Frame) (a : ActorId) (e : ℕ) (x y : StateView) → Contains frames f → Contains frames g → Transfers f a e x → Transfers g a e y → (f.from ≡ g.from) × (f.to ≡ g.to) × (x.actor ≡ y.actor)
  -- it is given up towards its target, and its target alone tells a verdict, always the same one
  pub cancelled_there : (f g : Frame) (a : ActorId) (e : ℕ) (x : StateView) → Contains frames f → Contains frames g → Transfers f a e x → Cancels g a e → g.to ≡ f.to
  pub told_from_there : (f g : Frame) (a : ActorId) (e : ℕ) (x : StateView) (v : Verdict) → Contains frames f → Contains frames g → Transfers f a e x → Tells g a e v → g.from ≡ f.to
  pub one_verdict : (f g : Frame) (a : ActorId) (e : ℕ) (v w : Verdict) → Contains frames f → Contains frames g → Tells f a e v → Tells g a e w → v ≡ w
  -- a node told a verdict of no attempt above its record; and where the record is of that attempt and has a verdict, it is that one
  pub told_is_kept : (f : Frame) (a : ActorId) (e : ℕ) (v : Verdict) → Contains frames f → Tells f a e v → e ≤ judged_attempt (map.get (nodes f.from).moves.judged a)
  pub kept_is_told : (f : Frame) (i : ℕ) (a : ActorId) (j : Judged) (v w : Verdict) → Contains frames f → Tells f a j.attempt v → map.get (nodes i).moves.judged a ≡ Some j → j.verdict ≡ Some w → (v ≡ w) × (f.from ≡ i)
  -- who lives does so by an attempt that is at least each that was ever sent; so the next one, by which it may leave, is new
  pub lives_newest : (f : Frame) (i : ℕ) (a : ActorId) (e : ℕ) (x : StateView) (l : LiveState) → Contains frames f → Transfers f a e x → map.get (nodes i).live a ≡ Some l → e ≤ l.attempt

-- after these steps
pub record AttemptsAfter (n : Nets) (openings : ℕ → NodeState) (start : Meaning) (begins : List Step) : Type 0 where
  pub world : World
  pub meaning : Meaning
  pub reached : ran n (opened openings) start begins ≡ Some (world, meaning)
  pub attempts : AttemptsAreOne world.nodes world.frames

abbrev pub AttemptsHold : Nets → (ℕ → NodeState) → Meaning → List Step → Type 0
AttemptsHold n openings start m =
    (begins rest : List Step) → m ≡ begins ++ rest → AttemptsAfter n openings start begins
