-- Frames of one attempt say one thing, since each says what the history of moves says.
use Rattle.std.proofs.Common.{◌≡◌, ℕ, ◌≤◌, List, Some, is_some, sym, ap, subst, ◌∙◌}
use Rattle.std.specs.Prelude.{Contains}
use Rattle.std.proofs.lemmas.Option.{same_Some}
use Rattle.std.specs.FinMap as map
use Rattle.cv_token.specs.declared.identifiers.ActorId.{ActorId}
use Rattle.cv_protocol.specs.declared.frame.Body.{Body}
use Rattle.cv_protocol.specs.declared.frame.Body.TheVariants as body
use Rattle.cv_protocol.specs.declared.frame.Frame.{Frame}
use Rattle.cv_protocol.specs.declared.frame.Verdict.{Verdict}
use Rattle.cv_protocol.specs.declared.moving.Judged.{Judged}
use Rattle.cv_protocol.specs.Actors.{LiveState, StateView}
use Rattle.cv_protocol.specs.NodeState.{NodeState, judged_attempt}
use Rattle.cv_handover.specs.Meaning.{Nets, Meaning}
use Rattle.cv_handover.specs.Agree.{History, IsTransfer, IsVerdict, IsCancel, SaysTrue, records, Agree}
use Rattle.cv_handover.specs.Attempts.{Transfers, Tells, Cancels, AttemptsAreOne, AttemptsHold}
use Rattle.cv_handover.specs.Placed.{FromPlaced}
use Rattle.cv_handover.specs.Runs.{Reaches, FromAgreed, FromNothing}
use Rattle.cv_handover.proofs.Living.{is_here}
use Rattle.cv_handover.proofs.Placing.{holds_placed}
use Rattle.cv_handover.proofs.Records.{holds_agreed, holds_opened}

module _ (n : Nets) (nodes : ℕ → NodeState) (frames : List Frame) (m : Meaning) (h : History) (g : Agree n nodes frames m h) where
  says : (f : Frame) (b : Body) → Contains frames f → f.body ≡ b → SaysTrue m h f b
  says f b there is = subst (SaysTrue m h f) is (g.sent f there)

  transfer : (f : Frame) (a : ActorId) (e : ℕ) (x : StateView) → Contains frames f → Transfers f a e x → IsTransfer h a e f.from f.to x.actor
  transfer f a e x there is = says f (body.Transfer a e x) there is

  told : (f : Frame) (a : ActorId) (e : ℕ) (v : Verdict) → Contains frames f → Tells f a e v → IsVerdict h a e f.from v
  told f a e v there is = says f (body.Verdict a e v) there is

  given_up : (f : Frame) (a : ActorId) (e : ℕ) → Contains frames f → Cancels f a e → IsCancel h a e f.to
  given_up f a e there is = says f (body.Cancel a e) there is

  told_kept : (f : Frame) (a : ActorId) (e : ℕ) (v : Verdict) → Contains frames f → Tells f a e v → e ≤ judged_attempt (map.get (nodes f.from).moves.judged a)
  told_kept f a e v there is =
      let t = told f a e v there is in
      subst (λ (k : ℕ). e ≤ judged_attempt (records nodes k a)) t.target (g.kept.judged_high a e t.tried (ap is_some t.verdict))

  kept_told : (f : Frame) (i : ℕ) (a : ActorId) (j : Judged) (v w : Verdict) → Contains frames f → Tells f a j.attempt v → map.get (nodes i).moves.judged a ≡ Some j → j.verdict ≡ Some w → (v ≡ w) × (f.from ≡ i)
  kept_told f i a j v w there is kept has =
      let t = told f a j.attempt v there is in
      let k = g.kept.judged_ok i a j w kept has in
      (same_Some v w (sym t.verdict ∙ k.verdict), sym t.target ∙ k.target)

  lives_new : (f : Frame) (i : ℕ) (a : ActorId) (e : ℕ) (x : StateView) (l : LiveState) → Contains frames f → Transfers f a e x → map.get (nodes i).live a ≡ Some l → e ≤ l.attempt
  lives_new f i a e x l there is live =
      let t = transfer f a e x there is in
      let q = is_here n nodes frames m h i a l g live in
      subst (λ (k : ℕ). e ≤ k) (sym q.attempt) t.tried.1

  pub attempts_are_one : AttemptsAreOne nodes frames
  attempts_are_one = record {
    one_transfer =
        λ f k a e x y there here is was.
        let s = transfer f a e x there is in
        let t = transfer k a e y here was in
        (sym s.source ∙ t.source, sym s.target ∙ t.target, sym s.state ∙ t.state);
    cancelled_there = λ f k a e x there here is was. sym (given_up k a e here was).target ∙ (transfer f a e x there is).target;
    told_from_there = λ f k a e x v there here is was. sym (told k a e v here was).target ∙ (transfer f a e x there is).target;
    one_verdict = λ f k a e v w there here is was. same_Some v w (sym (told f a e v there is).verdict ∙ (told k a e w here was).verdict);
    told_is_kept = told_kept;
    kept_is_told = kept_told;
    lives_newest = lives_new;
  }

pub attempts_agreed : FromAgreed AttemptsHold
attempts_agreed n openings start h journals m g run nets begins rest stands =
    let r : Reaches n openings start begins = holds_agreed n openings start h journals m g run nets begins rest stands in
    record { world = r.world; meaning = r.meaning; reached = r.reached; attempts = attempts_are_one n r.world.nodes r.world.frames r.meaning r.history r.agrees }

pub attempts_opened : FromNothing AttemptsHold
attempts_opened specs nobody journals m numbers run begins rest stands =
    let r = holds_opened specs nobody journals m numbers run begins rest stands in
    record { world = r.world; meaning = r.meaning; reached = r.reached; attempts = attempts_are_one _ r.world.nodes r.world.frames r.meaning r.history r.agrees }

pub attempts_placed : FromPlaced AttemptsHold
attempts_placed n place openings journals m p run nets begins rest stands =
    let r = holds_placed n place openings journals m p run nets begins rest stands in
    record { world = r.world; meaning = r.meaning; reached = r.reached; attempts = attempts_are_one n r.world.nodes r.world.frames r.meaning r.history r.agrees }
