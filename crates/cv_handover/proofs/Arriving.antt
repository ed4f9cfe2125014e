-- The rows of a Transfer and a Cancel: an attempt above what its target keeps is judged there, once.
use Rattle.std.proofs.Common.{◌≡◌, ◌≢◌, ℕ, ◌<◌, Bool, true, false, ◌∷◌, Option, Some, refl, sym, ap, subst, ◌∙◌, arith}
use Rattle.std.specs.Prelude.{nat_le}
use Rattle.std.proofs.lemmas.Grind.{common_steps}
use Rattle.std.proofs.lemmas.Bool.Decides.{nat_tests}
use Rattle.std.specs.FinMap as map
use Rattle.cv_token.specs.declared.identifiers.ActorId.{ActorId}
use Rattle.cv_protocol.specs.declared.frame.Body.TheVariants as body
use Rattle.cv_protocol.specs.declared.frame.Frame.{Frame}
use Rattle.cv_protocol.specs.declared.frame.Verdict.{Verdict}
use Rattle.cv_protocol.specs.declared.frame.Verdict.TheVariants as verdict
use Rattle.cv_protocol.specs.Actors.{Actor, StateView}
use Rattle.cv_protocol.specs.Travel.{rewound, restore}
use Rattle.cv_protocol.specs.NodeState.{NodeState, judged_attempt, last, raise}
use Rattle.cv_protocol.specs.Rows.{Accepted_here, frame_to}
use Rattle.cv_protocol.specs.Deliveries.{with_verdict, refused, arrived, all_raised, accepted, judged_as, transfer_judged, transfer_comes, cancel_comes}
use Rattle.cv_protocol.specs.Owners.{Owners, At, Between, with_owner, where_so}
use Rattle.cv_handover.specs.World.{World, at}
use Rattle.cv_handover.specs.Meaning.{Nets, Meaning, with_owners}
use Rattle.cv_handover.specs.Agree.{Living, lives, copies, records, History, WasTried, Owned, Kept, IsTransfer, IsCancel, IsVerdict, Agree}
use Rattle.cv_handover.proofs.Places.{set, put, note, note_cases}
use Rattle.cv_handover.proofs.Goes.{Goes, lives_same, lives_inserted, copies_same, records_inserted, numbered_kept, owned_carried, kept_carried}
use Rattle.cv_handover.proofs.Growing.{Outlasts, lengthens_itself, sent_later, sent_one}
use Rattle.cv_handover.proofs.Copies.{streams_owner, streams_restore}
use Rattle.cv_handover.proofs.Departing.{lengthens_owner}
use Rattle.cv_handover.proofs.Judging as judging
use Rattle.cv_handover.proofs.Judging.{with_verdict_of, with_judgement}
use Rattle.cv_handover.proofs.Quiet.{goes_old}
use Rattle.cv_handover.proofs.Raising.{rewinds_both, rewinds_raise, rewinds_all_raised, rewinds_chained}
use Rattle.cv_handover.proofs.Standing.{is_coming_true, nowhere_not_between, set_other, owner_set, unheard_beside}

module _ (n : Nets) (w : World) (m : Meaning) (h : History) (i : ℕ) (g : Agree n w.nodes w.frames m h) (stamp sender : ℕ) (a : ActorId) (e : ℕ) (tried : WasTried h a e) (target : (h.moves a e).target ≡ i) (above : judged_attempt (map.get (w.nodes i).moves.judged a) < e) where
  -- 1. A verdict does not change what an attempt was

  pub outlasts_judgement : (v : Verdict) → Outlasts h (with_judgement h a e v)
  outlasts_judgement v = record {
    tried = λ b d was. was;
    source = λ b d was. judging.same_source (lives w.nodes) (copies w.nodes) (records w.nodes) m.owner h a i e g.owned g.kept tried target above v b d;
    target = λ b d was. judging.same_target (lives w.nodes) (copies w.nodes) (records w.nodes) m.owner h a i e g.owned g.kept tried target above v b d;
    state = λ b d was. judging.same_state (lives w.nodes) (copies w.nodes) (records w.nodes) m.owner h a i e g.owned g.kept tried target above v b d;
    verdict = λ b d x was is. judging.verdict_stays (lives w.nodes) (copies w.nodes) (records w.nodes) m.owner h a i e g.owned g.kept tried target above v b d x is;
  }

  has_verdict : (v : Verdict) → (note h.moves a e (with_verdict_of (h.moves a e) v) a e).verdict ≡ Some v
  has_verdict v = grind (arith, common_steps, note_cases h.moves a e (with_verdict_of (h.moves a e) v) a e)

  -- so the verdict that is told is true
  told : (v : Verdict) → IsVerdict (with_judgement h a e v) a e (w.nodes i).spec.no v
  told v = record {
    tried = tried;
    target = judging.same_target (lives w.nodes) (copies w.nodes) (records w.nodes) m.owner h a i e g.owned g.kept tried target above v a e ∙ target ∙ sym (g.numbered.number i);
    verdict = has_verdict v;
  }

  -- 2. A refusal

  pub goes_refused : (v : Verdict) → v ≢ verdict.Accepted → Goes n w m i (refused (w.nodes i) stamp sender a e v)
  goes_refused v refusal =
      let t : NodeState = with_verdict (w.nodes i) a e v in
      let k : History = with_judgement h a e v in
      record {
        meaning = m;
        history = k;
        means_it = refl;
        agrees = record {
          numbered = numbered_kept w.nodes i t n m m h k refl refl (λ b u. record { owner = u.owner; attempt = u.attempt; copy = u.copy }) g.numbered;
          owned = owned_carried (lives w.nodes) (lives (at w.nodes i t)) m k (lives_same w.nodes i t refl) (judging.owned_refuse (lives w.nodes) (copies w.nodes) (records w.nodes) m.owner h a i e g.owned g.kept tried target above v refusal);
          kept = kept_carried (copies w.nodes) (copies (at w.nodes i t)) (put (records w.nodes) i a (Some (record { attempt = e; verdict = Some v }))) (records (at w.nodes i t)) m k (copies_same w.nodes i t refl) (records_inserted w.nodes i t a (record { attempt = e; verdict = Some v }) refl) (judging.kept_refuse (lives w.nodes) (copies w.nodes) (records w.nodes) m.owner h a i e g.owned g.kept tried target above v refusal);
          streams = g.streams;
          sent = sent_one m k (frame_to (w.nodes i) stamp sender (body.Verdict a e v)) w.frames (told v) (sent_later m m h k w.frames (lengthens_itself m) (outlasts_judgement v) g.sent);
        };
      }

  -- 3. An acceptance

  module _ (state : StateView) (is_state : (h.moves a e).state ≡ state.actor) where
    comes : m.owner a ≡ Between (h.moves a e).source i e
    comes = judging.is_coming (lives w.nodes) (copies w.nodes) (records w.nodes) m.owner h a i e g.owned g.kept tried target above

    is_copy : state.actor ≡ h.copy a
    is_copy = sym is_state ∙ judging.copy_comes (lives w.nodes) (copies w.nodes) (records w.nodes) m.owner h a i e g.owned g.kept tried target above

    outlasts_accepted : Outlasts h (record (with_judgement h a e verdict.Accepted) { copy = set h.copy a (rewound state.actor) })
    outlasts_accepted =
        let o = outlasts_judgement verdict.Accepted in
        record { tried = o.tried; source = o.source; target = o.target; state = o.state; verdict = o.verdict }

    -- the actor lives here, before its hints are raised
    agrees_arrived : Agree n (at w.nodes i (arrived (with_verdict (w.nodes i) a e verdict.Accepted) a e state)) (frame_to (w.nodes i) stamp sender (body.Verdict a e verdict.Accepted) ∷ w.frames) (record m { owner = with_owner m.owner a (At i) }) (record (with_judgement h a e verdict.Accepted) { copy = set h.copy a (rewound state.actor) })
    agrees_arrived =
        let t : NodeState = arrived (with_verdict (w.nodes i) a e verdict.Accepted) a e state in
        let x : Actor = rewound state.actor in
        let owner : Owners = with_owner m.owner a (At i) in
        let v : Meaning = record m { owner = owner } in
        let judgement : History = with_judgement h a e verdict.Accepted in
        let k : History = record judgement { copy = set h.copy a x } in
        let lived : ℕ → ActorId → Option Living = put (lives w.nodes) i a (Some (record { actor = x; attempt = e })) in
        let noted = put (records w.nodes) i a (Some (record { attempt = e; verdict = Some verdict.Accepted })) in
        record {
          numbered = numbered_kept w.nodes i t n m v h k refl refl (unheard_beside n m h k a (At i) (λ q. nowhere_not_between (h.moves a e).source i e (sym q ∙ comes)) (λ b apart. refl) (set_other h.copy a x)) g.numbered;
          owned = owned_carried lived (lives (at w.nodes i t)) v k (lives_inserted w.nodes i t a (restore state e (w.nodes i).now) refl) (subst (λ (o : Owners). Owned lived o k) (owner_set m.owner a (At i)) (judging.owned_accept (lives w.nodes) (copies w.nodes) (records w.nodes) m.owner h a i e g.owned g.kept tried target above x));
          kept = kept_carried (copies w.nodes) (copies (at w.nodes i t)) noted (records (at w.nodes i t)) v k (copies_same w.nodes i t refl) (records_inserted w.nodes i t a (record { attempt = e; verdict = Some verdict.Accepted }) refl) (subst (λ (o : Owners). Kept (copies w.nodes) noted o k) (owner_set m.owner a (At i)) (judging.kept_accept (lives w.nodes) (copies w.nodes) (records w.nodes) m.owner h a i e g.owned g.kept tried target above x));
          streams = streams_owner n m (set h.copy a x) owner (streams_restore n m h.copy a state.actor g.streams is_copy);
          sent = sent_one v k (frame_to (w.nodes i) stamp sender (body.Verdict a e verdict.Accepted)) w.frames (let q = told verdict.Accepted in record { tried = q.tried; target = q.target; verdict = q.verdict }) (sent_later m v h k w.frames (lengthens_owner m owner) outlasts_accepted g.sent);
        }

    pub goes_accepted : Goes n w m i (accepted (w.nodes i) stamp sender a e state)
    goes_accepted =
        let owner : Owners = with_owner m.owner a (At i) in
        let v : Meaning = record m { owner = owner } in
        let k : History = record (with_judgement h a e verdict.Accepted) { copy = set h.copy a (rewound state.actor) } in
        let no : ℕ = (w.nodes i).spec.no in
        let t : NodeState = arrived (with_verdict (w.nodes i) a e verdict.Accepted) a e state in
        let x = rewinds_chained n v i (λ s. all_raised state.hints (raise s a e no)) (rewinds_both n v i (λ s. raise s a e no) (all_raised state.hints) (rewinds_raise n v i a e no) (rewinds_all_raised n v i state.hints)) w.nodes t (frame_to (w.nodes i) stamp sender (body.Verdict a e verdict.Accepted) ∷ w.frames) k agrees_arrived in
        record {
          meaning = v;
          history = record k { copy = x.copy };
          means_it = ap (λ (b : Bool). with_owners n m (Accepted_here a e) (where_so b owner)) (is_coming_true (h.moves a e).source i e (m.owner a) comes);
          agrees = x.agrees;
        }

    judged_goes : (v : Verdict) → Goes n w m i (transfer_judged (w.nodes i) stamp sender a e state v)
    judged_goes verdict.Accepted = goes_accepted
    judged_goes verdict.Unfit = goes_refused verdict.Unfit (λ q. cc)
    judged_goes verdict.Full = goes_refused verdict.Full (λ q. cc)
    judged_goes verdict.Gone = goes_refused verdict.Gone (λ q. cc)
    judged_goes verdict.Cancelled = goes_refused verdict.Cancelled (λ q. cc)

    pub goes_judged : Goes n w m i (transfer_judged (w.nodes i) stamp sender a e state (judged_as (w.nodes i) a state))
    goes_judged = judged_goes (judged_as (w.nodes i) a state)

-- 4. The rows

above_record : (s : NodeState) (a : ActorId) (e : ℕ) → nat_le e (last s a) ≡ false → judged_attempt (map.get s.moves.judged a) < e
above_record s a e is = grind (arith, nat_tests, is)

module _ (n : Nets) (w : World) (m : Meaning) (h : History) (i : ℕ) (g : Agree n w.nodes w.frames m h) (stamp : ℕ) (f : Frame) (here : f.to ≡ i) (a : ActorId) (e : ℕ) where
  transfer_by : (state : StateView) → IsTransfer h a e f.from f.to state.actor → (old : Bool) → nat_le e (last (w.nodes i) a) ≡ old → Goes n w m i (transfer_comes (w.nodes i) stamp f.from a e state old)
  transfer_by state says true is = goes_old n w m h i g stamp f.from a e
  transfer_by state says false is = goes_judged n w m h i g stamp f.from a e says.tried (says.target ∙ here) (above_record (w.nodes i) a e is) state says.state

  pub goes_transfer : (state : StateView) → IsTransfer h a e f.from f.to state.actor → Goes n w m i (transfer_comes (w.nodes i) stamp f.from a e state (nat_le e (last (w.nodes i) a)))
  goes_transfer state says = transfer_by state says (nat_le e (last (w.nodes i) a)) refl

  cancel_by : IsCancel h a e f.to → (old : Bool) → nat_le e (last (w.nodes i) a) ≡ old → Goes n w m i (cancel_comes (w.nodes i) stamp f.from a e old)
  cancel_by says true is = goes_old n w m h i g stamp f.from a e
  cancel_by says false is = goes_refused n w m h i g stamp f.from a e says.tried (says.target ∙ here) (above_record (w.nodes i) a e is) verdict.Cancelled (λ q. cc)

  pub goes_cancel : IsCancel h a e f.to → Goes n w m i (cancel_comes (w.nodes i) stamp f.from a e (nat_le e (last (w.nodes i) a)))
  goes_cancel says = cancel_by says (nat_le e (last (w.nodes i) a)) refl
