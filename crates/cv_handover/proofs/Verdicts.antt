-- The row of a Verdict: the frozen copy is released, or the actor lives at its node again, or is removed.
use Rattle.std.proofs.Common.{◌≡◌, ◌≢◌, ℕ, Bool, true, false, ◌==◌, Option, Some, None, refl, sym, ap, subst, ◌∙◌}
use Rattle.std.specs.Prelude.{option_map}
use Rattle.std.specs.FinMap as map
use Rattle.cv_token.specs.declared.identifiers.ActorId.{ActorId}
use Rattle.cv_protocol.specs.declared.frame.Verdict.{Verdict}
use Rattle.cv_protocol.specs.declared.frame.Verdict.TheVariants as verdict
use Rattle.cv_protocol.specs.declared.moving.Frozen.{Frozen}
use Rattle.cv_protocol.specs.Actors.{Actor, LiveState}
use Rattle.cv_protocol.specs.Travel.{rewound, restore}
use Rattle.cv_protocol.specs.NodeState.{NodeState, raise, is_gone}
use Rattle.cv_protocol.specs.Rows.{Resumed, Removed, with_live}
use Rattle.cv_protocol.specs.Deliveries.{is_accepted, without_frozen, resumed, verdict_by, verdict_for, verdict_comes}
use Rattle.cv_protocol.specs.Owners.{Owner, Owners, Nowhere, At, Between, with_owner, where_so}
use Rattle.cv_handover.specs.World.{World, at}
use Rattle.cv_handover.specs.Meaning.{Nets, Meaning, with_owners}
use Rattle.cv_handover.specs.Agree.{Living, copy_of, lives, copies, records, History, Owned, Kept, IsVerdict, Agree}
use Rattle.cv_handover.proofs.Places.{set, put}
use Rattle.cv_handover.proofs.Goes.{Goes, lives_same, lives_inserted, copies_removed, records_same, numbered_kept, owned_carried, kept_carried}
use Rattle.cv_handover.proofs.Growing.{outlasts_copies, sent_later}
use Rattle.cv_handover.proofs.Copies.{streams_owner, streams_restore}
use Rattle.cv_handover.proofs.Departing.{lengthens_owner}
use Rattle.cv_handover.proofs.Many.{kept_history}
use Rattle.cv_handover.proofs.Quiet.{goes_nothing, goes_rewound, number_same}
use Rattle.cv_handover.proofs.Raising.{rewinds_raise}
use Rattle.cv_handover.proofs.Returning as returning
use Rattle.cv_handover.proofs.Standing.{is_going_true, nowhere_not_between, set_other, owner_set, unheard_beside}

module _ (n : Nets) (w : World) (m : Meaning) (h : History) (i : ℕ) (g : Agree n w.nodes w.frames m h) (a : ActorId) where
  -- 1. A refused move

  module _ (f : Frozen) (stands : map.get (w.nodes i).moves.frozen a ≡ Some f) (v : Verdict) (says : (h.moves a f.attempt).verdict ≡ Some v) (refusal : v ≢ verdict.Accepted) where
    seen : copies w.nodes i a ≡ Some (copy_of f)
    seen = ap (option_map copy_of) stands

    goes_away : m.owner a ≡ Between i f.target f.attempt
    goes_away = returning.is_going (lives w.nodes) (copies w.nodes) (records w.nodes) m.owner h i a (copy_of f) v g.owned g.kept seen says refusal

    somewhere : (m.owner a ≡ Nowhere) → ⊥
    somewhere q = nowhere_not_between i f.target f.attempt (sym q ∙ goes_away)

    returned : (x : Owner) (y : Actor) → Kept (put (copies w.nodes) i a None) (records w.nodes) (with_owner m.owner a x) (record h { copy = set h.copy a y })
    returned x y = subst (λ (o : Owners). Kept (put (copies w.nodes) i a None) (records w.nodes) o (record h { copy = set h.copy a y })) (owner_set m.owner a x) (returning.kept_return (lives w.nodes) (copies w.nodes) (records w.nodes) m.owner h i a (copy_of f) v g.owned g.kept seen says refusal x y)

    goes_removed : Goes n w m i (resumed (w.nodes i) a f true)
    goes_removed =
        let t : NodeState = without_frozen (w.nodes i) a in
        let owner : Owners = with_owner m.owner a Nowhere in
        let u : Meaning = record m { owner = owner } in
        record {
          meaning = u;
          history = h;
          means_it = ap (λ (b : Bool). with_owners n m (Removed a f.attempt) (where_so b owner)) (is_going_true i f.target f.attempt (m.owner a) goes_away);
          agrees = record {
            numbered = numbered_kept w.nodes i t n m u h h refl refl (unheard_beside n m h h a Nowhere somewhere (λ b apart. refl) (λ b apart. refl)) g.numbered;
            owned = owned_carried (lives w.nodes) (lives (at w.nodes i t)) u h (lives_same w.nodes i t refl) (subst (λ (o : Owners). Owned (lives w.nodes) o h) (owner_set m.owner a Nowhere) (returning.owned_remove (lives w.nodes) (copies w.nodes) (records w.nodes) m.owner h i a (copy_of f) v g.owned g.kept seen says refusal));
            kept = kept_carried (put (copies w.nodes) i a None) (copies (at w.nodes i t)) (records w.nodes) (records (at w.nodes i t)) u h (copies_removed w.nodes i t a refl) (records_same w.nodes i t refl) (kept_history (put (copies w.nodes) i a None) (records w.nodes) owner (record h { copy = set h.copy a f.state.actor }) h.copy (returned Nowhere f.state.actor));
            streams = streams_owner n m h.copy owner g.streams;
            sent = sent_later m u h h w.frames (lengthens_owner m owner) (outlasts_copies h h.copy) g.sent;
          };
        }

    goes_resumed : Goes n w m i (resumed (w.nodes i) a f false)
    goes_resumed =
        let l : LiveState = restore f.state f.attempt (w.nodes i).now in
        let t : NodeState = with_live (without_frozen (w.nodes i) a) a l in
        let x : Actor = rewound f.state.actor in
        let owner : Owners = with_owner m.owner a (At i) in
        let u : Meaning = record m { owner = owner } in
        let k : History = record h { copy = set h.copy a x } in
        let lived : ℕ → ActorId → Option Living = put (lives w.nodes) i a (Some (record { actor = x; attempt = f.attempt })) in
        record {
          meaning = u;
          history = k;
          means_it = ap (λ (b : Bool). with_owners n m (Resumed a f.attempt) (where_so b owner)) (is_going_true i f.target f.attempt (m.owner a) goes_away);
          agrees = record {
            numbered = numbered_kept w.nodes i t n m u h k refl refl (unheard_beside n m h k a (At i) somewhere (λ b apart. refl) (set_other h.copy a x)) g.numbered;
            owned = owned_carried lived (lives (at w.nodes i t)) u k (lives_inserted w.nodes i t a l refl) (subst (λ (o : Owners). Owned lived o k) (owner_set m.owner a (At i)) (returning.owned_resume (lives w.nodes) (copies w.nodes) (records w.nodes) m.owner h i a (copy_of f) v g.owned g.kept seen says refusal x));
            kept = kept_carried (put (copies w.nodes) i a None) (copies (at w.nodes i t)) (records w.nodes) (records (at w.nodes i t)) u k (copies_removed w.nodes i t a refl) (records_same w.nodes i t refl) (returned (At i) x);
            streams = streams_owner n m (set h.copy a x) owner (streams_restore n m h.copy a f.state.actor g.streams (returning.copy_stays (lives w.nodes) (copies w.nodes) (records w.nodes) m.owner h i a (copy_of f) v g.owned g.kept seen says refusal));
            sent = sent_later m u h k w.frames (lengthens_owner m owner) (outlasts_copies h (set h.copy a x)) g.sent;
          };
        }

    goes_returned : (gone : Bool) → Goes n w m i (resumed (w.nodes i) a f gone)
    goes_returned true = goes_removed
    goes_returned false = goes_resumed

  -- 2. The row

  verdict_on : (f : Frozen) → map.get (w.nodes i).moves.frozen a ≡ Some f → (v : Verdict) → (h.moves a f.attempt).verdict ≡ Some v → Goes n w m i (verdict_by (w.nodes i) a f (is_accepted v))
  verdict_on f is verdict.Accepted says = goes_rewound n w m h i g (λ s. raise s a f.attempt f.target) (rewinds_raise n m i a f.attempt f.target) true
  verdict_on f is verdict.Unfit says = goes_returned f is verdict.Unfit says (λ q. cc) (is_gone (w.nodes i) a.app)
  verdict_on f is verdict.Full says = goes_returned f is verdict.Full says (λ q. cc) (is_gone (w.nodes i) a.app)
  verdict_on f is verdict.Gone says = goes_returned f is verdict.Gone says (λ q. cc) (is_gone (w.nodes i) a.app)
  verdict_on f is verdict.Cancelled says = goes_returned f is verdict.Cancelled says (λ q. cc) (is_gone (w.nodes i) a.app)

  verdict_exact : (e : ℕ) (v : Verdict) (f : Frozen) → map.get (w.nodes i).moves.frozen a ≡ Some f → (h.moves a e).verdict ≡ Some v → (same : Bool) → (f.attempt == e) ≡ same → Goes n w m i (verdict_for (w.nodes i) a v f same)
  verdict_exact e v f is says false other = goes_nothing n w m h i g
  verdict_exact e v f is says true same = verdict_on f is v (ap (λ (d : ℕ). (h.moves a d).verdict) (number_same f.attempt e same) ∙ says)

  verdict_with : (e sender : ℕ) (v : Verdict) → IsVerdict h a e sender v → (x : Option Frozen) → map.get (w.nodes i).moves.frozen a ≡ x → Goes n w m i (verdict_comes (w.nodes i) a e v x)
  verdict_with e sender v says None is = goes_nothing n w m h i g
  verdict_with e sender v says (Some f) is = verdict_exact e v f is says.verdict (f.attempt == e) refl

  pub goes_verdict : (e sender : ℕ) (v : Verdict) → IsVerdict h a e sender v → Goes n w m i (verdict_comes (w.nodes i) a e v (map.get (w.nodes i).moves.frozen a))
  goes_verdict e sender v says = verdict_with e sender v says (map.get (w.nodes i).moves.frozen a) refl
