-- The row Freeze: a live actor leaves for another node by a new attempt.
use Rattle.std.proofs.Common.{◌≡◌, inl, inr, ℕ, ◌+◌, Bool, true, false, [], ◌∷◌, Option, Some, None, refl, sym, ap, subst, ◌∙◌, arith}
use Rattle.std.specs.Prelude.{nat_lt}
use Rattle.std.proofs.lemmas.Grind.{common_steps}
use Rattle.std.specs.FinMap as map
use Rattle.cv_token.specs.declared.identifiers.ActorId.{ActorId}
use Rattle.cv_protocol.specs.declared.frame.Body.TheVariants as body
use Rattle.cv_protocol.specs.declared.frame.Frame.{Frame}
use Rattle.cv_protocol.specs.Actors.{Actor, LiveState}
use Rattle.cv_protocol.specs.Poll.{limit}
use Rattle.cv_protocol.specs.Travel.{settled}
use Rattle.cv_protocol.specs.NodeState.{NodeState, is_other_known}
use Rattle.cv_protocol.specs.Rows.{Froze, frame_to, captured, frozen_state, freeze, freeze_to}
use Rattle.cv_protocol.specs.Owners.{Owners, Between, with_owner, where_so}
use Rattle.cv_handover.specs.World.{World, at}
use Rattle.cv_handover.specs.Meaning.{Nets, Meaning, with_owners}
use Rattle.cv_handover.specs.Agree.{Agree, Copy, History, IsTransfer, Kept, Living, Move, Owned, WasTried, copies, lives, records}
use Rattle.cv_handover.proofs.Places.{set, set_cases, put, note, note_cases}
use Rattle.cv_handover.proofs.Goes.{Goes, GoesIfFew, lives_removed, copies_inserted, records_same, numbered_kept, owned_carried, kept_carried}
use Rattle.cv_handover.proofs.Growing.{Lengthens, Outlasts, sent_later, sent_one}
use Rattle.cv_handover.proofs.Copies.{streams_owner, streams_capture}
use Rattle.cv_handover.proofs.Freezing.{new_move, with_move, owned_freeze, kept_freeze}
use Rattle.cv_handover.proofs.Standing.{is_at_true, nowhere_not_at, set_other, owner_set, unheard_beside}
use Rattle.cv_handover.proofs.Living.{is_here}

-- who owns what is in no frame
pub lengthens_owner : (m : Meaning) (owner : Owners) → Lengthens m (record m { owner = owner })
lengthens_owner m owner = record { wrote = λ c i t h. h; got = λ c. omega arith }

-- a new attempt is none of those that were tried
module _ (h : History) (a : ActorId) (i j : ℕ) (x : Actor) where
  not_new : (b : ActorId) (d : ℕ) → WasTried h b d → note h.moves a (h.attempt a + 1) (new_move i j x) b d ≡ h.moves b d
  not_new b d tried =
      elim (note_cases h.moves a (h.attempt a + 1) (new_move i j x) b d) [
        | inl s ↦ absurd (grind (arith, common_steps, s, tried))
        | inr s ↦ s.1
      ]

  pub outlasts_move : Outlasts h (with_move h a i j x)
  outlasts_move = record {
    tried = λ b d tried. grind (arith, common_steps, set_cases h.attempt a (h.attempt a + 1) b, tried);
    source = λ b d tried. ap (λ (w : Move). w.source) (not_new b d tried);
    target = λ b d tried. ap (λ (w : Move). w.target) (not_new b d tried);
    state = λ b d tried. ap (λ (w : Move). w.state) (not_new b d tried);
    verdict = λ b d v tried is. ap (λ (w : Move). w.verdict) (not_new b d tried) ∙ is;
  }

  -- it leads where it says
  pub newly_tried : (k d : ℕ) → k ≡ i → d ≡ h.attempt a + 1 → IsTransfer (with_move h a i j x) a d k j x
  newly_tried k d from is =
      let c = note_cases h.moves a (h.attempt a + 1) (new_move i j x) a d in
      record {
        tried = grind (arith, common_steps, set_cases h.attempt a (h.attempt a + 1) a, is);
        source = grind (arith, common_steps, c, from, is);
        target = grind (arith, common_steps, c, is);
        state = grind (arith, common_steps, c, is);
      }

module _ (n : Nets) (w : World) (m : Meaning) (h : History) (i : ℕ) (g : Agree n w.nodes w.frames m h) (stamp : ℕ) (a : ActorId) (to : ℕ) where
  frozen_here : (l : LiveState) (fit : Bool) → map.get (w.nodes i).live a ≡ Some l → Goes n w m i (record {
    next = frozen_state (w.nodes i) a l to;
    sends = frame_to (w.nodes i) stamp to (body.Transfer a (l.attempt + 1) (captured (w.nodes i) a l)) ∷ [];
    deed = Froze a to (l.attempt + 1);
    fits = fit;
  })
  frozen_here l fit is =
      let q = is_here n w.nodes w.frames m h i a l g is in
      let t : NodeState = frozen_state (w.nodes i) a l to in
      let x : Actor = settled l.actor in
      let owner : Owners = with_owner m.owner a (Between i to (l.attempt + 1)) in
      let v : Meaning = record m { owner = owner } in
      let k : History = with_move h a i to x in
      let next : l.attempt + 1 ≡ h.attempt a + 1 = ap (λ (d : ℕ). d + 1) q.attempt in
      let owners : set m.owner a (Between i to (h.attempt a + 1)) ≡ owner = owner_set m.owner a (Between i to (h.attempt a + 1)) ∙ ap (λ (d : ℕ). with_owner m.owner a (Between i to d)) (sym next) in
      let live : ℕ → ActorId → Option Living = put (lives w.nodes) i a None in
      let frozen : ℕ → ℕ → ActorId → Option Copy = λ e. put (copies w.nodes) i a (Some (record { actor = x; attempt = e; target = to })) in
      let copied : copies (at w.nodes i t) ≡ frozen (h.attempt a + 1) = copies_inserted w.nodes i t a (record { state = captured (w.nodes i) a l; attempt = l.attempt + 1; target = to }) refl ∙ ap frozen next in
      let frame : Frame = frame_to (w.nodes i) stamp to (body.Transfer a (l.attempt + 1) (captured (w.nodes i) a l)) in
      let o = owned_freeze (lives w.nodes) (copies w.nodes) (records w.nodes) m.owner h a i to x q.owner g.owned g.kept in
      let p = kept_freeze (lives w.nodes) (copies w.nodes) (records w.nodes) m.owner h a i to x q.owner g.owned g.kept in
      record {
        meaning = v;
        history = k;
        means_it = ap (λ (b : Bool). with_owners n m (Froze a to (l.attempt + 1)) (where_so b owner)) (is_at_true i (m.owner a) q.owner);
        agrees = record {
          numbered = numbered_kept w.nodes i t n m v h k refl refl (unheard_beside n m h k a (Between i to (l.attempt + 1)) (λ e. nowhere_not_at i (sym e ∙ q.owner)) (set_other h.attempt a (h.attempt a + 1)) (set_other h.copy a x)) g.numbered;
          owned = owned_carried live (lives (at w.nodes i t)) v k (lives_removed w.nodes i t a refl) (subst (λ (y : Owners). Owned live y k) owners o);
          kept = kept_carried (frozen (h.attempt a + 1)) (copies (at w.nodes i t)) (records w.nodes) (records (at w.nodes i t)) v k copied (records_same w.nodes i t refl) (subst (λ (y : Owners). Kept (frozen (h.attempt a + 1)) (records w.nodes) y k) owners p);
          streams = streams_owner n m (set h.copy a x) owner (streams_capture n m h.copy a l.actor g.streams q.actor);
          sent = sent_one v k frame w.frames (newly_tried h a i to x (w.nodes i).spec.no (l.attempt + 1) (g.numbered.number i) next) (sent_later m v h k w.frames (lengthens_owner m owner) (outlasts_move h a i to x) g.sent);
        };
      }

  froze_to : (l : LiveState) → map.get (w.nodes i).live a ≡ Some l → (b : Bool) → GoesIfFew n w m i (freeze_to (w.nodes i) stamp a l to b)
  froze_to l is false = tt
  froze_to l is true = λ fits. frozen_here l (nat_lt (l.attempt + 1) limit) is

  pub leads_freeze : (x : Option LiveState) → map.get (w.nodes i).live a ≡ x → GoesIfFew n w m i (freeze (w.nodes i) stamp a to x)
  leads_freeze None is = tt
  leads_freeze (Some l) is = froze_to l is (is_other_known (w.nodes i) to)
