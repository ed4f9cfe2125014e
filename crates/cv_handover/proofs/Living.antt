-- A live actor is the one copy, and a row that changes it alone goes.
use Rattle.std.proofs.Common.{◌≡◌, inl, inr, ℕ, Bool, true, false, ◌==◌, List, ◌++◌, Some, refl, sym, ap, subst, ◌∙◌, arith, if◌then◌else◌}
use Rattle.std.specs.Option.{option_map}
use Rattle.std.proofs.lemmas.Bool.{cases_eq}
use Rattle.std.proofs.lemmas.Bool.Decides.{nat_tests}
use Rattle.std.proofs.lemmas.Option.{same_Some}
use Rattle.std.specs.FinMap as map
use Rattle.cv_token.specs.declared.identifiers.ActorId.{ActorId}
use Rattle.cv_protocol.specs.declared.frame.Frame.{Frame}
use Rattle.cv_protocol.specs.Actors.{LiveState}
use Rattle.cv_protocol.specs.NodeState.{NodeState}
use Rattle.cv_protocol.specs.Owners.{Owners, Nowhere, At, is_at, where_so}
use Rattle.cv_protocol.specs.Rows.{Deed, Used, becomes, with_live}
use Rattle.cv_handover.specs.World.{World, at}
use Rattle.cv_handover.specs.Meaning.{Nets, Meaning, means, with_owners, streams_after}
use Rattle.cv_handover.specs.Agree.{Living, living, lives, copies, records, History, ActorAgrees, IsUnheard, Owned, Kept, Streams, Sent, Agree}
use Rattle.cv_handover.proofs.Copies.{streams_set}
use Rattle.cv_handover.proofs.Goes.{Goes, lives_inserted, copies_same, records_same, numbered_kept, owned_carried, kept_carried}
use Rattle.cv_handover.proofs.Growing.{lengthens_itself, outlasts_copies, sent_later}
use Rattle.cv_handover.proofs.Standing.{is_at_true}
use Rattle.cv_handover.proofs.Places.{set, set_cases, put}
use Rattle.cv_handover.proofs.Touch.{with_copy, owned_touch, kept_touch}

-- 1. A live actor

pub record IsHere (m : Meaning) (h : History) (i : ℕ) (a : ActorId) (l : LiveState) : Type 0 where
  pub owner : m.owner a ≡ At i
  pub actor : l.actor ≡ h.copy a
  pub attempt : l.attempt ≡ h.attempt a

pub is_here : (n : Nets) (nodes : ℕ → NodeState) (frames : List Frame) (m : Meaning) (h : History) (i : ℕ) (a : ActorId) (l : LiveState) → Agree n nodes frames m h → map.get (nodes i).live a ≡ Some l → IsHere m h i a l
is_here n nodes frames m h i a l g e =
    let there : lives nodes i a ≡ Some (living l) = ap (option_map living) e in
    let here = g.owned.live_only a i (living l) there in
    let same : living l ≡ record { actor = h.copy a; attempt = h.attempt a } = same_Some (living l) (record { actor = h.copy a; attempt = h.attempt a }) (sym there ∙ g.owned.live_at a i here) in
    record { owner = here; actor = ap (λ (x : Living). x.actor) same; attempt = ap (λ (x : Living). x.attempt) same }

-- the ports of a live actor agree
pub here_agrees : (n : Nets) (m : Meaning) (h : History) (i : ℕ) (a : ActorId) (l : LiveState) → IsHere m h i a l → Streams n m h.copy → ActorAgrees n m a l.actor
here_agrees n m h i a l q s = subst (ActorAgrees n m a) (sym q.actor) (s.actors a)

-- 2. Deeds of an actor that is here

pub means_here : (n : Nets) (m : Meaning) (i : ℕ) (a : ActorId) (d : Deed) → m.owner a ≡ At i → with_owners n m d (where_so (is_at i (m.owner a)) m.owner) ≡ streams_after n m d
means_here n m i a d e = ap (λ (b : Bool). with_owners n m d (where_so b m.owner)) (is_at_true i (m.owner a) e)

-- 3. One live actor changes

module _ (n : Nets) (nodes : ℕ → NodeState) (frames : List Frame) (m : Meaning) (h : History) (i : ℕ) (a : ActorId) (l : LiveState) (g : Agree n nodes frames m h) (stands : map.get (nodes i).live a ≡ Some l) (now : LiveState) (attempt : now.attempt ≡ l.attempt) (v : Meaning) (owners : v.owner ≡ m.owner) where
  here : IsHere m h i a l
  here = is_here n nodes frames m h i a l g stands

  unheard_touched : (b : ActorId) → IsUnheard n m h b → IsUnheard n v (with_copy h a now.actor) b
  unheard_touched b q = record {
    owner = ap (λ (o : Owners). o b) owners ∙ q.owner;
    attempt = q.attempt;
    copy =
        elim (set_cases h.copy a now.actor b) [
          | inl s ↦ let bad : At i ≡ Nowhere = sym here.owner ∙ ap m.owner (sym s.0) ∙ q.owner in absurd (cc)
          | inr s ↦ s.1 ∙ q.copy
        ];
  }

  owned_touched : Owned (lives (at nodes i (with_live (nodes i) a now))) v.owner (with_copy h a now.actor)
  owned_touched =
      let k : living now ≡ record { actor = now.actor; attempt = h.attempt a } = ap (λ (e : ℕ). record { actor = now.actor; attempt = e }) (attempt ∙ here.attempt) in
      let t : lives (at nodes i (with_live (nodes i) a now)) ≡ put (lives nodes) i a (Some (record { actor = now.actor; attempt = h.attempt a })) = lives_inserted nodes i (with_live (nodes i) a now) a now refl ∙ ap (λ (x : Living). put (lives nodes) i a (Some x)) k in
      let o = owned_touch (lives nodes) m.owner h a i now.actor here.owner g.owned in
      subst (λ (owner : Owners). Owned (lives (at nodes i (with_live (nodes i) a now))) owner (with_copy h a now.actor)) (sym owners) (owned_carried (put (lives nodes) i a (Some (record { actor = now.actor; attempt = h.attempt a }))) (lives (at nodes i (with_live (nodes i) a now))) m (with_copy h a now.actor) t o)

  pub agree_touched : Streams n v (set h.copy a now.actor) → (sent : List Frame) → Sent v h sent → Agree n (at nodes i (with_live (nodes i) a now)) sent v (with_copy h a now.actor)
  agree_touched streams sent says = record {
    numbered = numbered_kept nodes i (with_live (nodes i) a now) n m v h (with_copy h a now.actor) refl refl unheard_touched g.numbered;
    owned = owned_touched;
    kept =
        let q = kept_touch (copies nodes) (records nodes) m.owner h a now.actor g.kept in
        let c = kept_carried (copies nodes) (copies (at nodes i (with_live (nodes i) a now))) (records nodes) (records (at nodes i (with_live (nodes i) a now))) m (with_copy h a now.actor) (copies_same nodes i (with_live (nodes i) a now) refl) (records_same nodes i (with_live (nodes i) a now) refl) q in
        subst (λ (owner : Owners). Kept (copies (at nodes i (with_live (nodes i) a now))) (records (at nodes i (with_live (nodes i) a now))) owner (with_copy h a now.actor)) (sym owners) c;
    streams = streams;
    sent = sent_later v v h (with_copy h a now.actor) sent (lengthens_itself v) (outlasts_copies h (set h.copy a now.actor)) says;
  }

-- 4. A row that changes one live actor

module _ (n : Nets) (w : World) (m : Meaning) (h : History) (i : ℕ) (g : Agree n w.nodes w.frames m h) (a : ActorId) (l : LiveState) (stands : map.get (w.nodes i).live a ≡ Some l) where
  pub goes_live : (now : LiveState) → now.attempt ≡ l.attempt → (v : Meaning) → v.owner ≡ m.owner → (deed : Deed) → means n m i deed ≡ Some v → (sends : List Frame) (fits : Bool) → Streams n v (set h.copy a now.actor) → Sent v h (sends ++ w.frames) → Goes n w m i (record { next = with_live (w.nodes i) a now; sends = sends; deed = deed; fits = fits })
  goes_live now attempt v owners deed means_it sends fits streams says = record {
    meaning = v;
    history = with_copy h a now.actor;
    means_it = means_it;
    agrees = agree_touched n w.nodes w.frames m h i a l g stands now attempt v owners streams (sends ++ w.frames) says;
  }

  -- the actor was used, and the meaning is the same
  pub goes_used : (now : LiveState) → now.attempt ≡ l.attempt → ActorAgrees n m a now.actor → (sends : List Frame) (fits : Bool) → Sent m h (sends ++ w.frames) → Goes n w m i (record { next = with_live (w.nodes i) a now; sends = sends; deed = Used a; fits = fits })
  goes_used now attempt agrees sends fits says =
      goes_live now attempt m refl (Used a) (means_here n m i a (Used a) (is_here n w.nodes w.frames m h i a l g stands).owner) sends fits (streams_set n m h.copy a now.actor g.streams agrees) says

-- 5. A row that changes nothing

same_state : (nodes : ℕ → NodeState) (i k : ℕ) → at nodes i (nodes i) k ≡ nodes k
unfolding at
same_state nodes i k =
    elim (cases_eq k i) [
      | inl is ↦ let t : (k == i) ≡ true = grind (arith, nat_tests, is) in ap (λ (b : Bool). if b then nodes i else nodes k) t ∙ ap nodes (sym is)
      | inr is ↦ let t : (k == i) ≡ false = grind (arith, nat_tests, is) in ap (λ (b : Bool). if b then nodes i else nodes k) t
    ]

pub at_same : (nodes : ℕ → NodeState) (i : ℕ) → at nodes i (nodes i) ≡ nodes
at_same nodes i = λ z k. same_state nodes i k z

-- at most frames are sent
pub goes_still : (n : Nets) (w : World) (m : Meaning) (h : History) (i : ℕ) → Agree n w.nodes w.frames m h → (sends : List Frame) → Sent m h (sends ++ w.frames) → Goes n w m i (record (becomes (w.nodes i)) { sends = sends })
goes_still n w m h i g sends says = record {
  meaning = m;
  history = h;
  means_it = refl;
  agrees = subst (λ (nodes : ℕ → NodeState). Agree n nodes (sends ++ w.frames) m h) (sym (at_same w.nodes i)) (record { numbered = g.numbered; owned = g.owned; kept = g.kept; streams = g.streams; sent = says });
}
