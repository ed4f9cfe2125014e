-- A raised hint: live producers are rewound, and a frozen copy goes. It changes copies alone, in what was not acknowledged.
use Rattle.std.proofs.Common.{◌≡◌, inl, inr, ℕ, Bool, true, false, List, [], ◌∷◌, Option, Some, None, refl, sym, ap, subst, ◌∙◌}
use Rattle.std.specs.Prelude.{nat_lt, nat_le, option_map}
use Rattle.std.proofs.lemmas.Bool.{ltb-true}
use Rattle.std.specs.FinMap as map
use Rattle.cv_token.specs.declared.identifiers.ActorId.{ActorId}
use Rattle.cv_table.proofs.Views.{get_changed}
use Rattle.cv_protocol.specs.declared.frame.Frame.{Frame}
use Rattle.cv_protocol.specs.declared.moving.Frozen.{Frozen}
use Rattle.cv_protocol.specs.declared.state.Hint.{Hint}
use Rattle.cv_protocol.specs.Actors.{Actor, LiveState}
use Rattle.cv_protocol.specs.NodeState.{NodeState, judged_attempt, rewound_towards, is_later, with_hint, noted, released_if, release_of, with_release, raise}
use Rattle.cv_protocol.specs.Deliveries.{all_raised}
use Rattle.cv_protocol.specs.Owners.{is_at, Nowhere}
use Rattle.cv_handover.specs.World.{at}
use Rattle.cv_handover.specs.Meaning.{Nets, Meaning}
use Rattle.cv_handover.specs.Agree.{living, lives, copies, records, History, Owned, Kept, Streams, Sent, IsUnheard, Numbered, Agree}
use Rattle.cv_handover.proofs.Places.{put, where_so_cases, every}
use Rattle.cv_handover.proofs.Goes.{lives_same, copies_same, copies_removed, records_inserted, records_same, numbered_kept, owned_carried, kept_carried, at_twice, at_here}
use Rattle.cv_handover.proofs.Growing.{lengthens_itself, outlasts_copies, sent_later}
use Rattle.cv_handover.proofs.Copies.{turned, streams_rewound}
use Rattle.cv_handover.proofs.Many.{changed, with_changed, owned_changed, kept_history}
use Rattle.cv_handover.proofs.Returning.{kept_unfrozen, kept_noted}
use Rattle.cv_handover.proofs.Living.{at_same}
use Rattle.cv_handover.proofs.Wholes.{seen_every}

-- 1. All but the frames

pub record Stands (n : Nets) (nodes : ℕ → NodeState) (m : Meaning) (h : History) : Type 0 where
  pub numbered : Numbered n nodes m h
  pub owned : Owned (lives nodes) m.owner h
  pub kept : Kept (copies nodes) (records nodes) m.owner h
  pub streams : Streams n m h.copy

pub stands_of : (n : Nets) (nodes : ℕ → NodeState) (frames : List Frame) (m : Meaning) (h : History) → Agree n nodes frames m h → Stands n nodes m h
stands_of n nodes frames m h g = record { numbered = g.numbered; owned = g.owned; kept = g.kept; streams = g.streams }

pub agree_of : (n : Nets) (nodes : ℕ → NodeState) (frames : List Frame) (m : Meaning) (h : History) → Stands n nodes m h → Sent m h frames → Agree n nodes frames m h
agree_of n nodes frames m h s sent = record { numbered = s.numbered; owned = s.owned; kept = s.kept; streams = s.streams; sent = sent }

-- 2. A change of node i that only rewinds copies

pub record Rewound (n : Nets) (nodes : ℕ → NodeState) (m : Meaning) (h : History) : Type 0 where
  pub copy : ActorId → Actor
  pub stands : Stands n nodes m (record h { copy = copy })

abbrev pub Rewinds : Nets → Meaning → ℕ → (NodeState → NodeState) → Type 0
Rewinds n m i f = (nodes : ℕ → NodeState) (h : History) → Stands n nodes m h → Rewound n (at nodes i (f (nodes i))) m h

pub rewinds_none : (n : Nets) (m : Meaning) (i : ℕ) → Rewinds n m i (λ s. s)
rewinds_none n m i nodes h s = record { copy = h.copy; stands = subst (λ (f : ℕ → NodeState). Stands n f m h) (sym (at_same nodes i)) s }

pub rewinds_both : (n : Nets) (m : Meaning) (i : ℕ) (f g : NodeState → NodeState) → Rewinds n m i f → Rewinds n m i g → Rewinds n m i (λ s. g (f s))
rewinds_both n m i f g p q nodes h s =
    let x = p nodes h s in
    let mid : ℕ → NodeState = at nodes i (f (nodes i)) in
    let y = q mid (record h { copy = x.copy }) x.stands in
    let e : at mid i (g (mid i)) ≡ at nodes i (g (f (nodes i))) = ap (λ (u : NodeState). at mid i (g u)) (at_here nodes i (f (nodes i))) ∙ at_twice nodes i (f (nodes i)) (g (f (nodes i))) in
    record { copy = y.copy; stands = subst (λ (k : ℕ → NodeState). Stands n k m (record h { copy = y.copy })) e y.stands }

-- the facts on all frames stay
pub record Agreed (n : Nets) (nodes : ℕ → NodeState) (frames : List Frame) (m : Meaning) (h : History) : Type 0 where
  pub copy : ActorId → Actor
  pub agrees : Agree n nodes frames m (record h { copy = copy })

pub rewinds_agree : (n : Nets) (m : Meaning) (i : ℕ) (f : NodeState → NodeState) → Rewinds n m i f → (nodes : ℕ → NodeState) (frames : List Frame) (h : History) → Agree n nodes frames m h → Agreed n (at nodes i (f (nodes i))) frames m h
rewinds_agree n m i f p nodes frames h g =
    let x = p nodes h (stands_of n nodes frames m h g) in
    record {
      copy = x.copy;
      agrees = agree_of n (at nodes i (f (nodes i))) frames m (record h { copy = x.copy }) x.stands (sent_later m m h (record h { copy = x.copy }) frames (lengthens_itself m) (outlasts_copies h x.copy) g.sent);
    }

-- the same where the node changed before
pub rewinds_chained : (n : Nets) (m : Meaning) (i : ℕ) (f : NodeState → NodeState) → Rewinds n m i f → (nodes : ℕ → NodeState) (t : NodeState) (frames : List Frame) (h : History) → Agree n (at nodes i t) frames m h → Agreed n (at nodes i (f t)) frames m h
rewinds_chained n m i f p nodes t frames h g =
    let x = rewinds_agree n m i f p (at nodes i t) frames h g in
    let e : at (at nodes i t) i (f (at nodes i t i)) ≡ at nodes i (f t) = ap (λ (u : NodeState). at (at nodes i t) i (f u)) (at_here nodes i t) ∙ at_twice nodes i t (f t) in
    record { copy = x.copy; agrees = subst (λ (k : ℕ → NodeState). Agree n k frames m (record h { copy = x.copy })) e x.agrees }

-- 3. The hint itself

changed_living : (a : ActorId) (l : Option LiveState) → option_map living (option_map (rewound_towards a) l) ≡ changed (turned a) (option_map living l)
changed_living a None = refl
changed_living a (Some l) = refl

nobody_at : (i : ℕ) → is_at i Nowhere ≡ true → ⊥
nobody_at i e = cc

module _ (n : Nets) (m : Meaning) (i : ℕ) (a : ActorId) (e k : ℕ) where
  still_unheard : (h : History) (b : ActorId) → IsUnheard n m h b → IsUnheard n m (with_changed m.owner h i (turned a)) b
  still_unheard h b u = record {
    owner = u.owner;
    attempt = u.attempt;
    copy =
        elim (where_so_cases h.copy (λ c. is_at i (m.owner c)) (λ c. turned a (h.copy c)) b) [
          | inl t ↦ absurd (nobody_at i (sym (ap (is_at i) u.owner) ∙ t.0))
          | inr t ↦ t.1 ∙ u.copy
        ];
  }

  hint_stands : (nodes : ℕ → NodeState) (h : History) (later : Bool) → Stands n nodes m h → Rewound n (at nodes i (with_hint (nodes i) a e k later)) m h
  hint_stands nodes h false s = rewinds_none n m i nodes h s
  hint_stands nodes h true s =
      let t : NodeState = with_hint (nodes i) a e k true in
      let g : History = with_changed m.owner h i (turned a) in
      record {
        copy = g.copy;
        stands = record {
          numbered = numbered_kept nodes i t n m m h g refl refl (still_unheard h) s.numbered;
          owned = owned_carried (every (lives nodes) i (changed (turned a))) (lives (at nodes i t)) m g (seen_every (λ u b. option_map living (map.get u.live b)) nodes i t (changed (turned a)) (λ b. ap (option_map living) (get_changed (nodes i).live (rewound_towards a) b) ∙ changed_living a (map.get (nodes i).live b))) (owned_changed (lives nodes) m.owner h i (turned a) s.owned);
          kept = kept_carried (copies nodes) (copies (at nodes i t)) (records nodes) (records (at nodes i t)) m g (copies_same nodes i t refl) (records_same nodes i t refl) (kept_history (copies nodes) (records nodes) m.owner h g.copy s.kept);
          streams = streams_rewound n m m.owner h i a s.streams;
        };
      }

  pub rewinds_hint : Rewinds n m i (λ s. with_hint s a e k (is_later e (map.get s.hints a)))
  rewinds_hint nodes h s = hint_stands nodes h (is_later e (map.get (nodes i).hints a)) s

-- 4. The release of a frozen copy

module _ (n : Nets) (m : Meaning) (i : ℕ) (a : ActorId) (upto : ℕ) where
  noted_stands : (nodes : ℕ → NodeState) (h : History) (attempt : ℕ) (above : Bool) → nat_lt (judged_attempt (map.get (nodes i).moves.judged a)) attempt ≡ above → Stands n nodes m h → Stands n (at nodes i (record (nodes i) { moves = record { frozen = map.remove (nodes i).moves.frozen a; judged = noted (nodes i).moves.judged a attempt above } })) m h
  noted_stands nodes h attempt false is s =
      let t : NodeState = record (nodes i) { moves = record { frozen = map.remove (nodes i).moves.frozen a; judged = (nodes i).moves.judged } } in
      record {
        numbered = numbered_kept nodes i t n m m h h refl refl (λ b u. u) s.numbered;
        owned = owned_carried (lives nodes) (lives (at nodes i t)) m h (lives_same nodes i t refl) s.owned;
        kept = kept_carried (put (copies nodes) i a None) (copies (at nodes i t)) (records nodes) (records (at nodes i t)) m h (copies_removed nodes i t a refl) (records_same nodes i t refl) (kept_unfrozen (copies nodes) (records nodes) m.owner h i a s.kept);
        streams = s.streams;
      }
  noted_stands nodes h attempt true is s =
      let t : NodeState = record (nodes i) { moves = record { frozen = map.remove (nodes i).moves.frozen a; judged = noted (nodes i).moves.judged a attempt true } } in
      record {
        numbered = numbered_kept nodes i t n m m h h refl refl (λ b u. u) s.numbered;
        owned = owned_carried (lives nodes) (lives (at nodes i t)) m h (lives_same nodes i t refl) s.owned;
        kept = kept_carried (put (copies nodes) i a None) (copies (at nodes i t)) (put (records nodes) i a (Some (record { attempt = attempt; verdict = None }))) (records (at nodes i t)) m h (copies_removed nodes i t a refl) (records_inserted nodes i t a (record { attempt = attempt; verdict = None }) refl) (kept_noted (put (copies nodes) i a None) (records nodes) m.owner h i a attempt (ltb-true _ _ is) (kept_unfrozen (copies nodes) (records nodes) m.owner h i a s.kept));
        streams = s.streams;
      }

  same_node : (nodes : ℕ → NodeState) (h : History) → Stands n nodes m h → Stands n (at nodes i (nodes i)) m h
  same_node nodes h s = subst (λ (f : ℕ → NodeState). Stands n f m h) (sym (at_same nodes i)) s

  released_stands : (nodes : ℕ → NodeState) (h : History) (attempt : ℕ) (goes : Bool) → Stands n nodes m h → Stands n (at nodes i (record (nodes i) { moves = released_if (nodes i).moves a attempt goes })) m h
  released_stands nodes h attempt false s = same_node nodes h s
  released_stands nodes h attempt true s =
      noted_stands nodes h attempt (nat_lt (judged_attempt (map.get (nodes i).moves.judged a)) attempt) refl s

  release_stands : (nodes : ℕ → NodeState) (h : History) (f : Option Frozen) → Stands n nodes m h → Stands n (at nodes i (record (nodes i) { moves = release_of (nodes i).moves a upto f })) m h
  release_stands nodes h None s = same_node nodes h s
  release_stands nodes h (Some f) s = released_stands nodes h f.attempt (nat_le f.attempt upto) s

  pub rewinds_release : Rewinds n m i (λ s. with_release s a upto)
  rewinds_release nodes h s =
      record { copy = h.copy; stands = release_stands nodes h (map.get (nodes i).moves.frozen a) s }

-- 5. Hints that are raised

pub rewinds_raise : (n : Nets) (m : Meaning) (i : ℕ) (a : ActorId) (e k : ℕ) → Rewinds n m i (λ s. raise s a e k)
rewinds_raise n m i a e k = rewinds_both n m i (λ s. with_hint s a e k (is_later e (map.get s.hints a))) (λ s. with_release s a e) (rewinds_hint n m i a e k) (rewinds_release n m i a e)

pub rewinds_all_raised : (n : Nets) (m : Meaning) (i : ℕ) (hints : List Hint) → Rewinds n m i (all_raised hints)
rewinds_all_raised n m i [] = rewinds_none n m i
rewinds_all_raised n m i (h ∷ hs) = rewinds_both n m i (λ s. raise s h.actor h.attempt h.node) (all_raised hs) (rewinds_raise n m i h.actor h.attempt h.node) (rewinds_all_raised n m i hs)
