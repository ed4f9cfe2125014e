-- A node that opens with actors in their places: who lives there.
use Rattle.std.proofs.Common.{◌≡◌, ◌⊎◌, inl, inr, ℕ, zero, suc, ◌+◌, ◌<◌, ◌==◌, Bool, true, false, cond, if◌then◌else◌, List, [], ◌∷◌, slice_get, Some, None, refl, ap, sym, ◌∙◌, subst, arith}
use Rattle.std.proofs.lemmas.Bool.Decides.{eqb_tells}
use Rattle.std.specs.FinMap as map
use Rattle.cv_token.specs.declared.identifiers.AppId.{AppId}
use Rattle.cv_token.specs.declared.identifiers.ActorId.{ActorId}
use Rattle.cv_table.specs.Order.{actor_cmp}
use Rattle.cv_table.proofs.Views.{get_inserted, same_actor-cases}
use Rattle.cv_kinds.specs.declared.network.ActorSpec.{ActorSpec}
use Rattle.cv_kinds.specs.declared.network.Connection.{Connection}
use Rattle.cv_kinds.specs.Net.{Net}
use Rattle.cv_rules.specs.declared.attrs.NodeSpec.{NodeSpec}
use Rattle.cv_protocol.specs.Actors.{LiveState}
use Rattle.cv_protocol.specs.Travel.{new_live}
use Rattle.cv_state.specs.Opening.{IsOpened, OpensInPlaces, all_placed, opened, own_count, settled_if}

module _ (m : map.FinMap actor_cmp LiveState) (a : ActorId) (l : LiveState) where
  put_there : map.get (map.insert m a l) a ≡ Some l
  put_there =
      elim (same_actor-cases a a) [
        | inl s ↦ get_inserted m a l a ∙ ap (λ (t : Bool). cond t (Some l) (map.get m a)) s.0
        | inr s ↦ absurd (s.1 refl)
      ]

  -- who is found is the one put there, or was there before
  pub put_or_kept : (b : ActorId) (x : LiveState) → map.get (map.insert m a l) b ≡ Some x → (b ≡ a) ⊎ (map.get m b ≡ Some x)
  put_or_kept b x is =
      elim (same_actor-cases b a) [
        | inl s ↦ inl s.1
        | inr s ↦ inr (sym (get_inserted m a l b ∙ ap (λ (t : Bool). cond t (Some l) (map.get m b)) s.0) ∙ is)
      ]

  put_beside : (b : ActorId) → ((b ≡ a) → ⊥) → map.get (map.insert m a l) b ≡ map.get m b
  put_beside b apart =
      elim (same_actor-cases b a) [
        | inl s ↦ absurd (apart s.1)
        | inr s ↦ get_inserted m a l b ∙ ap (λ (t : Bool). cond t (Some l) (map.get m b)) s.0
      ]

module _ (app : AppId) (connections : List Connection) (home : ℕ) where
  abbrev numbered : ℕ → ActorId
  numbered k = record { app = app; actor = k }

  abbrev settled_at : ℕ → map.FinMap actor_cmp LiveState → ℕ → ActorSpec → map.FinMap actor_cmp LiveState
  settled_at node live k spec = settled_if (node == home) live (new_live app connections k spec 0)

  beside_if : (b : Bool) (live : map.FinMap actor_cmp LiveState) (k : ℕ) (spec : ActorSpec) (a : ActorId) → ((a ≡ numbered k) → ⊥) → map.get (settled_if b live (new_live app connections k spec 0)) a ≡ map.get live a
  beside_if false live k spec a apart = refl
  beside_if true live k spec a apart = put_beside live (numbered k) (new_live app connections k spec 0) a apart

  -- the actors before the first of these are left as they were
  before : (specs : List ActorSpec) (at : List ℕ) (first k : ℕ) (live : map.FinMap actor_cmp LiveState) → k < first → map.get (all_placed app connections home first specs at live) (numbered k) ≡ map.get live (numbered k)
  before [] at first k live low = refl
  before (spec ∷ specs) [] first k live low = refl
  before (spec ∷ specs) (node ∷ at) first k live low =
      let number : numbered k ≡ numbered first → k ≡ first = ap (λ (x : ActorId). x.actor) in
      let apart : numbered k ≡ numbered first → ⊥ = λ e. let same = number e in omega (arith, same, low) in
      before specs at (suc first) k (settled_at node live first spec) (omega (arith, low))
      ∙ beside_if (node == home) live first spec (numbered k) apart

  here_if : (b : Bool) (live : map.FinMap actor_cmp LiveState) (k : ℕ) (spec : ActorSpec) → b ≡ true → map.get (settled_if b live (new_live app connections k spec 0)) (numbered k) ≡ Some (new_live app connections k spec 0)
  here_if true live k spec is = put_there live (numbered k) (new_live app connections k spec 0)
  here_if false live k spec is = absurd (cc)

  is_own : (node : ℕ) → node ≡ home → (node == home) ≡ true
  is_own node is =
      elim (eqb_tells node home) [ inl s ↦ s.0 | inr s ↦ absurd (s.1 is) ]

  placed_there : (specs : List ActorSpec) (at : List ℕ) (first place : ℕ) (spec : ActorSpec) (live : map.FinMap actor_cmp LiveState) → slice_get at place ≡ Some home → slice_get specs place ≡ Some spec → map.get (all_placed app connections home first specs at live) (numbered (first + place)) ≡ Some (new_live app connections (first + place) spec 0)
  placed_there [] at first place spec live node is = absurd (cc)
  placed_there (x ∷ specs) [] first place spec live node is = absurd (cc)
  placed_there (x ∷ specs) (n ∷ at) first zero spec live node is =
      let own : n ≡ home = cc in
      let same : x ≡ spec = cc in
      let number : first ≡ first + 0 = omega arith in
      let later = before specs at (suc first) first (settled_at n live first x) (omega arith) in
      let here = here_if (n == home) live first x (is_own n own) in
      subst (λ (k : ℕ). map.get (all_placed app connections home first (x ∷ specs) (n ∷ at) live) (numbered k) ≡ Some (new_live app connections k spec 0)) number (later ∙ here ∙ ap (λ (y : ActorSpec). Some (new_live app connections first y 0)) same)
  placed_there (x ∷ specs) (n ∷ at) first (suc place) spec live node is =
      let number : suc first + place ≡ first + suc place = omega arith in
      subst (λ (k : ℕ). map.get (all_placed app connections home first (x ∷ specs) (n ∷ at) live) (numbered k) ≡ Some (new_live app connections k spec 0)) number (placed_there specs at (suc first) place spec (settled_at n live first x) node is)

  placed_first : (specs : List ActorSpec) (at : List ℕ) (actor : ℕ) (spec : ActorSpec) → slice_get at actor ≡ Some home → slice_get specs actor ≡ Some spec → map.get (all_placed app connections home 0 specs at map.empty) (numbered actor) ≡ Some (new_live app connections actor spec 0)
  placed_first specs at actor spec node is =
      let number : 0 + actor ≡ actor = omega arith in
      subst (λ (k : ℕ). map.get (all_placed app connections home 0 specs at map.empty) (numbered k) ≡ Some (new_live app connections k spec 0)) number (placed_there specs at 0 actor spec map.empty node is)

  -- an actor whose place is this node, for those from number `first` on
  record IsPlacedHere (at : List ℕ) (first : ℕ) (a : ActorId) : Type 0 where
    pub place : ℕ
    pub number : a ≡ numbered (first + place)
    pub here : slice_get at place ≡ Some home

  later_place : (node : ℕ) (at : List ℕ) (first : ℕ) (a : ActorId) → IsPlacedHere at (suc first) a → IsPlacedHere (node ∷ at) first a
  later_place node at first a p =
      let number : suc first + p.place ≡ first + suc p.place = omega arith in
      record { place = suc p.place; number = p.number ∙ ap numbered number; here = p.here }

  first_place : (node : ℕ) (at : List ℕ) (first : ℕ) (a : ActorId) → node ≡ home → a ≡ numbered first → IsPlacedHere (node ∷ at) first a
  first_place node at first a own is =
      let number : first ≡ first + 0 = omega arith in
      record { place = 0; number = is ∙ ap numbered number; here = ap Some own }

  settled_here : (node : ℕ) (at : List ℕ) (first : ℕ) (a : ActorId) (live : map.FinMap actor_cmp LiveState) (spec : ActorSpec) (x : LiveState) → map.get (settled_at node live first spec) a ≡ Some x → (map.get live a ≡ Some x) ⊎ IsPlacedHere (node ∷ at) first a
  settled_here node at first a live spec x is =
      let l = new_live app connections first spec 0 in
      elim (eqb_tells node home) [
        | inl s ↦ elim (put_or_kept live (numbered first) l a x (sym (ap (λ b. map.get (settled_if b live l) a) s.0) ∙ is)) [
          | inl e ↦ inr (first_place node at first a s.1 e)
          | inr e ↦ inl e
        ]
        | inr s ↦ inl (sym (ap (λ b. map.get (settled_if b live l) a) s.0) ∙ is)
      ]

  -- who lives there lived there before, or has its place there
  placed_only : (specs : List ActorSpec) (at : List ℕ) (first : ℕ) (a : ActorId) (live : map.FinMap actor_cmp LiveState) (x : LiveState) → map.get (all_placed app connections home first specs at live) a ≡ Some x → (map.get live a ≡ Some x) ⊎ IsPlacedHere at first a
  placed_only [] at first a live x is = inl is
  placed_only (spec ∷ specs) [] first a live x is = inl is
  placed_only (spec ∷ specs) (node ∷ at) first a live x is =
      elim (placed_only specs at (suc first) a (settled_at node live first spec) x is) [
        | inl e ↦ settled_here node at first a live spec x e
        | inr p ↦ inr (later_place node at first a p)
      ]

  placed_alone : (specs : List ActorSpec) (at : List ℕ) (a : ActorId) (x : LiveState) → map.get (all_placed app connections home 0 specs at map.empty) a ≡ Some x → (a.app ≡ app) × (slice_get at a.actor ≡ Some home)
  placed_alone specs at a x is =
      elim (placed_only specs at 0 a map.empty x is) [
        | inl e ↦ let none : None ≡ Some x = sym (map.get-empty actor_cmp a) ∙ e in absurd (cc)
        | inr p ↦
            let first : 0 + p.place ≡ a.actor = ap (λ (b : ActorId). b.actor) (sym p.number) in
            let number : p.place ≡ a.actor = omega (arith, first) in
            (ap (λ (b : ActorId). b.app) p.number, subst (λ (k : ℕ). slice_get at k ≡ Some home) number p.here)
      ]

counted_once : (app : AppId) (home : ℕ) → app.node ≡ home → ◌≡◌ {A = ℕ} (own_count app home) 1
counted_once app home is =
    elim (eqb_tells app.node home) [
      | inl s ↦ ap (λ (b : Bool). if b then 1 else 0) s.0
      | inr s ↦ absurd (s.1 is)
    ]

pub opens : (spec : NodeSpec) (app : AppId) (net : Net) (at : List ℕ) → IsOpened (opened spec app net at) app net at
opens spec app net at = record {
  there = λ actor x node is. placed_first app net.connections spec.no net.actors at actor x node is;
  nobody_else = λ a l is. placed_alone app net.connections spec.no net.actors at a l is;
  none_frozen = λ a. map.get-empty actor_cmp a;
  none_judged = λ a. map.get-empty actor_cmp a;
  counted = λ is. counted_once app spec.no is;
}

pub opens_in_places : OpensInPlaces
opens_in_places spec app net at = opens spec app net at
