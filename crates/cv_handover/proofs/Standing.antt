-- Where the owner of an actor is, and what it means that it changes.
use Rattle.std.proofs.Common.{◌≡◌, inl, inr, ℕ, Bool, true, ◌==◌, ◌&&◌, Option, Some, None, refl, sym, ap, ◌∙◌, arith, if◌then◌else◌}
use Rattle.std.proofs.lemmas.Bool.Decides.{nat_tests}
use Rattle.cv_token.specs.declared.identifiers.ActorId.{ActorId}
use Rattle.cv_table.proofs.Views.{same_actor-cases}
use Rattle.cv_protocol.specs.NodeState.{NodeState}
use Rattle.cv_protocol.specs.Owners.{Owner, Owners, Nowhere, At, Between, is_at, is_coming, is_going, with_owner}
use Rattle.cv_handover.specs.Meaning.{Nets, Meaning}
use Rattle.cv_handover.specs.Agree.{lives, History, Owned, IsUnheard}
use Rattle.cv_handover.proofs.Places.{set, set_cases}

-- 1. Tests

same_number : (i : ℕ) → (i == i) ≡ true
same_number i = grind (arith, nat_tests)

pub is_at_true : (i : ℕ) (o : Owner) → o ≡ At i → is_at i o ≡ true
is_at_true i o e = ap (is_at i) e ∙ same_number i

pub is_coming_true : (s i e : ℕ) (o : Owner) → o ≡ Between s i e → is_coming i e o ≡ true
is_coming_true s i e o is = ap (is_coming i e) is ∙ ap (λ (b : Bool). b && (e == e)) (same_number i) ∙ same_number e

pub is_going_true : (i t e : ℕ) (o : Owner) → o ≡ Between i t e → is_going i e o ≡ true
is_going_true i t e o is = ap (is_going i e) is ∙ ap (λ (b : Bool). b && (e == e)) (same_number i) ∙ same_number e

pub nowhere_not_at : (i : ℕ) → Nowhere ≡ At i → ⊥
nowhere_not_at i e = cc

pub nowhere_not_between : (i j e : ℕ) → Nowhere ≡ Between i j e → ⊥
nowhere_not_between i j e p = cc

-- 2. One owner changes

pub set_other : {X : Type 0} (f : ActorId → X) (a : ActorId) (x : X) (b : ActorId) → ((b ≡ a) → ⊥) → set f a x b ≡ f b
set_other f a x b apart =
    elim (set_cases f a x b) [
      | inl s ↦ absurd (apart s.0)
      | inr s ↦ s.1
    ]

owner_by : (own : Owners) (a : ActorId) (o : Owner) (b : ActorId) → set own a o b ≡ with_owner own a o b
owner_by own a o b =
    elim (same_actor-cases b a) [
      | inl t ↦
          elim (set_cases own a o b) [
            | inl s ↦ s.1 ∙ ap (λ (x : Bool). if x then o else own b) (sym t.0)
            | inr s ↦ absurd (s.0 t.1)
          ]
      | inr t ↦ set_other own a o b t.1 ∙ ap (λ (x : Bool). if x then o else own b) (sym t.0)
    ]

pub owner_set : (own : Owners) (a : ActorId) (o : Owner) → set own a o ≡ with_owner own a o
owner_set own a o = λ z b. owner_by own a o b z

owner_other : (own : Owners) (a : ActorId) (o : Owner) (b : ActorId) → ((b ≡ a) → ⊥) → with_owner own a o b ≡ own b
owner_other own a o b apart = sym (owner_by own a o b) ∙ set_other own a o b apart

-- who was unheard of is, where only what is known of another actor changes
pub unheard_beside : (n : Nets) (m : Meaning) (h g : History) (a : ActorId) (o : Owner) → ((m.owner a ≡ Nowhere) → ⊥) → ((b : ActorId) → ((b ≡ a) → ⊥) → g.attempt b ≡ h.attempt b) → ((b : ActorId) → ((b ≡ a) → ⊥) → g.copy b ≡ h.copy b) → (b : ActorId) → IsUnheard n m h b → IsUnheard n (record m { owner = with_owner m.owner a o }) g b
unheard_beside n m h g a o somewhere attempts copies b u =
    let apart : (b ≡ a) → ⊥ = λ e. somewhere (ap m.owner (sym e) ∙ u.owner) in
    record {
      owner = owner_other m.owner a o b apart ∙ u.owner;
      attempt = attempts b apart ∙ u.attempt;
      copy = copies b apart ∙ u.copy;
    }

-- 3. Who does not live here

pub none_of : {X : Type 0} (x : Option X) → ((y : X) → x ≡ Some y → ⊥) → x ≡ None
none_of None never = refl
none_of (Some y) never = absurd (never y refl)

-- an actor whose owner is elsewhere does not live here
pub is_absent : (nodes : ℕ → NodeState) (m : Meaning) (h : History) (i : ℕ) (a : ActorId) → ((m.owner a ≡ At i) → ⊥) → Owned (lives nodes) m.owner h → lives nodes i a ≡ None
is_absent nodes m h i a away o = none_of (lives nodes i a) (λ l is. away (o.live_only a i l is))
