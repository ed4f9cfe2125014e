-- A table of a node of which more than one actor changed: all of them, or those that pass a test.
use Rattle.std.proofs.Common.{◌≡◌, inl, inr, ℕ, Bool, true, sym, ap, ◌∙◌}
use Rattle.cv_token.specs.declared.identifiers.ActorId.{ActorId}
use Rattle.cv_protocol.specs.NodeState.{NodeState}
use Rattle.cv_handover.specs.World.{at}
use Rattle.cv_handover.proofs.Places.{at_cases, every, every_cases, some_of, some_of_cases}

module _ {X : Type 0} (view : NodeState → ActorId → X) (nodes : ℕ → NodeState) (i : ℕ) (s : NodeState) where
  every_at : (g : X → X) → ((b : ActorId) → view s b ≡ g (view (nodes i) b)) → (k : ℕ) (b : ActorId) → view (at nodes i s k) b ≡ every (λ (j : ℕ) (c : ActorId). view (nodes j) c) i g k b
  every_at g is k b =
      elim (every_cases (λ (j : ℕ) (c : ActorId). view (nodes j) c) i g k b) [
        | inl p ↦
            elim (at_cases nodes i s k) [
              | inl y ↦ ap (λ (u : NodeState). view u b) y.1 ∙ is b ∙ ap (λ (j : ℕ). g (view (nodes j) b)) (sym p.0) ∙ sym p.1
              | inr y ↦ absurd (y.0 p.0)
            ]
        | inr p ↦
            elim (at_cases nodes i s k) [
              | inl y ↦ absurd (p.0 y.0)
              | inr y ↦ ap (λ (u : NodeState). view u b) y.1 ∙ sym p.1
            ]
      ]

  -- every actor of node i is seen to change
  pub seen_every : (g : X → X) → ((b : ActorId) → view s b ≡ g (view (nodes i) b)) → ◌≡◌ {A = ℕ → ActorId → X} (λ k b. view (at nodes i s k) b) (every (λ (k : ℕ) (b : ActorId). view (nodes k) b) i g)
  seen_every g is = λ z k b. every_at g is k b z

  some_at : (test : ActorId → Bool) (g : ActorId → X) → ((b : ActorId) → test b ≡ true → view s b ≡ g b) → ((b : ActorId) → ((test b ≡ true) → ⊥) → view s b ≡ view (nodes i) b) → (k : ℕ) (b : ActorId) → view (at nodes i s k) b ≡ some_of (λ (j : ℕ) (c : ActorId). view (nodes j) c) i test g k b
  some_at test g on off k b =
      elim (some_of_cases (λ (j : ℕ) (c : ActorId). view (nodes j) c) i test g k b) [
        | inl p ↦
            elim (at_cases nodes i s k) [
              | inl y ↦ ap (λ (u : NodeState). view u b) y.1 ∙ on b p.1 ∙ sym p.2
              | inr y ↦ absurd (y.0 p.0)
            ]
        | inr p ↦
            elim (at_cases nodes i s k) [
              | inl y ↦ ap (λ (u : NodeState). view u b) y.1 ∙ off b (p.0 y.0) ∙ ap (λ (j : ℕ). view (nodes j) b) (sym y.0) ∙ sym p.1
              | inr y ↦ ap (λ (u : NodeState). view u b) y.1 ∙ sym p.1
            ]
      ]

  -- the actors of node i that pass a test are seen to change
  pub seen_some : (test : ActorId → Bool) (g : ActorId → X) → ((b : ActorId) → test b ≡ true → view s b ≡ g b) → ((b : ActorId) → ((test b ≡ true) → ⊥) → view s b ≡ view (nodes i) b) → ◌≡◌ {A = ℕ → ActorId → X} (λ k b. view (at nodes i s k) b) (some_of (λ (k : ℕ) (b : ActorId). view (nodes k) b) i test g)
  seen_some test g on off = λ z k b. some_at test g on off k b z
