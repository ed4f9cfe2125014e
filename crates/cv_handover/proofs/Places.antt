-- Functions of node, actor and attempt that change at one place, or at all of a node.
use Rattle.std.proofs.Common.{◌≡◌, ◌⊎◌, ℕ, Bool, true, false, ◌==◌, ◌&&◌, arith, if◌then◌else◌}
use Rattle.std.proofs.lemmas.Grind.{common_steps}
use Rattle.std.proofs.lemmas.Bool.Decides.{nat_tests}
use Rattle.cv_token.specs.declared.identifiers.ActorId.{ActorId}
use Rattle.cv_table.specs.Order.{same_actor}
use Rattle.cv_table.proofs.Views.{same_actor-cases}
use Rattle.cv_handover.specs.World.{at}

module _ {X : Type 0} where
  -- by actor
  pub set : (ActorId → X) → ActorId → X → ActorId → X
  set f a x b = if same_actor b a then x else f b

  pub set_cases : (f : ActorId → X) (a : ActorId) (x : X) (b : ActorId) → ((b ≡ a) × (set f a x b ≡ x)) ⊎ (((b ≡ a) → ⊥) × (set f a x b ≡ f b))
  unfolding set
  set_cases f a x b = grind (arith, common_steps, same_actor-cases b a)

  -- by node and actor
  pub put : (ℕ → ActorId → X) → ℕ → ActorId → X → ℕ → ActorId → X
  put f i a x k b = if (k == i) && same_actor b a then x else f k b

  pub put_cases : (f : ℕ → ActorId → X) (i : ℕ) (a : ActorId) (x : X) (k : ℕ) (b : ActorId) → ((k ≡ i) × (b ≡ a) × (put f i a x k b ≡ x)) ⊎ (((k ≡ i) → (b ≡ a) → ⊥) × (put f i a x k b ≡ f k b))
  unfolding put
  put_cases f i a x k b = grind (arith, nat_tests, common_steps, same_actor-cases b a)

  -- by actor and attempt
  pub note : (ActorId → ℕ → X) → ActorId → ℕ → X → ActorId → ℕ → X
  note f a e x b d = if same_actor b a && (d == e) then x else f b d

  pub note_cases : (f : ActorId → ℕ → X) (a : ActorId) (e : ℕ) (x : X) (b : ActorId) (d : ℕ) → ((b ≡ a) × (d ≡ e) × (note f a e x b d ≡ x)) ⊎ (((b ≡ a) → (d ≡ e) → ⊥) × (note f a e x b d ≡ f b d))
  unfolding note
  note_cases f a e x b d = grind (arith, nat_tests, common_steps, same_actor-cases b a)

  -- by node
  pub at_cases : (f : ℕ → X) (i : ℕ) (x : X) (k : ℕ) → ((k ≡ i) × (at f i x k ≡ x)) ⊎ (((k ≡ i) → ⊥) × (at f i x k ≡ f k))
  unfolding at
  at_cases f i x k = grind (arith, nat_tests, common_steps)

  -- all of node i
  pub every : (ℕ → ActorId → X) → ℕ → (X → X) → ℕ → ActorId → X
  every f i g k b = if k == i then g (f k b) else f k b

  pub every_cases : (f : ℕ → ActorId → X) (i : ℕ) (g : X → X) (k : ℕ) (b : ActorId) → ((k ≡ i) × (every f i g k b ≡ g (f k b))) ⊎ (((k ≡ i) → ⊥) × (every f i g k b ≡ f k b))
  unfolding every
  every_cases f i g k b = grind (arith, nat_tests, common_steps)

  -- those of node i that pass a test
  pub some_of : (ℕ → ActorId → X) → ℕ → (ActorId → Bool) → (ActorId → X) → ℕ → ActorId → X
  some_of f i test g k b = if (k == i) && test b then g b else f k b

  pub some_of_cases : (f : ℕ → ActorId → X) (i : ℕ) (test : ActorId → Bool) (g : ActorId → X) (k : ℕ) (b : ActorId) → ((k ≡ i) × (test b ≡ true) × (some_of f i test g k b ≡ g b)) ⊎ (((k ≡ i) → (test b ≡ true) → ⊥) × (some_of f i test g k b ≡ f k b))
  unfolding some_of
  some_of_cases f i test g k b = grind (arith, nat_tests, common_steps)

  -- the actors that pass a test
  pub where_so : (ActorId → X) → (ActorId → Bool) → (ActorId → X) → ActorId → X
  where_so f test g b = if test b then g b else f b

  pub where_so_cases : (f : ActorId → X) (test : ActorId → Bool) (g : ActorId → X) (b : ActorId) → ((test b ≡ true) × (where_so f test g b ≡ g b)) ⊎ ((test b ≡ false) × (where_so f test g b ≡ f b))
  unfolding where_so
  where_so_cases f test g b = grind (arith, common_steps)
