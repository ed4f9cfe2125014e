-- A list the elements of which change one after the other.
use Rattle.std.specs.Prelude.{◌≡◌, ℕ, ◌<◌, ◌≤◌, List, length, slice_get, Some}

-- the first k elements became others by that relation, and the later ones are as they were
pub record PassedEach {X : Type 0} (Becomes : X → X → Type 0) (old : List X) (k : ℕ) (new : List X) : Type 0 where
  pub long : length new ≡ length old
  pub before : (i : ℕ) (x : X) → slice_get old i ≡ Some x → i < k → (y : X) × (slice_get new i ≡ Some y) × Becomes x y
  pub after : (i : ℕ) (x : X) → slice_get old i ≡ Some x → k ≤ i → slice_get new i ≡ Some x
