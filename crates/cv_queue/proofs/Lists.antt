-- Elements of a list by their place, after one of them was written.
use Rattle.std.proofs.Common.{◌≡◌, ℕ, suc, zero, ◌<◌, ◌⊎◌, inl, inr, List, [], ◌∷◌, length, Some, map, refl, arith}
use Rattle.std.specs.Prelude.{slice_get, slice_set}
use Rattle.std.proofs.lemmas.Option.{none-some as none_some, same_Some}

-- what stands at k after y was written at i
pub slice_get_written : {X : Type 0} (xs : List X) (i : ℕ) (y : X) (k : ℕ) (x : X) → slice_get (slice_set xs i y) k ≡ Some x → ((k ≡ i) × (x ≡ y)) ⊎ (slice_get xs k ≡ Some x)
slice_get_written [] i y k x h = inr h
slice_get_written (a ∷ xs) zero y zero x h = grind arith
slice_get_written (a ∷ xs) zero y (suc k) x h = inr h
slice_get_written (a ∷ xs) (suc i) y zero x h = inr h
slice_get_written (a ∷ xs) (suc i) y (suc k) x h =
    elim (slice_get_written xs i y k x h) [ inl p ↦ inl (grind (arith, p)) | inr q ↦ inr q ]

-- y itself
pub slice_get_same : {X : Type 0} (xs : List X) (i : ℕ) (y : X) → i < length xs → slice_get (slice_set xs i y) i ≡ Some y
slice_get_same [] i y h = absurd (omega arith)
slice_get_same (a ∷ xs) zero y h = refl
slice_get_same (a ∷ xs) (suc i) y h = slice_get_same xs i y (omega arith)

-- a place within the list has its element
pub slice_get_some : {X : Type 0} (xs : List X) (i : ℕ) → i < length xs → (x : X) × (slice_get xs i ≡ Some x)
slice_get_some [] i h = absurd (omega arith)
slice_get_some (a ∷ xs) zero h = (a, refl)
slice_get_some (a ∷ xs) (suc i) h = slice_get_some xs i (omega arith)

-- an element of a mapped list comes from an element there
pub slice_get_mapped : {X Y : Type 0} (f : X → Y) (xs : List X) (i : ℕ) (y : Y) → slice_get (map f xs) i ≡ Some y → (x : X) × (slice_get xs i ≡ Some x) × (f x ≡ y)
slice_get_mapped f [] i y h = absurd (none_some y h)
slice_get_mapped f (a ∷ xs) zero y h = (a, refl, same_Some (f a) y h)
slice_get_mapped f (a ∷ xs) (suc i) y h = slice_get_mapped f xs i y h
