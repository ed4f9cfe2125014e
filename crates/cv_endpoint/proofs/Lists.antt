-- Elements of a list by their place, after one was written, after one more came, and after some went.
use Rattle.std.proofs.Common.{◌≡◌, ℕ, suc, zero, ◌+◌, ◌++◌, ◌⊎◌, inl, inr, List, [], ◌∷◌, length, drop, Some, refl, sym, ap, ◌∙◌, arith}
use Rattle.std.specs.Prelude.{slice_get, slice_set}
use Rattle.std.proofs.lemmas.Option.{none-some as none_some, same_Some}

-- every other place keeps its element
pub slice_get_other : {X : Type 0} (xs : List X) (i : ℕ) (y : X) (k : ℕ) → (k ≡ i → ⊥) → slice_get (slice_set xs i y) k ≡ slice_get xs k
slice_get_other [] i y k h = refl
slice_get_other (a ∷ xs) zero y zero h = absurd (h refl)
slice_get_other (a ∷ xs) zero y (suc k) h = refl
slice_get_other (a ∷ xs) (suc i) y zero h = refl
slice_get_other (a ∷ xs) (suc i) y (suc k) h =
    slice_get_other xs i y k (λ e. h (ap suc e))

-- an element of a list with one more at its end
pub slice_get_pushed : {X : Type 0} (xs : List X) (y : X) (i : ℕ) (x : X) → slice_get (xs ++ y ∷ []) i ≡ Some x → (slice_get xs i ≡ Some x) ⊎ ((i ≡ length xs) × (x ≡ y))
slice_get_pushed [] y zero x h = inr (refl, sym (same_Some y x h))
slice_get_pushed [] y (suc i) x h = absurd (none_some x h)
slice_get_pushed (a ∷ xs) y zero x h = inl h
slice_get_pushed (a ∷ xs) y (suc i) x h =
    elim (slice_get_pushed xs y i x h) [ inl p ↦ inl p | inr q ↦ inr (ap suc q.0, q.1) ]

-- what stood in the list stands there still
pub slice_get_kept : {X : Type 0} (xs : List X) (y : X) (i : ℕ) (x : X) → slice_get xs i ≡ Some x → slice_get (xs ++ y ∷ []) i ≡ Some x
slice_get_kept [] y i x h = absurd (none_some x h)
slice_get_kept (a ∷ xs) y zero x h = h
slice_get_kept (a ∷ xs) y (suc i) x h = slice_get_kept xs y i x h

-- and the new one at the end
pub slice_get_last : {X : Type 0} (xs : List X) (y : X) (i : ℕ) → i ≡ length xs → slice_get (xs ++ y ∷ []) i ≡ Some y
slice_get_last [] y zero h = refl
slice_get_last [] y (suc i) h = absurd (omega arith)
slice_get_last (a ∷ xs) y zero h = absurd (omega arith)
slice_get_last (a ∷ xs) y (suc i) h = slice_get_last xs y i (omega arith)

-- an element of what is left of a list
pub slice_get_dropped : {X : Type 0} (d : ℕ) (xs : List X) (i : ℕ) → slice_get (drop d xs) i ≡ slice_get xs (d + i)
slice_get_dropped zero xs i =
    let e : i ≡ 0 + i = omega arith in
    ap (λ (n : ℕ). slice_get xs n) e
slice_get_dropped (suc d) [] i = refl
slice_get_dropped (suc d) (a ∷ xs) i =
    let e : suc (d + i) ≡ suc d + i = omega arith in
    slice_get_dropped d xs i ∙ ap (λ (n : ℕ). slice_get (a ∷ xs) n) e
