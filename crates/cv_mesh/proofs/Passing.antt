-- A list the elements of which change one after the other.
use Rattle.std.proofs.Common.{◌≡◌, ◌⊎◌, inl, inr, ℕ, zero, suc, ◌+◌, ◌<◌, ◌≤◌, List, length, slice_get, slice_set, slice_index_or, Some, refl, sym, ◌∙◌, ap, subst, arith}
use Rattle.std.proofs.lemmas.Option.{same_Some, slice_get_within, get_or_from_slice_get}
use Rattle.cv_mesh.specs.Moving.{Each}
use Rattle.cv_mesh.specs.Passed.{PassedEach}
use Rattle.cv_mesh.proofs.Listing.{at_place, got_here, got_other, length_set}

pub below_or : (i k : ℕ) → i < k + 1 → (i < k) ⊎ (i ≡ k)
below_or zero zero h = inr refl
below_or zero (suc k) h = inl (omega arith)
below_or (suc i) zero h = absurd (omega (arith, h))
below_or (suc i) (suc k) h = elim (below_or i k (omega (arith, h))) [ inl low ↦ inl (omega (arith, low)) | inr same ↦ inr (ap suc same) ]

pub passed_none : {X : Type 0} (R : X → X → Type 0) (xs : List X) → PassedEach R xs 0 xs
passed_none R xs = record { long = refl; before = λ i x at low. absurd (omega (arith, low)); after = λ i x at high. at }

module _ {X : Type 0} (R : X → X → Type 0) (old now : List X) (k : ℕ) (p : PassedEach R old k now) (x y : X) (inside : k < length old) (here : slice_index_or now k x ≡ x) (becomes : R (slice_index_or now k x) y) where
  was : slice_get old k ≡ Some x
  was =
      let o = at_place old k inside in
      let still = p.after k o.0 o.1 (omega arith) in
      o.1 ∙ ap Some (sym (get_or_from_slice_get now k o.0 x still) ∙ here)

  next : (i : ℕ) (z : X) → slice_get old i ≡ Some z → (i < k) ⊎ (i ≡ k) → (w : X) × (slice_get (slice_set now k y) i ≡ Some w) × R z w
  next i z at (inl low) =
      let b = p.before i z at low in (b.0, got_other now k i y (λ same. absurd (omega (arith, same, low))) ∙ b.1, b.2)
  next i z at (inr same) =
      let is : x ≡ z = same_Some x z (sym was ∙ ap (slice_get old) (sym same) ∙ at) in
      (y, ap (slice_get (slice_set now k y)) same ∙ got_here now k y (let l = p.long in omega (arith, inside, l)), subst (λ (w : X). R w y) (here ∙ is) becomes)

  pub passed_more : PassedEach R old (k + 1) (slice_set now k y)
  passed_more = record {
    long = length_set now k y ∙ p.long;
    before = λ i z at low. next i z at (below_or i k low);
    after = λ i z at high. got_other now k i y (λ same. absurd (omega (arith, same, high))) ∙ p.after i z at (omega (arith, high));
  }

pub passed_all : {X : Type 0} (R : X → X → Type 0) (old now : List X) (k : ℕ) → PassedEach R old k now → length old ≤ k → Each R old now
passed_all R old now k p all = record {
  long = p.long;
  all = λ i x at. p.before i x at (let h = slice_get_within old i x at in omega (arith, h, all));
}
