-- Lists of the values of a function, place by place.
use Rattle.std.proofs.Common.{◌≡◌, ℕ, zero, suc, ◌+◌, ◌<◌, ◌∷◌, length, Some, refl, sym, ap, ◌∙◌, arith}
use Rattle.std.specs.Prelude.{slice_get, slice_set}
use Rattle.cv_handover.specs.Runtimes.{listed}

module _ {X : Type 0} where
  pub listed_at : (f : ℕ → X) (from count k : ℕ) → k < count → slice_get (listed f from count) k ≡ Some (f (from + k))
  listed_at f from zero k h = absurd (omega arith)
  listed_at f from (suc count) zero h = let e : from ≡ from + 0 = omega arith in ap (λ j. Some (f j)) e
  listed_at f from (suc count) (suc k) h =
      let e : suc from + k ≡ from + suc k = omega arith in
      listed_at f (suc from) count k (omega arith) ∙ ap (λ j. Some (f j)) e

  pub listed_length : (f : ℕ → X) (from count : ℕ) → length (listed f from count) ≡ count
  listed_length f from zero = refl
  listed_length f from (suc count) = ap suc (listed_length f (suc from) count)

  pub listed_same : (f g : ℕ → X) (from count : ℕ) → ((k : ℕ) → f k ≡ g k) → listed f from count ≡ listed g from count
  listed_same f g from zero same = refl
  listed_same f g from (suc count) same = λ z. same from z ∷ listed_same f g (suc from) count same z

  -- from one place on
  behind : (f g : ℕ → X) (from k count : ℕ) → ((j : ℕ) → k < j → f (from + j) ≡ g (from + j)) → listed f (suc from + k) count ≡ listed g (suc from + k) count
  behind f g from k zero same = refl
  behind f g from k (suc count) same =
      let e : suc from + k ≡ from + suc k = omega arith in
      let first = ap f e ∙ same (suc k) (omega arith) ∙ ap g (sym e) in
      let n : suc (suc from + k) ≡ suc from + suc k = omega arith in
      let rest = ap (λ q. listed f q count) n ∙ behind f g from (suc k) count (λ j h. same j (omega (arith, h))) ∙ ap (λ q. listed g q count) (sym n) in
      λ z. first z ∷ rest z

  pub listed_set : (f g : ℕ → X) (from count k : ℕ) (x : X) → x ≡ g (from + k) → ((j : ℕ) → ((j ≡ k) → ⊥) → f (from + j) ≡ g (from + j)) → slice_set (listed f from count) k x ≡ listed g from count
  listed_set f g from zero k x new same = refl
  listed_set f g from (suc count) zero x new same =
      let e : from + 0 ≡ from = omega arith in
      let n : suc from + 0 ≡ suc from = omega arith in
      let rest = ap (λ q. listed f q count) (sym n) ∙ behind f g from 0 count (λ j h. same j (λ is. absurd (omega (arith, h, is)))) ∙ ap (λ q. listed g q count) n in
      λ z. (new ∙ ap g e) z ∷ rest z
  listed_set f g from (suc count) (suc k) x new same =
      let e : from + 0 ≡ from = omega arith in
      let first : f from ≡ g from = ap f (sym e) ∙ same 0 (λ is. absurd (omega (arith, is))) ∙ ap g e in
      let here : from + suc k ≡ suc from + k = omega arith in
      let rest = listed_set f g (suc from) count k x (new ∙ ap g here) (λ j other. let next : suc from + j ≡ from + suc j = omega arith in ap f next ∙ same (suc j) (λ is. other (omega (arith, is))) ∙ ap g (sym next)) in
      λ z. first z ∷ rest z
