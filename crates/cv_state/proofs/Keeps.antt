-- What is made of those elements that pass a test, one after another.
use Rattle.std.proofs.Common.{◌≡◌, ℕ, zero, suc, ◌+◌, ◌<◌, ◌≤◌, Bool, true, false, if◌then◌else◌, List, [], ◌∷◌, ◌++◌, map, filter, drop, length, slice_get, Option, Some, None, refl, ap, sym, ◌∙◌, append-nil, append_assoc, arith}
use Rattle.cv_state.specs.Kept.{added, kept, kept_at}

module _ {A B : Type 0} (f : A → B) (p : A → Bool) where
  split : (x : A) (xs : List A) (b : Bool) (o : Option B) → o ≡ (if b then Some (f x) else None) → map f (if b then x ∷ filter p xs else filter p xs) ≡ added o (kept f p xs)
  split x xs true o is = ap (λ o. added o (kept f p xs)) (sym is)
  split x xs false o is = ap (λ o. added o (kept f p xs)) (sym is)

  from_next : (xs : List A) (n : ℕ) (o : Option B) → o ≡ kept_at f p (slice_get xs n) → n < length xs → kept f p (drop n xs) ≡ added o (kept f p (drop (n + 1) xs))
  from_next [] n o is within = absurd (omega arith)
  from_next (x ∷ xs) zero o is within = split x xs (p x) o is
  from_next (x ∷ xs) (suc n) o is within =
      let next : suc (n + 1) ≡ suc n + 1 = omega arith in
      from_next xs n o is (omega arith) ∙ ap (λ (k : ℕ). added o (kept f p (drop k (x ∷ xs)))) next

  joins : (o : Option B) (ys : List B) → added o [] ++ ys ≡ added o ys
  joins None ys = refl
  joins (Some y) ys = refl

  -- the element at that place was added, where it passes
  pub kept_next : (xs : List A) (n : ℕ) (o : Option B) (before after whole : List B) → o ≡ kept_at f p (slice_get xs n) → after ≡ before ++ added o [] → n < length xs → before ++ kept f p (drop n xs) ≡ whole → after ++ kept f p (drop (n + 1) xs) ≡ whole
  kept_next xs n o before after whole is adds within invariant =
      let rest = kept f p (drop (n + 1) xs) in
      ap (λ ys. ys ++ rest) adds
      ∙ append_assoc before (added o []) rest
      ∙ ap (λ ys. before ++ ys) (joins o rest ∙ sym (from_next xs n o is within))
      ∙ invariant

  dropped : (xs : List A) (n : ℕ) → length xs ≤ n → drop n xs ≡ []
  dropped [] zero past = refl
  dropped [] (suc n) past = refl
  dropped (x ∷ xs) zero past = absurd (omega arith)
  dropped (x ∷ xs) (suc n) past = dropped xs n (omega arith)

  -- after the last one
  pub kept_whole : (xs : List A) (n : ℕ) (made whole : List B) → length xs ≤ n → made ++ kept f p (drop n xs) ≡ whole → made ≡ whole
  kept_whole xs n made whole past invariant =
      sym (append-nil made) ∙ ap (λ ys. made ++ kept f p ys) (sym (dropped xs n past)) ∙ invariant
