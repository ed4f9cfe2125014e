-- The first place of a part.
use Rattle.std.proofs.Common.{◌≡◌, ℕ, suc, ◌+◌, ◌<◌, ◌≤◌, true, false, Option, Some, List, [], ◌∷◌, ◌++◌, length, take, drop, refl, sym, ap, ◌∙◌, subst, append_assoc, arith}
use Rattle.std.specs.Prelude.{nat_eq}
use Rattle.std.specs.List.{starts_with}
use Rattle.std.proofs.lemmas.Bool.{cond_both, false_from_ne_true, cond-true, cond-false}
use Rattle.std.proofs.lemmas.Bool.Decides.{Decides-eqb}
use Rattle.std.proofs.lemmas.List.{length-append, length-take-le, take-append-drop}
use Rattle.std.proofs.lemmas.Slice.Eq.{starts_is}
use Rattle.cv_lex.specs.Shapes.{FirstIs}
use Rattle.cv_lex.specs.Spans.{place_of}

-- a text that starts with a part
pub starts_so : (s p : List ℕ) → starts_with nat_eq s p ≡ true → s ≡ p ++ drop (length p) s
starts_so s p h = (starts_is Decides-eqb s p (starts_with nat_eq s p) refl).0 h

pub starts_from : (s p rest : List ℕ) → s ≡ p ++ rest → starts_with nat_eq s p ≡ true
starts_from s p rest e = (starts_is Decides-eqb s p (starts_with nat_eq s p) refl).1 rest e

-- the part stands at its first place
pub place_found : (i : ℕ) (part bytes : List ℕ) (n : ℕ) → place_of i part bytes ≡ Some n → (k : ℕ) × (n ≡ i + k) × (k ≤ length bytes) × (drop k bytes ≡ part ++ drop (length part) (drop k bytes))
place_found i part [] n h = cc
place_found i part (b ∷ bytes) n h =
    let P : Option ℕ → Type 0 = λ r. r ≡ Some n → (k : ℕ) × (n ≡ i + k) × (k ≤ length (b ∷ bytes)) × (drop k (b ∷ bytes) ≡ part ++ drop (length part) (drop k (b ∷ bytes))) in
    cond_both (starts_with nat_eq (b ∷ bytes) part) (Some i) (place_of (i + 1) part bytes) P
    (λ here e. let same : i ≡ n = cc in (0, omega (arith, same), omega arith, starts_so (b ∷ bytes) part here))
    (λ _ e. let f = place_found (i + 1) part bytes n e in (suc f.0, omega (arith, f.1), omega (arith, f.2), f.3)) h

-- it stands nowhere before
pub place_least : (i : ℕ) (part bytes : List ℕ) (n : ℕ) → place_of i part bytes ≡ Some n → (front back : List ℕ) → bytes ≡ front ++ (part ++ back) → n ≤ i + length front
place_least i part [] n h front back e = cc
place_least i part (b ∷ bytes) n h [] back e =
    let same : Some i ≡ Some n = sym (cond-true (starts_with nat_eq (b ∷ bytes) part) (Some i) (place_of (i + 1) part bytes) (starts_from (b ∷ bytes) part back e)) ∙ h in
    let place : i ≡ n = cc in
    omega (arith, place)
place_least i part (b ∷ bytes) n h (f ∷ front) back e =
    let P : Option ℕ → Type 0 = λ r. r ≡ Some n → n ≤ i + length (f ∷ front) in
    let rest : bytes ≡ front ++ (part ++ back) = cc in
    cond_both (starts_with nat_eq (b ∷ bytes) part) (Some i) (place_of (i + 1) part bytes) P
    (λ _ e. let same : i ≡ n = cc in omega (arith, same))
    (λ _ e. omega (arith, place_least (i + 1) part bytes n e front back rest)) h

-- so what stands before it is a body that it closes
pub first_is : (part bytes : List ℕ) (n : ℕ) → place_of 0 part bytes ≡ Some n → FirstIs part (take n bytes)
first_is part bytes n h = λ front back e.
    let f = place_found 0 part bytes n h in
    let same : n ≡ f.0 = omega (arith, f.1) in
    let after = drop (length part) (drop n bytes) in
    let P : ℕ → Type 0 = λ k. drop k bytes ≡ part ++ drop (length part) (drop k bytes) in
    let there : drop n bytes ≡ part ++ after = subst P (sym same) f.3 in
    let whole : bytes ≡ front ++ (part ++ (back ++ after)) =
    sym (take-append-drop n bytes) ∙ ap (λ (ys : List ℕ). take n bytes ++ ys) there ∙ sym (append_assoc (take n bytes) part after)
    ∙ ap (λ (xs : List ℕ). xs ++ after) e ∙ append_assoc front (part ++ back) after ∙ ap (λ (ys : List ℕ). front ++ ys) (append_assoc part back after) in
    omega (arith, place_least 0 part bytes n h front (back ++ after) whole, length-take-le n bytes (omega (arith, f.2, same)))

-- a front that is no longer than another begins it
fronts_meet : (a p r x : List ℕ) → a ++ r ≡ p ++ x → length p ≤ length a → (y : List ℕ) × (a ≡ p ++ y)
fronts_meet a [] r x e h = (a, refl)
fronts_meet [] (c ∷ p) r x e h = absurd (omega arith)
fronts_meet (b ∷ a) (c ∷ p) r x e h =
    let head : b ≡ c = cc in
    let rest : a ++ r ≡ p ++ x = cc in
    let f = fronts_meet a p r x rest (omega arith) in
    let tail = f.1 in
    (f.0, cc)

-- a body's closing is at the first place, whatever follows
pub place_first : (i : ℕ) (part body rest : List ℕ) → FirstIs part body → 0 < length part → place_of i part (body ++ (part ++ rest)) ≡ Some (i + length body)
place_first i [] [] rest f h = absurd (omega arith)
place_first i (c ∷ part) [] rest f h =
    cond-true (starts_with nat_eq (c ∷ (part ++ rest)) (c ∷ part)) (Some i) (place_of (i + 1) (c ∷ part) (part ++ rest)) (starts_from (c ∷ (part ++ rest)) (c ∷ part) rest refl)
    ∙ ap Some (omega arith)
place_first i part (b ∷ body) rest f h =
    let all = b ∷ (body ++ (part ++ rest)) in
    let no : starts_with nat_eq all part ≡ false = false_from_ne_true (starts_with nat_eq all part) (λ here.
    let whole : (b ∷ (body ++ part)) ++ rest ≡ part ++ drop (length part) all = append_assoc (b ∷ body) part rest ∙ starts_so all part here in
    let m = fronts_meet (b ∷ (body ++ part)) part rest (drop (length part) all) whole (omega (arith, length-append body part)) in
    let bound = f [] m.0 m.1 in
    omega (arith, bound)) in
    let later : FirstIs part body = λ front back e. let bound = f (b ∷ front) back (ap (λ (ys : List ℕ). b ∷ ys) e) in omega (arith, bound) in
    cond-false (starts_with nat_eq all part) (Some i) (place_of (i + 1) part (body ++ (part ++ rest))) no
    ∙ place_first (i + 1) part body rest later h ∙ ap Some (omega arith)
