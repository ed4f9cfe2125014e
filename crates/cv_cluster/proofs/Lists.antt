-- Lists: sums, parts, and what holds place by place.
use Rattle.std.proofs.Common.{◌≡◌, ℕ, zero, suc, ◌+◌, ◌<◌, ◌≤◌, ◌&&◌, Bool, true, false, List, [], ◌∷◌, map, length, take, slice_get, slice_set, slice_index_or, Some, option_map, Contains, refl, sym, ◌∙◌, ap, subst, arith}
use Rattle.std.specs.List.{list_all, sum_by}
use Rattle.std.proofs.lemmas.List.{length-map}
use Rattle.std.proofs.lemmas.List.Sums.{sum_by-cons}
use Rattle.std.proofs.lemmas.Option.{same_Some, slice_get-map, slice_get_within, get_or_from_slice_get}
use Rattle.cv_mesh.specs.Moving.{Each}
use Rattle.cv_mesh.proofs.Listing.{at_place, mapped_at}

-- 1. Sums

-- where one element gives at most n more, so does the list
pub sum_set : {X : Type 0} (f : X → ℕ) (xs : List X) (k n : ℕ) (x y : X) → slice_get xs k ≡ Some x → f y ≤ f x + n → sum_by f (slice_set xs k y) ≤ sum_by f xs + n
sum_set f [] k n x y at more = absurd (cc)
sum_set f (z ∷ xs) zero n x y at more =
    let same : f z ≡ f x = ap f (same_Some z x at) in omega (arith, more, same, sum_by-cons f z xs, sum_by-cons f y xs)
sum_set f (z ∷ xs) (suc k) n x y at more =
    let below = sum_set f xs k n x y at more in omega (arith, below, sum_by-cons f z xs, sum_by-cons f z (slice_set xs k y))

-- a sum of nothings
pub sum_none : {X : Type 0} (f : X → ℕ) (xs : List X) → ((i : ℕ) (x : X) → slice_get xs i ≡ Some x → f x ≡ 0) → sum_by f xs ≡ 0
sum_none f [] none = refl
sum_none f (x ∷ xs) none =
    let first = none zero x refl in
    let rest = sum_none f xs (λ i y at. none (suc i) y at) in
    omega (arith, first, rest, sum_by-cons f x xs)

pub sum_map : {X Y : Type 0} (f : Y → ℕ) (g : X → Y) (xs : List X) → sum_by f (map g xs) ≡ sum_by (λ x. f (g x)) xs
sum_map f g [] = refl
sum_map f g (x ∷ xs) =
    let rest = sum_map f g xs in omega (arith, rest, sum_by-cons f (g x) (map g xs), sum_by-cons (λ x. f (g x)) x xs)

-- with one more of each
pub sum_suc : {X : Type 0} (f : X → ℕ) (xs : List X) → sum_by (λ x. f x + 1) xs ≡ sum_by f xs + length xs
sum_suc f [] = refl
sum_suc f (x ∷ xs) =
    let rest = sum_suc f xs in omega (arith, rest, sum_by-cons f x xs, sum_by-cons (λ x. f x + 1) x xs)

-- 2. Places

-- the element that an index reads
pub read_at : {X : Type 0} (xs : List X) (k : ℕ) (x : X) → k < length xs → x ≡ slice_index_or xs k x → slice_get xs k ≡ Some x
read_at xs k x inside is =
    let o = at_place xs k inside in o.1 ∙ ap Some (sym (get_or_from_slice_get xs k o.0 x o.1) ∙ sym is)

-- what holds of the first elements and of the next one
all_next : {X : Type 0} (P : X → Type 0) (xs : List X) (i : ℕ) (x : X) → slice_get xs i ≡ Some x → ((j : ℕ) (y : X) → slice_get (take i xs) j ≡ Some y → P y) → P x → (j : ℕ) (y : X) → slice_get (take (suc i) xs) j ≡ Some y → P y
all_next P [] i x at all here j y is = absurd (cc)
all_next P (z ∷ xs) zero x at all here zero y is = subst P (sym (same_Some z x at) ∙ same_Some z y is) here
all_next P (z ∷ xs) zero x at all here (suc j) y is = absurd (cc)
all_next P (z ∷ xs) (suc i) x at all here zero y is = all zero y is
all_next P (z ∷ xs) (suc i) x at all here (suc j) y is = all_next P xs i x at (λ k w got. all (suc k) w got) here j y is

next_is : (i : ℕ) → suc i ≡ i + 1
next_is i = omega arith

pub all_more : {X : Type 0} (P : X → Type 0) (xs : List X) (i : ℕ) (x : X) → slice_get xs i ≡ Some x → ((j : ℕ) (y : X) → slice_get (take i xs) j ≡ Some y → P y) → P x → (j : ℕ) (y : X) → slice_get (take (i + 1) xs) j ≡ Some y → P y
all_more P xs i x at all here =
    subst (λ (n : ℕ). (j : ℕ) (y : _) → slice_get (take n xs) j ≡ Some y → P y) (next_is i) (all_next P xs i x at all here)

-- where each call of a thread changes its element
pub each_changed : {X : Type 0} (R : X → X → Type 0) (xs ys : List X) → length ys ≡ length xs → ((i : ℕ) (d : X) → i < length xs → R (slice_index_or xs i d) (slice_index_or ys i d)) → Each R xs ys
each_changed R xs ys long changes = record {
  long = long;
  all = λ i x at.
      let inside = slice_get_within xs i x at in
      let y = at_place ys i (omega (arith, inside, long)) in
      let call = changes i x inside in
      (y.0, y.1, subst (λ z. R x z) (get_or_from_slice_get ys i y.0 x y.1) (subst (λ z. R z (slice_index_or ys i x)) (get_or_from_slice_get xs i x x at) call));
}

-- the same of what is read off the elements
pub each_map : {X Y : Type 0} (f : X → Y) (S : X → X → Type 0) (R : Y → Y → Type 0) → ((x z : X) → S x z → R (f x) (f z)) → (xs ys : List X) → Each S xs ys → Each R (map f xs) (map f ys)
each_map f S R becomes xs ys each = record {
  long = length-map ys f ∙ each.long ∙ sym (length-map xs f);
  all = λ i x at.
      let s = mapped_at f xs i x at in
      let u = each.all i s.0 s.1 in
      (f u.0, slice_get-map f ys i ∙ ap (option_map f) u.1, subst (λ y. R y (f u.0)) s.2 (becomes s.0 u.0 u.2));
}

-- 3. Tests of each element

both : (a b : Bool) → (a && b) ≡ true → (a ≡ true) × (b ≡ true)
both true b is = (refl, is)
both false b is = absurd (cc)

and_true : (a b : Bool) → a ≡ true → b ≡ true → (a && b) ≡ true
and_true true b is also = also
and_true false b is also = absurd (cc)

-- where each element of a list passes a test, each that is the same as one of them does
pub all_at : {X : Type 0} (p : X → Bool) (xs : List X) → list_all p xs ≡ true → (x : X) → Contains xs x → p x ≡ true
all_at p [] all x c = absurd (omega (arith, c.1))
all_at p (y ∷ xs) all x (zero, h, e) = subst (λ z. p z ≡ true) e (both (p y) (list_all p xs) all).0
all_at p (y ∷ xs) all x (suc n, h, e) = all_at p xs (both (p y) (list_all p xs) all).1 x (n, omega (arith, h), e)

-- one test leads to another
pub all_as : {X : Type 0} (p q : X → Bool) (xs : List X) → ((x : X) → p x ≡ true → q x ≡ true) → list_all p xs ≡ true → list_all q xs ≡ true
all_as p q [] leads all = refl
all_as p q (x ∷ xs) leads all =
    let b = both (p x) (list_all p xs) all in and_true (q x) (list_all q xs) (leads x b.0) (all_as p q xs leads b.1)
