-- Lists that agree place by place.
use Rattle.std.proofs.Common.{◌≡◌, ℕ, zero, suc, ◌<◌, List, [], ◌∷◌, map, length, slice_get, slice_set, ◌≢◌, ◌+◌, ◌≤◌, Some, Contains, refl, sym, ◌∙◌, ap, subst, arith}
use Rattle.std.specs.List.{sum_by}
use Rattle.std.proofs.lemmas.List.Sums.{sum_by-cons}
use Rattle.std.proofs.lemmas.Option.{same_Some, slice_get_within}
use Rattle.cv_mesh.specs.Moving.{Each}

-- the element at a place of a list
pub at_place : {X : Type 0} (xs : List X) (n : ℕ) → n < length xs → (x : X) × (slice_get xs n ≡ Some x)
at_place [] n h = absurd (omega (arith, h))
at_place (x ∷ xs) zero h = (x, refl)
at_place (x ∷ xs) (suc n) h = at_place xs n (omega (arith, h))

pub same_maps : {X Y Z : Type 0} (f : X → Z) (g : Y → Z) (xs : List X) (ys : List Y) → length ys ≡ length xs → ((i : ℕ) (x : X) → slice_get xs i ≡ Some x → (y : Y) × (slice_get ys i ≡ Some y) × (g y ≡ f x)) → map g ys ≡ map f xs
same_maps f g [] [] long same = refl
same_maps f g [] (y ∷ ys) long same = absurd (omega (arith, long))
same_maps f g (x ∷ xs) [] long same = absurd (omega (arith, long))
same_maps f g (x ∷ xs) (y ∷ ys) long same =
    let first = same zero x refl in
    let head : g y ≡ f x = ap g (same_Some y first.0 first.1) ∙ first.2 in
    let tail = same_maps f g xs ys (omega (arith, long)) (λ i z at. same (suc i) z at) in
    ap (λ z. z ∷ map g ys) head ∙ ap (λ zs. f x ∷ zs) tail

pub same_map : {X Y : Type 0} (f : X → Y) (xs ys : List X) → length ys ≡ length xs → ((i : ℕ) (x : X) → slice_get xs i ≡ Some x → (y : X) × (slice_get ys i ≡ Some y) × (f y ≡ f x)) → map f ys ≡ map f xs
same_map f xs ys long same = same_maps f f xs ys long same

pub contains_map : {X Y : Type 0} (f : X → Y) (xs : List X) (x : X) → Contains xs x → Contains (map f xs) (f x)
contains_map f [] x c = absurd (omega (arith, c.1))
contains_map f (y ∷ xs) x (zero, h, e) = (zero, omega arith, ap f e)
contains_map f (y ∷ xs) x (suc n, h, e) =
    let c = contains_map f xs x (n, omega (arith, h), e) in (suc c.0, omega (arith, c.1), c.2)

pub contains_at : {X : Type 0} (xs : List X) (i : ℕ) (x : X) → slice_get xs i ≡ Some x → Contains xs x
contains_at [] i x at = absurd (cc)
contains_at (y ∷ xs) zero x at = (zero, omega arith, same_Some y x at)
contains_at (y ∷ xs) (suc i) x at = let c = contains_at xs i x at in (suc c.0, omega (arith, c.1), c.2)

pub map_again : {X Y Z : Type 0} (g : Y → Z) (f : X → Y) (xs : List X) → map g (map f xs) ≡ map (λ x. g (f x)) xs
map_again g f [] = refl
map_again g f (x ∷ xs) = ap (λ zs. g (f x) ∷ zs) (map_again g f xs)

-- an element stands at some place
pub place_of : {X : Type 0} (xs : List X) (x : X) → Contains xs x → (i : ℕ) × (slice_get xs i ≡ Some x)
place_of [] x c = absurd (omega (arith, c.1))
place_of (y ∷ xs) x (zero, h, e) = (zero, ap Some e)
place_of (y ∷ xs) x (suc n, h, e) = let p = place_of xs x (n, omega (arith, h), e) in (suc p.0, p.1)

-- an element of a mapped list is that of one that was mapped
pub mapped_at : {X Y : Type 0} (f : X → Y) (xs : List X) (i : ℕ) (y : Y) → slice_get (map f xs) i ≡ Some y → (x : X) × (slice_get xs i ≡ Some x) × (f x ≡ y)
mapped_at f [] i y at = absurd (cc)
mapped_at f (x ∷ xs) zero y at = (x, refl, same_Some (f x) y at)
mapped_at f (x ∷ xs) (suc i) y at = mapped_at f xs i y at

-- 2. One place set

pub got_here : {X : Type 0} (xs : List X) (i : ℕ) (y : X) → i < length xs → slice_get (slice_set xs i y) i ≡ Some y
got_here [] i y h = absurd (omega (arith, h))
got_here (x ∷ xs) zero y h = refl
got_here (x ∷ xs) (suc i) y h = got_here xs i y (omega (arith, h))

pub got_other : {X : Type 0} (xs : List X) (i j : ℕ) (y : X) → j ≢ i → slice_get (slice_set xs i y) j ≡ slice_get xs j
got_other [] i j y other = refl
got_other (x ∷ xs) zero zero y other = absurd (other refl)
got_other (x ∷ xs) zero (suc j) y other = refl
got_other (x ∷ xs) (suc i) zero y other = refl
got_other (x ∷ xs) (suc i) (suc j) y other = got_other xs i j y (λ same. other (ap suc same))

pub length_set : {X : Type 0} (xs : List X) (i : ℕ) (y : X) → length (slice_set xs i y) ≡ length xs
length_set [] i y = refl
length_set (x ∷ xs) zero y = refl
length_set (x ∷ xs) (suc i) y = ap suc (length_set xs i y)

-- 3. Place by place

pub each_self : {X : Type 0} (R : X → X → Type 0) → ((x : X) → R x x) → (xs : List X) → Each R xs xs
each_self R same xs = record { long = refl; all = λ i x at. (x, at, same x) }

pub each_then : {X : Type 0} (R S T : X → X → Type 0) → ((x y z : X) → R x y → S y z → T x z) → (xs ys zs : List X) → Each R xs ys → Each S ys zs → Each T xs zs
each_then R S T both xs ys zs first second = record {
  long = second.long ∙ first.long;
  all = λ i x at.
      let y = first.all i x at in
      let z = second.all i y.0 y.1 in (z.0, z.1, both x y.0 z.0 y.2 z.2);
}

pub each_as : {X : Type 0} (R S : X → X → Type 0) → ((x y : X) → R x y → S x y) → (xs ys : List X) → Each R xs ys → Each S xs ys
each_as R S becomes xs ys each = record {
  long = each.long;
  all = λ i x at. let y = each.all i x at in (y.0, y.1, becomes x y.0 y.2);
}

-- where the element at a place comes from
pub each_back : {X : Type 0} (R : X → X → Type 0) (xs ys : List X) → Each R xs ys → (i : ℕ) (y : X) → slice_get ys i ≡ Some y → (x : X) × (slice_get xs i ≡ Some x) × R x y
each_back R xs ys each i y at =
    let h = slice_get_within ys i y at in
    let x = at_place xs i (omega (arith, h, each.long)) in
    let z = each.all i x.0 x.1 in
    (x.0, x.1, subst (R x.0) (same_Some z.0 y (sym z.1 ∙ at)) z.2)

set_at : {X : Type 0} (R : X → X → Type 0) → ((x : X) → R x x) → (xs : List X) (i : ℕ) (y : X) → ((x : X) → slice_get xs i ≡ Some x → R x y) → (j : ℕ) (x : X) → slice_get xs j ≡ Some x → (z : X) × (slice_get (slice_set xs i y) j ≡ Some z) × R x z
set_at R same [] i y becomes j x at = absurd (cc)
set_at R same (w ∷ xs) zero y becomes zero x at = (y, refl, becomes x at)
set_at R same (w ∷ xs) zero y becomes (suc j) x at = (x, at, same x)
set_at R same (w ∷ xs) (suc i) y becomes zero x at = (x, at, same x)
set_at R same (w ∷ xs) (suc i) y becomes (suc j) x at = set_at R same xs i y becomes j x at

pub each_set : {X : Type 0} (R : X → X → Type 0) → ((x : X) → R x x) → (xs : List X) (i : ℕ) (y : X) → ((x : X) → slice_get xs i ≡ Some x → R x y) → Each R xs (slice_set xs i y)
each_set R same xs i y becomes = record { long = length_set xs i y; all = set_at R same xs i y becomes }

-- 4. Sums

pub sums_up : {X : Type 0} (f g : X → ℕ) (xs ys : List X) → length ys ≡ length xs → ((i : ℕ) (x : X) → slice_get xs i ≡ Some x → (y : X) × (slice_get ys i ≡ Some y) × (f y ≡ f x + g y)) → sum_by f ys ≡ sum_by f xs + sum_by g ys
sums_up f g [] [] long up = refl
sums_up f g [] (y ∷ ys) long up = absurd (omega (arith, long))
sums_up f g (x ∷ xs) [] long up = absurd (omega (arith, long))
sums_up {X = X} f g (x ∷ xs) (y ∷ ys) long up =
    let first = up zero x refl in
    let same : y ≡ first.0 = same_Some y first.0 first.1 in
    let head : f y ≡ f x + g y = subst (λ (z : X). f z ≡ f x + g z) (sym same) first.2 in
    let tail = sums_up f g xs ys (omega (arith, long)) (λ i z at. up (suc i) z at) in
    omega (arith, head, tail, sum_by-cons f y ys, sum_by-cons f x xs, sum_by-cons g y ys)

pub sums_below : {X : Type 0} (f g : X → ℕ) (xs ys : List X) → length ys ≡ length xs → ((i : ℕ) (x : X) → slice_get xs i ≡ Some x → (y : X) × (slice_get ys i ≡ Some y) × (f x ≤ g y)) → sum_by f xs ≤ sum_by g ys
sums_below f g [] [] long up = omega arith
sums_below f g [] (y ∷ ys) long up = absurd (omega (arith, long))
sums_below f g (x ∷ xs) [] long up = absurd (omega (arith, long))
sums_below {X = X} f g (x ∷ xs) (y ∷ ys) long up =
    let first = up zero x refl in
    let same : y ≡ first.0 = same_Some y first.0 first.1 in
    let head : f x ≤ g y = subst (λ (z : X). f x ≤ g z) (sym same) first.2 in
    let tail = sums_below f g xs ys (omega (arith, long)) (λ i z at. up (suc i) z at) in
    omega (arith, head, tail, sum_by-cons f x xs, sum_by-cons g y ys)

pub same_sums : {X : Type 0} (f : X → ℕ) (xs ys : List X) → length ys ≡ length xs → ((i : ℕ) (x : X) → slice_get xs i ≡ Some x → (y : X) × (slice_get ys i ≡ Some y) × (f y ≡ f x)) → sum_by f ys ≡ sum_by f xs
same_sums f [] [] long same = refl
same_sums f [] (y ∷ ys) long same = absurd (omega (arith, long))
same_sums f (x ∷ xs) [] long same = absurd (omega (arith, long))
same_sums {X = X} f (x ∷ xs) (y ∷ ys) long same =
    let first = same zero x refl in
    let is : y ≡ first.0 = same_Some y first.0 first.1 in
    let head : f y ≡ f x = subst (λ (z : X). f z ≡ f x) (sym is) first.2 in
    let tail = same_sums f xs ys (omega (arith, long)) (λ i z at. same (suc i) z at) in
    omega (arith, head, tail, sum_by-cons f y ys, sum_by-cons f x xs)
