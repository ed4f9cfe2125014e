-- Elements of lists by their numbers.
use Rattle.std.proofs.Common.{◌≡◌, ℕ, zero, suc, ◌+◌, ◌<◌, ◌≤◌, ◌⊎◌, inl, inr, List, [], ◌∷◌, ◌++◌, map, length, slice_get, Some, option_map, refl, sym, ◌∙◌, ap, subst, arith, take, get_or}
use Rattle.std.proofs.lemmas.List.{take_more, map-append}
use Rattle.std.proofs.lemmas.Option.{slice_get-map}
use Rattle.std.specs.List.{AllByRecursion}
use Rattle.cv_expand.specs.Bodies.{Among, Distinct}
use Rattle.cv_expand.proofs.Among.{Among-map}

pub some_same : {X : Type 0} (x y : X) → Some x ≡ Some y → x ≡ y
some_same x y e = cc

pub among_at : {X : Type 0} (xs : List X) (i : ℕ) (x : X) → slice_get xs i ≡ Some x → Among xs x
among_at [] i x e = cc
among_at (y ∷ xs) zero x e = inl (some_same y x e)
among_at (y ∷ xs) (suc i) x e = inr (among_at xs i x e)

pub place_among : {X : Type 0} (xs : List X) (x : X) → Among xs x → (i : ℕ) × (slice_get xs i ≡ Some x)
place_among [] x h = absurd h
place_among (y ∷ xs) x (inl e) = (0, ap Some e)
place_among (y ∷ xs) x (inr h) = let r = place_among xs x h in (suc r.0, r.1)

pub all_at : {X : Type 0} (P : X → Type 0) (xs : List X) (i : ℕ) (x : X) → AllByRecursion P xs → slice_get xs i ≡ Some x → P x
all_at P [] i x h e = cc
all_at P (y ∷ xs) zero x h e = subst P (some_same y x e) h.0
all_at P (y ∷ xs) (suc i) x h e = all_at P xs i x h.1 e

pub all_push : {X : Type 0} (P : X → Type 0) (xs : List X) (x : X) → AllByRecursion P xs → P x → AllByRecursion P (xs ++ x ∷ [])
all_push P [] x h p = (p, tt)
all_push P (y ∷ xs) x h p = (h.0, all_push P xs x h.1 p)

pub map_at : {X Y : Type 0} (f : X → Y) (xs : List X) (i : ℕ) (y : Y) → slice_get (map f xs) i ≡ Some y → (x : X) × (slice_get xs i ≡ Some x) × (f x ≡ y)
map_at f [] i y e = cc
map_at f (x ∷ xs) zero y e = (x, refl, some_same (f x) y e)
map_at f (x ∷ xs) (suc i) y e = map_at f xs i y e

pub at_map : {X Y : Type 0} (f : X → Y) (xs : List X) (i : ℕ) (x : X) → slice_get xs i ≡ Some x → slice_get (map f xs) i ≡ Some (f x)
at_map f xs i x e = slice_get-map f xs i ∙ ap (option_map f) e

-- in a list without repetition an element stands once
pub one_place : {X Y : Type 0} (f : X → Y) (xs : List X) (i j : ℕ) (x y : X) → Distinct (map f xs) → slice_get xs i ≡ Some x → slice_get xs j ≡ Some y → f x ≡ f y → i ≡ j
one_place f [] i j x y apart e g same = cc
one_place f (z ∷ xs) zero zero x y apart e g same = refl
one_place f (z ∷ xs) zero (suc j) x y apart e g same =
    absurd (apart.0 (subst (λ w. Among (map f xs) w) (sym same ∙ ap f (sym (some_same z x e))) (Among-map f xs y (among_at xs j y g))))
one_place f (z ∷ xs) (suc i) zero x y apart e g same =
    absurd (apart.0 (subst (λ w. Among (map f xs) w) (same ∙ ap f (sym (some_same z y g))) (Among-map f xs x (among_at xs i x e))))
one_place f (z ∷ xs) (suc i) (suc j) x y apart e g same = ap suc (one_place f xs i j x y apart.1 e g same)

-- ---- a list behind another

pub at_behind : {X : Type 0} (xs ys : List X) (i : ℕ) (x : X) → slice_get ys i ≡ Some x → slice_get (xs ++ ys) (length xs + i) ≡ Some x
at_behind [] ys i x e = let same : 0 + i ≡ i = omega arith in subst (λ n. slice_get ys n ≡ Some x) (sym same) e
at_behind (y ∷ xs) ys i x e = let same : suc (length xs) + i ≡ suc (length xs + i) = omega arith in subst (λ n. slice_get (y ∷ xs ++ ys) n ≡ Some x) (sym same) (at_behind xs ys i x e)

pub behind_at : {X : Type 0} (xs ys : List X) (i : ℕ) (x : X) → slice_get (xs ++ ys) i ≡ Some x → length xs ≤ i → (j : ℕ) × (slice_get ys j ≡ Some x)
behind_at [] ys i x e h = (i, e)
behind_at (y ∷ xs) ys zero x e h = absurd (omega arith)
behind_at (y ∷ xs) ys (suc i) x e h = let less : length xs ≤ i = omega arith in behind_at xs ys i x e less

pub at_front : {X : Type 0} (xs ys : List X) (i : ℕ) (x : X) → slice_get (xs ++ ys) i ≡ Some x → i < length xs → slice_get xs i ≡ Some x
at_front [] ys i x e h = absurd (omega arith)
at_front (y ∷ xs) ys zero x e h = e
at_front (y ∷ xs) ys (suc i) x e h = let less : i < length xs = omega arith in at_front xs ys i x e less

pub front_at : {X : Type 0} (xs ys : List X) (i : ℕ) (x : X) → slice_get xs i ≡ Some x → slice_get (xs ++ ys) i ≡ Some x
front_at [] ys i x e = cc
front_at (y ∷ xs) ys zero x e = e
front_at (y ∷ xs) ys (suc i) x e = front_at xs ys i x e

-- an element of a list with one more is one of the list, or the last
pub push_at : {X : Type 0} (xs : List X) (y : X) (i : ℕ) (x : X) → slice_get (xs ++ y ∷ []) i ≡ Some x → (slice_get xs i ≡ Some x) ⊎ ((i ≡ length xs) × (y ≡ x))
push_at [] y zero x e = inr (refl, some_same y x e)
push_at [] y (suc i) x e = cc
push_at (z ∷ xs) y zero x e = inl e
push_at (z ∷ xs) y (suc i) x e = one_further (push_at xs y i x e)
  where
    one_further : (slice_get xs i ≡ Some x) ⊎ ((i ≡ length xs) × (y ≡ x)) → (slice_get xs i ≡ Some x) ⊎ ((suc i ≡ suc (length xs)) × (y ≡ x))
    one_further (inl h) = inl h
    one_further (inr h) = inr (ap suc h.0, h.1)

-- the elements up to i + 1 are those up to i and the one at i
pub take_read : {X : Type 0} (xs : List X) (i : ℕ) (x : X) → i < length xs → x ≡ get_or xs i x → take (i + 1) xs ≡ take i xs ++ x ∷ []
take_read xs i x h e = take_more xs i x h ∙ ap (λ y. take i xs ++ y ∷ []) (sym e)

pub map_take_read : {X Y : Type 0} (f : X → Y) (xs : List X) (i : ℕ) (x : X) → i < length xs → x ≡ get_or xs i x → map f (take (i + 1) xs) ≡ map f (take i xs) ++ f x ∷ []
map_take_read f xs i x h e = ap (map f) (take_read xs i x h e) ∙ map-append f (take i xs) (x ∷ [])
