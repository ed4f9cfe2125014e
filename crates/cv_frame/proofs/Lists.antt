-- Lists, one element further.
use Rattle.std.proofs.Common.{◌≡◌, ℕ, ◌+◌, ◌<◌, ◌≤◌, length, get_or, arith, List, [], ◌∷◌, ◌++◌, map, take, Some, slice_get, sym, ap, ◌∙◌}
use Rattle.std.proofs.lemmas.Option.{slice_get_within, get_or_from_slice_get}
use Rattle.std.proofs.lemmas.List.{get_or-map, length-map, map-append, take_all, take_more}
use Rattle.std.specs.List.{All}

pub taken_more : {X : Type 0} (xs : List X) (i : ℕ) (x : X) → slice_get xs i ≡ Some x → take (i + 1) xs ≡ take i xs ++ x ∷ []
taken_more xs i x e =
    take_more xs i x (slice_get_within xs i x e) ∙ ap (λ y. take i xs ++ y ∷ []) (get_or_from_slice_get xs i x x e)

pub mapped_more : {X Y : Type 0} (f : X → Y) (xs : List X) (i : ℕ) (x : X) → slice_get xs i ≡ Some x → map f (take (i + 1) xs) ≡ map f (take i xs) ++ f x ∷ []
mapped_more f xs i x e = ap (map f) (taken_more xs i x e) ∙ map-append f (take i xs) (x ∷ [])

-- a front that reaches past the end is the whole list
pub all_taken : {X : Type 0} (xs : List X) (i most : ℕ) → length xs ≤ i → i ≤ most → take most xs ≡ take i xs
all_taken xs i most past h = let within : length xs ≤ most = omega arith in take_all most xs within ∙ sym (take_all i xs past)

-- an element that is no value's image stands in no list of images
pub no_image : {X Y : Type 0} (P : X → Type 0) (f : X → Y) (ys : List Y) (i : ℕ) (y : Y) (xs : List X) → i < length ys → y ≡ get_or ys i y → ((x : X) → P x → y ≡ f x → ⊥) → All P xs → ys ≡ map f xs → ⊥
no_image P f ys i y [] within is none all e = absurd (let h = ap length e in omega arith)
no_image P f ys i y (x ∷ xs) within is none all e =
    let short : i < length (x ∷ xs) = omega (arith, ap length e, length-map (x ∷ xs) f) in
    none (get_or (x ∷ xs) i x) (all i x short) (is ∙ ap (λ (l : List _). get_or l i y) e ∙ get_or-map f (x ∷ xs) i x y short)
