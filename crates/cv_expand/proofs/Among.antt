-- What is among several.
use Rattle.std.proofs.Common.{◌≡◌, List, [], ◌∷◌, ◌++◌, ◌⊎◌, inl, inr, refl, ap}
use Rattle.std.specs.Prelude.{map}
use Rattle.cv_expand.specs.Bodies.{Among, Distinct}

pub Among-append_left : {X : Type 0} (xs ys : List X) (x : X) → Among xs x → Among (xs ++ ys) x
Among-append_left [] ys x h = absurd h
Among-append_left (z ∷ xs) ys x (inl e) = inl e
Among-append_left (z ∷ xs) ys x (inr h) = inr (Among-append_left xs ys x h)

pub Among-append_right : {X : Type 0} (xs ys : List X) (x : X) → Among ys x → Among (xs ++ ys) x
Among-append_right [] ys x h = h
Among-append_right (z ∷ xs) ys x h = inr (Among-append_right xs ys x h)

one_further : {X : Type 0} (z x : X) (xs ys : List X) → Among xs x ⊎ Among ys x → Among (z ∷ xs) x ⊎ Among ys x
one_further z x xs ys (inl h) = inl (inr h)
one_further z x xs ys (inr h) = inr h

pub Among-append_cases : {X : Type 0} (xs ys : List X) (x : X) → Among (xs ++ ys) x → Among xs x ⊎ Among ys x
Among-append_cases [] ys x h = inr h
Among-append_cases (z ∷ xs) ys x (inl e) = inl (inl e)
Among-append_cases (z ∷ xs) ys x (inr h) = one_further z x xs ys (Among-append_cases xs ys x h)

pub Among-map : {X Y : Type 0} (f : X → Y) (xs : List X) (x : X) → Among xs x → Among (map f xs) (f x)
Among-map f [] x h = absurd h
Among-map f (z ∷ xs) x (inl e) = inl (ap f e)
Among-map f (z ∷ xs) x (inr h) = inr (Among-map f xs x h)

pub Among-map_cases : {X Y : Type 0} (f : X → Y) (xs : List X) (y : Y) → Among (map f xs) y → (x : X) × Among xs x × (f x ≡ y)
Among-map_cases f [] y h = absurd h
Among-map_cases f (z ∷ xs) y (inl e) = (z, inl refl, e)
Among-map_cases f (z ∷ xs) y (inr h) = let r = Among-map_cases f xs y h in (r.0, inr r.1, r.2)

neither : {X : Type 0} (xs ys : List X) (x : X) → (Among xs x → ⊥) → (Among ys x → ⊥) → Among xs x ⊎ Among ys x → ⊥
neither xs ys x left right (inl h) = left h
neither xs ys x left right (inr h) = right h

pub Distinct-append : {X : Type 0} (xs ys : List X) → Distinct xs → Distinct ys → ((x : X) → Among xs x → Among ys x → ⊥) → Distinct (xs ++ ys)
Distinct-append [] ys left right apart = right
Distinct-append (z ∷ xs) ys left right apart =
    (λ h. neither xs ys z left.0 (apart z (inl refl)) (Among-append_cases xs ys z h), Distinct-append xs ys left.1 right (λ x h. apart x (inr h)))
