-- Lists of which one element changes, and lists that grow.
use Rattle.std.proofs.Common.{◌≡◌, ℕ, zero, suc, List, [], ◌∷◌, map, Some, refl, sym, ap, ◌∙◌}
use Rattle.std.specs.Prelude.{slice_get, slice_set}
use Rattle.std.proofs.lemmas.Option.{same_Some}

-- a change that the map does not see
pub map_set_same : {X Y : Type 0} (f : X → Y) (xs : List X) (i : ℕ) (x y : X) → slice_get xs i ≡ Some x → f y ≡ f x → map f (slice_set xs i y) ≡ map f xs
map_set_same f [] i x y g e = refl
map_set_same f (z ∷ xs) zero x y g e = ap (λ w. w ∷ map f xs) (e ∙ ap f (sym (same_Some z x g)))
map_set_same f (z ∷ xs) (suc i) x y g e = ap (λ ws. f z ∷ ws) (map_set_same f xs i x y g e)

-- a change of every element that the map does not see
pub map_map_same : {X Y : Type 0} (f : X → Y) (g : X → X) → ((x : X) → f (g x) ≡ f x) → (xs : List X) → map f (map g xs) ≡ map f xs
map_map_same f g same [] = refl
map_map_same f g same (x ∷ xs) = λ i. same x i ∷ map_map_same f g same xs i
