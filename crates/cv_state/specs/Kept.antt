-- What is made of those elements of a list that pass a test, in order.
use Rattle.std.specs.Prelude.{Bool, if◌then◌else◌, List, ◌∷◌, map, filter, Option, Some, None}

abbrev pub kept : {A B : Type 0} → (A → B) → (A → Bool) → List A → List B
kept f p xs = map f (filter p xs)

-- and of one element
abbrev pub kept_at : {A B : Type 0} → (A → B) → (A → Bool) → Option A → Option B
kept_at f p None = None
kept_at f p (Some x) = if p x then Some (f x) else None

-- it goes before the others
abbrev pub added : {A : Type 0} → Option A → List A → List A
added None xs = xs
added (Some x) xs = x ∷ xs
