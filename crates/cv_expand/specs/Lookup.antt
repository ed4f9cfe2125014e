-- Values under names: the first of a name counts.
use Rattle.std.specs.Prelude.{ℕ, suc, Bool, true, false, if◌then◌else◌, List, [], ◌∷◌, Option, Some, None, is_some, option_map, slice_get}
use Rattle.std.specs.Str.{bytes_eq}
use Rattle.cv_token.specs.declared.pairs.Pair.{Pair}

-- the first of two that is there
abbrev pub first_of : {X : Type 0} → Option X → Option X → Option X
first_of (Some x) o = Some x
first_of None o = o

-- one thing, or nothing
abbrev pub only_if : {X : Type 0} → Bool → X → List X
only_if b x = if b then x ∷ [] else []

-- the first value of a name
abbrev pub lookup : {X : Type 0} → List (Pair X) → List ℕ → Option X
lookup [] name = None
lookup (p ∷ ps) name = if bytes_eq p.key name then Some p.value else lookup ps name

-- whether a name has a value
abbrev pub binds : {X : Type 0} → List (Pair X) → List ℕ → Bool
binds ps name = is_some (lookup ps name)

-- a place, where it is of that name
abbrev pub place_if : List ℕ → ℕ → List ℕ → Option ℕ
place_if name place n = if bytes_eq name n then Some place else None

-- where the first of a name stands, if places count from i
abbrev pub place_from : {X : Type 0} → ℕ → List (Pair X) → List ℕ → Option ℕ
place_from i [] name = None
place_from i (p ∷ ps) name = if bytes_eq p.key name then Some i else place_from (suc i) ps name

abbrev pub place_of : {X : Type 0} → List (Pair X) → List ℕ → Option ℕ
place_of ps name = place_from 0 ps name

-- whether a text stands in a list
abbrev pub has : List (List ℕ) → List ℕ → Bool
has [] name = false
has (n ∷ ns) name = if bytes_eq n name then true else has ns name

-- the value of the pair at a place
abbrev pub value_at : {X : Type 0} → List (Pair X) → ℕ → Option X
value_at ps place = option_map (λ p. p.value) (slice_get ps place)
