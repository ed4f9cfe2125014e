-- What contracts see of a table: the map from its keys to their values, and how many more keys have room.
use Rattle.std.specs.Prelude.{ℕ, zero, suc, List, [], ◌∷◌, refl}
use Rattle.std.specs.declared.cmp.Ordering.{Ordering}
use Rattle.std.specs.Coded.{Coded, code_by, coded×, coded_ℕ}
use Rattle.std.specs.FinMap as map

pub record Held {K : Type 0} (R : K → K → Ordering) (V : Type 0) : Type 0 where
  pub map : map.FinMap R V
  pub spare : ℕ

abbrev pub held_code : {K V : Type 0} {R : K → K → Ordering} → Coded K → Coded V → Coded (Held R V)
held_code {K} {V} {R} k v = code_by (map.FinMap R V × ℕ) (coded× (map.code k v) coded_ℕ) (λ h. (h.map, h.spare)) (λ p. record { map = p.0; spare = p.1 }) (λ _. refl)

-- each entry with its value changed
abbrev pub change_entries : {K V W : Type 0} → (V → W) → List (K × V) → List (K × W)
change_entries f [] = []
change_entries f (e ∷ es) = (e.0, f e.1) ∷ change_entries f es

-- the entries with the value at that place changed, where there is one
abbrev pub change_entry : {K V : Type 0} → (V → V) → ℕ → List (K × V) → List (K × V)
change_entry f n [] = []
change_entry f zero (e ∷ es) = (e.0, f e.1) ∷ es
change_entry f (suc n) (e ∷ es) = e ∷ change_entry f n es

-- the map with every value changed
abbrev pub map_values : {K V W : Type 0} {R : K → K → Ordering} → (V → W) → map.FinMap R V → map.FinMap R W
map_values f m = map.from_entries (change_entries f (map.entries m))
