-- When a key is a group, a dot and a field.
use Rattle.std.proofs.Common.{◌≡◌, ◌≢◌, ℕ, ◌==◌, Bool, true, false, ◌&&◌, List, [], ◌∷◌, ◌++◌, refl, rules}
use Rattle.std.specs.Str.{bytes_eq}
use Rattle.std.proofs.lemmas.Slice.Eq.{bytes_eq-Decides}
use Rattle.std.proofs.lemmas.Bool.Decides.{Decides-eqb}

-- a key that does not begin with the group
pub unlike : (key group field : List ℕ) → ((rest : List ℕ) → key ≢ group ++ rest) → false ≡ bytes_eq key (group ++ 46 ∷ field)
unlike key group field h = let g : key ≢ group ++ 46 ∷ field = h (46 ∷ field) in search (rules, bytes_eq-Decides)

same_byte : (b : ℕ) → (b == b) ≡ true
same_byte b = search (rules, Decides-eqb)

-- behind the group stand a dot and the field
pub behind_group : (group field tail : List ℕ) (b : ℕ) → bytes_eq (group ++ b ∷ tail) (group ++ 46 ∷ field) ≡ ((b == 46) && bytes_eq tail field)
behind_group [] field tail b = refl
behind_group (g ∷ group) field tail b = rw (same_byte g) (behind_group group field tail b)

-- nothing stands behind the group
pub bare_group : (group field : List ℕ) → false ≡ bytes_eq group (group ++ 46 ∷ field)
bare_group [] field = refl
bare_group (g ∷ group) field = rw (same_byte g) (bare_group group field)

-- what stands behind a dot decides
pub by_dot : (b : ℕ) (x : Bool) → b ≡ 46 → x ≡ ((b == 46) && x)
by_dot b x e = rw e refl

pub by_other : (b : ℕ) (x : Bool) → b ≢ 46 → (b == 46) ≡ ((b == 46) && x)
by_other b x ne = let e : (b == 46) ≡ false = search (rules, Decides-eqb) in rw e refl
