-- That the keys of a list of pairs rise by their bytes.
use Rattle.std.specs.Prelude.{ℕ, List, [], ◌∷◌}
use Rattle.std.specs.Ordering.{nat_cmp}
use Rattle.std.specs.Cmp.Lexicographic.{slice_cmp}
use Rattle.std.specs.List.Sorted.{IsStrictlySortedBy}
use Rattle.cv_token.specs.declared.pairs.Pair.{Pair}

-- the keys, each as its bytes
abbrev pub keys : {T : Type 0} → List (Pair T) → List (List ℕ)
keys [] = []
keys (p ∷ ps) = p.key ∷ keys ps

-- each key is below those after it, byte by byte
abbrev pub Rise : List (List ℕ) → Type 0
Rise ks = IsStrictlySortedBy (slice_cmp nat_cmp) ks

abbrev pub AreRising : {T : Type 0} → List (Pair T) → Type 0
AreRising ps = Rise (keys ps)
