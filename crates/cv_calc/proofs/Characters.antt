-- A text has as many characters as bytes that begin one.
use Rattle.std.proofs.Common.{◌≡◌, ◌≤◌, ◌<◌, ℕ, suc, ◌+◌, ◌/◌, Bool, true, false, cond, List, [], ◌∷◌, ◌++◌, length, refl, ap, ◌∙◌, arith, ltb-true, zero-add}
use Rattle.std.proofs.lemmas.Bool.Decides.{nat_tests}
use Rattle.std.proofs.lemmas.List.Sums.{sum_by-cons}
use Rattle.std.specs.Prelude.{nat_lt}
use lib.Utf8.{encode, encodes, next}
use Rattle.cv_calc.specs.Values.{begins_character, character_count}

low : (b : ℕ) → b < 128 → begins_character b ≡ true
low b h = grind (arith, nat_tests)

high : (b : ℕ) → 192 ≤ b → begins_character b ≡ true
high b h = grind (arith, nat_tests)

between : (b : ℕ) → 128 ≤ b → b < 192 → begins_character b ≡ false
between b g h = grind (arith, nat_tests)

first : (b : ℕ) (bs : List ℕ) → begins_character b ≡ true → character_count (b ∷ bs) ≡ suc (character_count bs)
first b bs e = sum_by-cons (λ (x : ℕ). cond (begins_character x) 1 0) b bs ∙ ap (λ (x : Bool). cond x 1 0 + character_count bs) e ∙ omega arith

later : (bits : ℕ) (bs : List ℕ) → character_count (next bits ∷ bs) ≡ character_count bs
later bits bs =
    sum_by-cons (λ (x : ℕ). cond (begins_character x) 1 0) (next bits) bs
    ∙ ap (λ (x : Bool). cond x 1 0 + character_count bs) (between (next bits) (omega arith) (omega arith))
    ∙ zero-add (character_count bs)

one : (c : ℕ) (rest : List ℕ) (x y z : Bool) → (x ≡ true → c < 128)
    → character_count (cond x (c ∷ []) (cond y ((192 + c / 64) ∷ next c ∷ []) (cond z ((224 + c / 4096) ∷ next (c / 64) ∷ next c ∷ []) ((240 + c / 262144) ∷ next (c / 4096) ∷ next (c / 64) ∷ next c ∷ []))) ++ rest)
    ≡ suc (character_count rest)
one c rest true y z h = first c rest (low c (h refl))
one c rest false true z h = first (192 + c / 64) (next c ∷ rest) (high (192 + c / 64) (omega arith)) ∙ ap suc (later c rest)
one c rest false false true h =
    first (224 + c / 4096) (next (c / 64) ∷ next c ∷ rest) (high (224 + c / 4096) (omega arith))
    ∙ ap suc (later (c / 64) (next c ∷ rest) ∙ later c rest)
one c rest false false false h =
    first (240 + c / 262144) (next (c / 4096) ∷ next (c / 64) ∷ next c ∷ rest) (high (240 + c / 262144) (omega arith))
    ∙ ap suc (later (c / 4096) (next (c / 64) ∷ next c ∷ rest) ∙ later (c / 64) (next c ∷ rest) ∙ later c rest)

one_more : (c : ℕ) (rest : List ℕ) → character_count (encode c ++ rest) ≡ suc (character_count rest)
unfolding encode
one_more c rest = one c rest (nat_lt c 128) (nat_lt c 2048) (nat_lt c 65536) (ltb-true c 128)

pub counted : (cs : List ℕ) → character_count (encodes cs) ≡ length cs
counted [] = refl
counted (c ∷ cs) = one_more c (encodes cs) ∙ ap suc (counted cs)
