-- The numbers that digits spell.
use Rattle.std.specs.Prelude.{ℕ, ℤ, pos, neg_ℤ, ◌+◌, ◌-◌, ◌*◌, ◌^◌, ◌==◌, nat_le, if◌then◌else◌, Option, Some, None, option_map, List, [], ◌∷◌, drop, slice_index}
use Rattle.cv_lex.specs.Characters.{digit_0, minus}

-- the number that decimal digits spell, behind digits that spell n
abbrev pub value_after : ℕ → List ℕ → ℕ
value_after n [] = n
value_after n (d ∷ ds) = value_after (n * 10 + (d - digit_0)) ds

-- the number that decimal digits spell
abbrev pub number_of : List ℕ → ℕ
number_of ds = value_after 0 ds

-- a number that is not above `most`
abbrev pub at_most : ℕ → ℕ → Option ℕ
at_most most n = if nat_le n most then Some n else None

-- digits behind a `-`, if the number has 64 signed bits
abbrev pub below_zero : List ℕ → Option ℤ
below_zero ds = option_map (λ n. neg_ℤ (pos n)) (at_most (2 ^ 63) (number_of ds))

-- digits with no sign, if the number has 64 signed bits
abbrev pub from_zero : List ℕ → Option ℤ
from_zero ds = option_map pos (at_most (2 ^ 63 - 1) (number_of ds))

-- an optional `-` and digits, if the number has 64 signed bits
abbrev pub int_of : List ℕ → Option ℤ
int_of bytes = if slice_index bytes 0 == minus then below_zero (drop 1 bytes) else from_zero bytes
