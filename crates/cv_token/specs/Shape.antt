-- What a tree of tokens is: numbers of 64 signed bits, texts of UTF-8, rising keys; and how deep it nests.
use Rattle.std.specs.Prelude.{ℕ, suc, ◌^◌, max, ℤ, pos, negsuc, List, [], ◌∷◌, Bool, true, ◌&&◌, nat_lt}
use Rattle.std.specs.Ordering.{nat_cmp, is_lt}
use Rattle.std.specs.Cmp.Lexicographic.{slice_cmp}
use Rattle.std.specs.Str.{is_utf8}
use Rattle.cv_token.specs.declared.pairs.Pair.{Pair}
use Rattle.cv_token.specs.declared.token.Token.{Token, fold-Token}
use Rattle.cv_token.specs.declared.token.Token.TheOpen.{Token-F}

-- ---- depth: how many lists and dictionaries stand one inside another

abbrev pub greatest : List ℕ → ℕ
greatest [] = 0
greatest (n ∷ ns) = max n (greatest ns)

abbrev pub greatest_value : List (Pair ℕ) → ℕ
greatest_value [] = 0
greatest_value (p ∷ ps) = max p.value (greatest_value ps)

abbrev pub depth_step : Token-F ℕ → ℕ
depth_step Token-F.Null = 0
depth_step (Token-F.Bool b) = 0
depth_step (Token-F.Int n) = 0
depth_step (Token-F.Text s) = 0
depth_step (Token-F.List ns) = suc (greatest ns)
depth_step (Token-F.Dict ps) = suc (greatest_value ps)

abbrev pub depth : Token → ℕ
depth = fold-Token ℕ depth_step

-- ---- the trees that are tokens

abbrev pub has_64_bits : ℤ → Bool
has_64_bits (pos n) = nat_lt n (2 ^ 63)
has_64_bits (negsuc n) = nat_lt n (2 ^ 63)

abbrev pub all_true : List Bool → Bool
all_true [] = true
all_true (b ∷ bs) = b && all_true bs

-- each key is UTF-8, and each value is a token
abbrev pub all_members : List (Pair Bool) → Bool
all_members [] = true
all_members (p ∷ ps) = is_utf8 p.key && (p.value && all_members ps)

abbrev pub is_below_all : {X : Type 0} → List ℕ → List (Pair X) → Bool
is_below_all k [] = true
is_below_all k (p ∷ ps) = is_lt (slice_cmp nat_cmp k p.key) && is_below_all k ps

-- each key is below those after it, byte by byte
abbrev pub are_rising : {X : Type 0} → List (Pair X) → Bool
are_rising [] = true
are_rising (p ∷ ps) = is_below_all p.key ps && are_rising ps

abbrev pub is_token_step : Token-F Bool → Bool
is_token_step Token-F.Null = true
is_token_step (Token-F.Bool b) = true
is_token_step (Token-F.Int n) = has_64_bits n
is_token_step (Token-F.Text s) = is_utf8 s
is_token_step (Token-F.List bs) = all_true bs
is_token_step (Token-F.Dict ps) = are_rising ps && all_members ps

abbrev pub is_token : Token → Bool
is_token = fold-Token Bool is_token_step
