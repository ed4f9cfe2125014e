-- What rows compute on tokens. A slot, an argument or a head that is missing or of another type reads as null, and a
-- result that is undefined or does not fit is null.
use Rattle.std.specs.Prelude.{ℕ, suc, ℤ, pos, ◌+ℤ◌, Bool, true, false, not, nat_le, ◌==◌, ◌&&◌, if◌then◌else◌, List, [], ◌∷◌, length, slice_get, Option, Some, None, unwrap_or}
use Rattle.std.specs.Str.{bytes_eq}
use Rattle.std.specs.Ordering.{int_eq}
use Rattle.cv_token.specs.declared.pairs.Pair.{Pair}
use Rattle.cv_token.specs.declared.token.Token.{Token, fold-Token, out-Token}
use Rattle.cv_token.specs.declared.token.Token.TheOpen.{Token-F}
use Rattle.cv_token.specs.declared.token.Token.TheVariants as token
use Rattle.cv_token.specs.Shape.{depth, is_token, has_64_bits}
use Rattle.cv_token.specs.Spelling.{spelling}

-- ---- slots, arguments, heads

abbrev pub item_of : List Token → ℕ → Token
item_of items i = unwrap_or (slice_get items i) token.Null

abbrev pub is_true : Token → Bool
is_true (token.Bool b) = b
is_true _ = false

-- the token is this number
abbrev pub is_number : ℕ → Token → Bool
is_number n (token.Int (pos m)) = m == n
is_number n _ = false

abbrev pub is_int : Token → Bool
is_int (token.Int z) = true
is_int _ = false

abbrev pub list_step : Token-F Token → Option (List Token)
list_step (Token-F.List xs) = Some xs
list_step _ = None

-- the elements of a List
abbrev pub list_of : Token → Option (List Token)
list_of t = list_step (out-Token t)

-- ---- results

-- the number, or null past 64 signed bits
abbrev pub number : ℤ → Token
number z = if has_64_bits z then token.Int z else token.Null

-- the number after it
abbrev pub next_number : Token → Token
next_number (token.Int z) = number (z +ℤ pos 1)
next_number _ = token.Null

abbrev pub sum_of : Token → Token → Token
sum_of (token.Int x) (token.Int y) = number (x +ℤ y)
sum_of _ _ = token.Null

-- the new value, or the old one where there is none
abbrev pub grown : Token → Token → Token
grown token.Null old = old
grown new old = new

-- a positive number falls by one
abbrev pub fallen : Token → Token
fallen (token.Int (pos (suc n))) = token.Int (pos n)
fallen t = t

-- whether the token is within the bounds of those that are sent
abbrev pub has_fit : Token → Bool
has_fit t = is_token t && (nat_le (depth t) 16 && nat_le (length (spelling t)) 1024)

-- the token, or null where it does not fit
abbrev pub fitted : Token → Token
fitted t = if has_fit t then t else token.Null

abbrev pub all_fit : List Token → Bool
all_fit [] = true
all_fit (t ∷ ts) = has_fit t && all_fit ts

-- each token that is given fits
abbrev pub given_fit : List (Option Token) → Bool
given_fit [] = true
given_fit (None ∷ out) = given_fit out
given_fit (Some t ∷ out) = has_fit t && given_fit out

-- ---- equality of trees

abbrev pub same_bool : Bool → Bool → Bool
same_bool true b = b
same_bool false b = not b

-- each test holds of the token at its place, and there are as many of both
abbrev pub same_items : List (Token → Bool) → List Token → Bool
same_items [] [] = true
same_items (f ∷ fs) (t ∷ ts) = f t && same_items fs ts
same_items _ _ = false

abbrev pub same_pairs : List (Pair (Token → Bool)) → List (Pair Token) → Bool
same_pairs [] [] = true
same_pairs (p ∷ ps) (q ∷ qs) = bytes_eq p.key q.key && (p.value q.value && same_pairs ps qs)
same_pairs _ _ = false

abbrev pub same_level : Token-F (Token → Bool) → Token-F Token → Bool
same_level Token-F.Null Token-F.Null = true
same_level (Token-F.Bool a) (Token-F.Bool b) = same_bool a b
same_level (Token-F.Int a) (Token-F.Int b) = int_eq a b
same_level (Token-F.Text a) (Token-F.Text b) = bytes_eq a b
same_level (Token-F.List fs) (Token-F.List ts) = same_items fs ts
same_level (Token-F.Dict ps) (Token-F.Dict qs) = same_pairs ps qs
same_level _ _ = false

-- whether two tokens are one tree
unfoldable pub are_same : Token → Token → Bool
are_same = fold-Token (Token → Bool) (λ level t. same_level level (out-Token t))
