-- What the kinds of calculation compute. What is undefined, and what does not fit, is null.
use Rattle.std.specs.Prelude.{ℕ, ℤ, pos, negsuc, ◌-ℤ◌, ◌*ℤ◌, Bool, not, nat_lt, nat_le, ◌||◌, if◌then◌else◌, List, [], ◌∷◌, ◌++◌, codes, count_by, Option, Some, None, Result, Ok, Err, int_div}
use Rattle.std.specs.Ordering.{nat_cmp, int_cmp, int_eq, is_lt, is_le, is_gt, is_ge}
use Rattle.std.specs.declared.cmp.Ordering.{Ordering}
use Rattle.std.specs.Cmp.Lexicographic.{slice_cmp}
use Rattle.std.specs.Str.{bytes_eq}
use Rattle.cv_token.specs.declared.pairs.Pair.{Pair}
use Rattle.cv_token.specs.declared.token.Token.{Token, out-Token}
use Rattle.cv_token.specs.declared.token.Token.TheOpen.{Token-F}
use Rattle.cv_token.specs.declared.token.Token.TheVariants as token
use Rattle.cv_token.specs.declared.fault.TokenFault.{TokenFault}
use Rattle.cv_token.specs.Reading.{reading}
use Rattle.cv_token.specs.Spelling.{spelling}
use Rattle.cv_behave.specs.Values.{are_same, fitted, item_of, number}

-- ---- math

abbrev pub difference_of : Token → Token → Token
difference_of (token.Int a) (token.Int b) = number (a -ℤ b)
difference_of _ _ = token.Null

abbrev pub product_of : Token → Token → Token
product_of (token.Int a) (token.Int b) = number (a *ℤ b)
product_of _ _ = token.Null

-- `int_div` cuts towards zero
abbrev pub quotient : ℤ → ℤ → Token
quotient a b = if int_eq b (pos 0) then token.Null else number (int_div a b)

abbrev pub quotient_of : Token → Token → Token
quotient_of (token.Int a) (token.Int b) = quotient a b
quotient_of _ _ = token.Null

-- a minus b times the quotient, of whatever size that is
abbrev pub remainder : ℤ → ℤ → Token
remainder a b = if int_eq b (pos 0) then token.Null else token.Int (a -ℤ (b *ℤ int_div a b))

abbrev pub remainder_of : Token → Token → Token
remainder_of (token.Int a) (token.Int b) = remainder a b
remainder_of _ _ = token.Null

-- two Ints by size, two Texts by bytes
abbrev pub order_of : Token → Token → Option Ordering
order_of (token.Int a) (token.Int b) = Some (int_cmp a b)
order_of (token.Text a) (token.Text b) = Some (slice_cmp nat_cmp a b)
order_of _ _ = None

abbrev pub ordered : List ℕ → Option Ordering → Token
ordered op None = token.Null
ordered op (Some o) =
    if bytes_eq op (codes "<") then token.Bool (is_lt o)
    else if bytes_eq op (codes "<=") then token.Bool (is_le o)
    else if bytes_eq op (codes ">") then token.Bool (is_gt o)
    else if bytes_eq op (codes ">=") then token.Bool (is_ge o)
    else token.Null

abbrev pub compared : List ℕ → Token → Token → Token
compared op a b =
    if bytes_eq op (codes "=") then token.Bool (are_same a b)
    else if bytes_eq op (codes "!=") then token.Bool (not (are_same a b))
    else ordered op (order_of a b)

abbrev pub comparison_of : Token → Token → Token → Token
comparison_of (token.Text op) a b = compared op a b
comparison_of _ a b = token.Null

-- ---- text

abbrev pub joined_of : Token → Token → Token
joined_of (token.Text a) (token.Text b) = fitted (token.Text (a ++ b))
joined_of _ _ = token.Null

-- a byte that begins a character of UTF-8: those from 128 to 191 go on with one
abbrev pub begins_character : ℕ → Bool
begins_character byte = nat_lt byte 128 || nat_le 192 byte

abbrev pub character_count : List ℕ → ℕ
character_count bytes = count_by begins_character bytes

abbrev pub length_of : Token → Token
length_of (token.Text s) = number (pos (character_count s))
length_of _ = token.Null

-- ---- json

abbrev pub text_of : Token → Token
text_of x = fitted (token.Text (spelling x))

abbrev pub token_or_null : Result Token TokenFault → Token
token_or_null (Ok t) = t
token_or_null (Err e) = token.Null

abbrev pub parsed_of : Token → Token
parsed_of (token.Text s) = fitted (token_or_null (reading s))
parsed_of _ = token.Null

-- the value of a key, or null
abbrev pub value_at : List ℕ → List (Pair Token) → Token
value_at key [] = token.Null
value_at key (p ∷ ps) = if bytes_eq key p.key then p.value else value_at key ps

-- the element at a place, or null
abbrev pub element_at : ℤ → List Token → Token
element_at (pos n) xs = item_of xs n
element_at (negsuc n) xs = token.Null

abbrev pub got_step : Token → Token-F Token → Token
got_step (token.Text key) (Token-F.Dict ps) = value_at key ps
got_step (token.Int place) (Token-F.List xs) = element_at place xs
got_step _ _ = token.Null

abbrev pub got_of : Token → Token → Token
got_of key container = got_step key (out-Token container)

-- ---- logic

abbrev pub negated_of : Token → Token
negated_of (token.Bool b) = token.Bool (not b)
negated_of _ = token.Null
