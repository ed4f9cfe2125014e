-- What the kinds of flow ask of slots and arguments, and what they make of tokens.
use Rattle.std.specs.Prelude.{ℕ, pos, ◌+ℤ◌, Bool, true, false, nat_le, ◌&&◌, if◌then◌else◌, List, [], ◌∷◌, length, Option, Some, None, int_lt}
use Rattle.std.specs.Ordering.{int_eq}
use Rattle.cv_token.specs.declared.token.Token.{Token}
use Rattle.cv_token.specs.declared.token.Token.TheVariants as token
use Rattle.cv_behave.specs.Values.{are_same, has_fit, is_true, item_of, list_of}

-- the milliseconds of a duration
abbrev pub milliseconds : Token → ℕ
milliseconds (token.Int (pos n)) = n
milliseconds _ = 0

-- above 0
abbrev pub is_positive : Token → Bool
is_positive (token.Int z) = int_lt (pos 0) z
is_positive _ = false

-- ---- std.Sequence

abbrev pub is_below_length : Token → Option (List Token) → Bool
is_below_length (token.Int i) (Some xs) = int_lt i (pos (length xs))
is_below_length _ _ = false

-- a List's element at a place, or null
abbrev pub element : Token → Option (List Token) → Token
element (token.Int (pos n)) (Some xs) = item_of xs n
element _ _ = token.Null

-- ---- flow.Batch: its n is from 1 to 64, and what is no such number counts as 1

abbrev pub batch_size : Token → ℕ
batch_size (token.Int (pos n)) = if nat_le 1 n && nat_le n 64 then n else 1
batch_size _ = 1

-- ---- flow.Unbatch

-- the elements; what is no List has none
abbrev pub elements : Option (List Token) → List Token
elements None = []
elements (Some xs) = xs

abbrev pub is_empty_list : List Token → Bool
is_empty_list [] = true
is_empty_list (x ∷ xs) = false

abbrev pub is_empty : Token → Bool
is_empty rest = is_empty_list (elements (list_of rest))

abbrev pub without_first : List Token → List Token
without_first [] = []
without_first (x ∷ xs) = xs

-- the list of x alone, or of null where that does not fit
abbrev pub alone : Token → List Token
alone x = if has_fit (token.List (x ∷ [])) then x ∷ [] else token.Null ∷ []

abbrev pub taken_apart : Token → Option (List Token) → List Token
taken_apart x (Some xs) = xs
taken_apart x None = alone x

-- ---- flow.Every: c + 1 against n

abbrev pub is_last : Token → Token → Bool
is_last (token.Int c) (token.Int n) = int_eq (c +ℤ pos 1) n
is_last _ _ = false

abbrev pub is_before_last : Token → Token → Bool
is_before_last (token.Int c) (token.Int n) = int_lt (c +ℤ pos 1) n
is_before_last _ _ = false

-- ---- flow.Unzip

abbrev pub first_of_two : Option (List Token) → Token
first_of_two (Some (a ∷ b ∷ [])) = a
first_of_two _ = token.Null

abbrev pub second_of_two : Option (List Token) → Token
second_of_two (Some (a ∷ b ∷ [])) = b
second_of_two _ = token.Null

-- ---- flow.Change

-- there is a last token, and x equals it
abbrev pub is_repeated : List Token → Token → Bool
is_repeated state x = is_true (item_of state 0) && are_same x (item_of state 1)
