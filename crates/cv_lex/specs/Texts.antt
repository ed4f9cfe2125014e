-- What stands between the quotes of a text, and the characters that its escapes say.
use Rattle.std.specs.Prelude.{ℕ, zero, suc, ◌+◌, ◌-◌, ◌*◌, ◌==◌, ◌&&◌, ◌||◌, nat_eq, nat_lt, nat_le, Bool, if◌then◌else◌, Option, Some, None, option_map, option_and_then, Result, Ok, Err, List, [], ◌∷◌, ◌++◌, length, drop, slice_index, encode_utf8}
use Rattle.std.specs.Int.{is_in_range}
use Rattle.std.specs.List.{starts_with}
use Rattle.cv_lex.specs.Characters.{backslash, backspace, capital_a, capital_f, carriage_return, digit_0, digit_9, form_feed, letter_a, letter_b, letter_f, letter_n, letter_r, letter_t, letter_u, line_feed, quote, slash, tab}
use Rattle.cv_lex.specs.declared.escapes.Escape.{Escape}

infixl 10 ◌>>=◌
-- what is read from what was read, if both can be read
abbrev pub ◌>>=◌ : {A B : Type 0} → Option A → (A → Option B) → Option B
read >>= next = option_and_then next read

-- the value of a hexadecimal digit
abbrev pub hex_digit : ℕ → Option ℕ
hex_digit b =
    if is_in_range digit_0 digit_9 b then Some (b - digit_0)
    else (if is_in_range capital_a capital_f b then Some (b - (capital_a - 10))
    else (if is_in_range letter_a letter_f b then Some (b - (letter_a - 10))
    else None))

-- the number of four hexadecimal digits
abbrev pub hex4 : List ℕ → Option ℕ
hex4 bytes = if nat_lt (length bytes) 4 then None else do
  a ← hex_digit (slice_index bytes 0)
  b ← hex_digit (slice_index bytes 1)
  c ← hex_digit (slice_index bytes 2)
  d ← hex_digit (slice_index bytes 3)
  Some (a * 4096 + b * 256 + c * 16 + d)

-- the first half of a pair of surrogates
abbrev pub is_high : ℕ → Bool
is_high unit = nat_le 0xD800 unit && nat_lt unit 0xDC00

-- the second half
abbrev pub is_low : ℕ → Bool
is_low unit = nat_le 0xDC00 unit && nat_lt unit 0xE000

-- a first half, and what is read behind the `\u` that follows it
abbrev pub pair_with : ℕ → Option ℕ → Option Escape
pair_with high None = None
pair_with high (Some low) =
    if is_low low then Some (record { code = 0x10000 + (high - 0xD800) * 0x400 + (low - 0xDC00); len = 11 }) else None

-- a first half, and the bytes behind it
abbrev pub pair_of : ℕ → List ℕ → Option Escape
pair_of high behind =
    if starts_with nat_eq behind (backslash ∷ letter_u ∷ []) then pair_with high (hex4 (drop 2 behind)) else None

-- a unit of sixteen bits, and the bytes behind it; a half alone says no character
abbrev pub unit_escape : ℕ → List ℕ → Option Escape
unit_escape unit behind =
    if is_high unit then pair_of unit behind
    else (if is_low unit then None else Some (record { code = unit; len = 5 }))

-- the character that a letter behind `\` says
abbrev pub short_escape : ℕ → Option ℕ
short_escape b =
    if (b == quote) || (b == backslash) || (b == slash) then Some b
    else (if b == letter_b then Some backspace
    else (if b == letter_f then Some form_feed
    else (if b == letter_n then Some line_feed
    else (if b == letter_r then Some carriage_return
    else (if b == letter_t then Some tab
    else None)))))

-- the escape that begins behind a `\`: its character, and how many bytes it takes there
abbrev pub escape_of : List ℕ → Option Escape
escape_of bytes =
    if length bytes == 0 then None
    else (if slice_index bytes 0 == letter_u then option_and_then (λ unit. unit_escape unit (drop 4 (drop 1 bytes))) (hex4 (drop 1 bytes))
    else option_map (λ c. record { code = c; len = 1 }) (short_escape (slice_index bytes 0)))

-- bytes, and what follows them
abbrev pub with_bytes : List ℕ → Result (List ℕ) ℕ → Result (List ℕ) ℕ
with_bytes front (Ok more) = Ok (front ++ more)
with_bytes front (Err place) = Err place

-- an escape at a place, and what follows it
abbrev pub by_escape : ℕ → Option Escape → (ℕ → Result (List ℕ) ℕ) → Result (List ℕ) ℕ
by_escape at None behind = Err at
by_escape at (Some escape) behind = with_bytes (encode_utf8 escape.code) (behind escape.len)

-- what the bytes from a place on say, where k of them belong to the escape before; or the place of the first bad escape
abbrev pub said_from : ℕ → ℕ → List ℕ → Result (List ℕ) ℕ
said_from at k [] = Ok []
said_from at (suc k) (b ∷ bytes) = said_from (at + 1) k bytes
said_from at zero (b ∷ bytes) =
    if b == backslash then by_escape at (escape_of bytes) (λ k. said_from (at + 1) k bytes)
    else with_bytes (b ∷ []) (said_from (at + 1) zero bytes)

-- the place of the first bad escape
abbrev pub bad_of : Result (List ℕ) ℕ → Option ℕ
bad_of (Ok _) = None
bad_of (Err place) = Some place

-- the bytes that are said
abbrev pub good_of : Result (List ℕ) ℕ → List ℕ
good_of (Ok bytes) = bytes
good_of (Err _) = []

-- what the bytes between the quotes of a text say; nothing where an escape is bad, as it is in no lexeme
abbrev pub said : List ℕ → List ℕ
said inside = good_of (said_from 0 0 inside)
