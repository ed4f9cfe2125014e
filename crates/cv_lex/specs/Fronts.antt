-- What stands at the front of a text that begins at a place.
use Rattle.std.specs.Prelude.{ℕ, ◌+◌, ◌==◌, nat_eq, nat_lt, is_some, false, if◌then◌else◌, Option, Some, None, List, [], ◌∷◌, take, drop, slice_index, ◌<◌}
use Rattle.std.specs.List.{prefix_len, starts_with}
use Rattle.cv_lex.specs.Characters.{dot, greater, minus, quote, slash, star}
use Rattle.cv_lex.specs.declared.lexeme.Sort.TheVariants as sorts
use Rattle.cv_lex.specs.declared.lexeme.LexFault.TheVariants as faults
use Rattle.cv_lex.specs.declared.fronts.Front.{Front}
use Rattle.cv_lex.specs.declared.fronts.Front.TheVariants as fronts
use Rattle.cv_lex.specs.Bytes.{is_blank_byte, is_name_start, is_name_byte, is_digit, is_mark_byte, is_in_line}
use Rattle.cv_lex.specs.Numbers.{int_of}
use Rattle.cv_lex.specs.Spans.{closing, place_of}
use Rattle.cv_lex.specs.Texts.{said_from, bad_of}

-- a name goes as far as letters, digits and `_`, and has at most 64 bytes
abbrev pub name_front : ℕ → List ℕ → Front
name_front at bytes =
    let more = prefix_len is_name_byte (drop 1 bytes) in
    if nat_lt more 64 then fronts.Lexeme sorts.Name more else fronts.Flaw (faults.LongName at)

-- how many bytes a dot and digits have at the front, if they stand there
abbrev pub fraction_len : List ℕ → ℕ
fraction_len bytes =
    let digits = prefix_len is_digit (drop 1 bytes) in
    if slice_index bytes 0 == dot then (if digits == 0 then 0 else digits + 1) else 0

-- an integer with `more` bytes behind its first has 64 signed bits
abbrev pub int_front : ℕ → List ℕ → ℕ → Front
int_front at bytes more =
    if is_some (int_of (take (more + 1) bytes)) then fronts.Lexeme sorts.Int more else fronts.Flaw (faults.WideNumber at)

-- a number goes as far as digits, or as far as digits, a dot and digits
abbrev pub number_front : ℕ → List ℕ → Front
number_front at bytes =
    let more = prefix_len is_digit (drop 1 bytes) in
    let fraction = fraction_len (drop (more + 1) bytes) in
    if fraction == 0 then int_front at bytes more else fronts.Lexeme sorts.Fraction (more + fraction)

-- a `-` begins a number or the mark `->`
abbrev pub minus_front : ℕ → List ℕ → Front
minus_front at bytes =
    if is_digit (slice_index bytes 1) then number_front at bytes
    else (if slice_index bytes 1 == greater then fronts.Lexeme sorts.Mark 1
    else fronts.Flaw (faults.BadChar at))

-- a comment that ends at a place, which `more` bytes separate from its last byte
abbrev pub comment_front : ℕ → ℕ → Option ℕ → Front
comment_front at more None = fronts.Flaw (faults.OpenComment at)
comment_front at more (Some place) = fronts.Blank (place + more)

-- `//` goes to the end of the line, `/*` to the first `*/`
abbrev pub slash_front : ℕ → List ℕ → Front
slash_front at bytes =
    if slice_index bytes 1 == slash then fronts.Blank (prefix_len is_in_line (drop 2 bytes) + 1)
    else (if slice_index bytes 1 == star then comment_front at 3 (place_of 0 (star ∷ slash ∷ []) (drop 2 bytes))
    else fronts.Flaw (faults.BadChar at))

-- a text whose last quote is at a place, by its first bad escape
abbrev pub inside_front : ℕ → ℕ → Option ℕ → Front
inside_front at place None = fronts.Lexeme sorts.Text (place + 1)
inside_front at place (Some bad) = fronts.Flaw (faults.BadEscape (at + (bad + 1)))

-- a text whose last quote is at a place, if it has one
abbrev pub text_front : ℕ → List ℕ → Option ℕ → Front
text_front at inside None = fronts.Flaw (faults.OpenText at)
text_front at inside (Some place) = inside_front at place (bad_of (said_from 0 0 (take place inside)))

-- `"""` goes to the next `"""`, and any other quote begins a text
abbrev pub quote_front : ℕ → List ℕ → Front
quote_front at bytes =
    if starts_with nat_eq bytes (quote ∷ quote ∷ quote ∷ []) then comment_front at 5 (place_of 0 (quote ∷ quote ∷ quote ∷ []) (drop 3 bytes))
    else text_front at (drop 1 bytes) (closing 0 false (drop 1 bytes))

-- what stands at the front, by its first byte
abbrev pub front_of : ℕ → List ℕ → Front
front_of at bytes =
    let first = slice_index bytes 0 in
    if is_blank_byte first then fronts.Blank 0
    else (if is_name_start first then name_front at bytes
    else (if is_digit first then number_front at bytes
    else (if first == minus then minus_front at bytes
    else (if first == quote then quote_front at bytes
    else (if first == slash then slash_front at bytes
    else (if is_mark_byte first then fronts.Lexeme sorts.Mark 0
    else fronts.Flaw (faults.BadChar at)))))))

-- what stands at the front is within the n bytes that there are
abbrev pub IsWithin : ℕ → Front → Type 0
IsWithin n (fronts.Blank more) = more < n
IsWithin n (fronts.Lexeme _ more) = more < n
IsWithin n (fronts.Flaw _) = Unit {0}
