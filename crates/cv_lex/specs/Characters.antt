-- The characters of the grammar, by their names.
use Rattle.std.specs.Prelude.{ℕ}

-- white space
abbrev pub tab : ℕ
tab = 9

abbrev pub line_feed : ℕ
line_feed = 10

abbrev pub carriage_return : ℕ
carriage_return = 13

abbrev pub blank : ℕ
blank = 32

-- what an escape says besides
abbrev pub backspace : ℕ
backspace = 8

abbrev pub form_feed : ℕ
form_feed = 12

-- "
abbrev pub quote : ℕ
quote = 34

-- &
abbrev pub ampersand : ℕ
ampersand = 38

-- ( and )
abbrev pub open_paren : ℕ
open_paren = 40

abbrev pub close_paren : ℕ
close_paren = 41

-- *
abbrev pub star : ℕ
star = 42

-- ,
abbrev pub comma : ℕ
comma = 44

-- -
abbrev pub minus : ℕ
minus = 45

-- .
abbrev pub dot : ℕ
dot = 46

-- /
abbrev pub slash : ℕ
slash = 47

-- :
abbrev pub colon : ℕ
colon = 58

-- =
abbrev pub equals : ℕ
equals = 61

-- >
abbrev pub greater : ℕ
greater = 62

-- [ and ]
abbrev pub open_bracket : ℕ
open_bracket = 91

abbrev pub close_bracket : ℕ
close_bracket = 93

-- \
abbrev pub backslash : ℕ
backslash = 92

-- _
abbrev pub underscore : ℕ
underscore = 95

-- { and }
abbrev pub open_brace : ℕ
open_brace = 123

abbrev pub close_brace : ℕ
close_brace = 125

-- |
abbrev pub bar : ℕ
bar = 124

-- ~
abbrev pub tilde : ℕ
tilde = 126

-- the first and the last digit
abbrev pub digit_0 : ℕ
digit_0 = 48

abbrev pub digit_9 : ℕ
digit_9 = 57

-- the first and the last letters of hexadecimal digits, and the letters of escapes
abbrev pub capital_a : ℕ
capital_a = 65

abbrev pub capital_f : ℕ
capital_f = 70

abbrev pub letter_a : ℕ
letter_a = 97

abbrev pub letter_b : ℕ
letter_b = 98

abbrev pub letter_f : ℕ
letter_f = 102

abbrev pub letter_n : ℕ
letter_n = 110

abbrev pub letter_r : ℕ
letter_r = 114

abbrev pub letter_t : ℕ
letter_t = 116

abbrev pub letter_u : ℕ
letter_u = 117
