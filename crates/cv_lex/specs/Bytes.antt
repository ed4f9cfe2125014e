-- Which bytes a lexeme may begin with and go on with.
use Rattle.std.specs.Prelude.{ℕ, Bool, not, ◌||◌, ◌==◌}
use Rattle.std.specs.Char.{is_ascii_digit, is_ascii_alphabetic}
use Rattle.cv_lex.specs.Characters.{ampersand, backslash, bar, blank, carriage_return, close_brace, close_bracket, close_paren, colon, comma, dot, equals, greater, line_feed, open_brace, open_bracket, open_paren, tab, tilde, underscore}

-- a space, a tab, a carriage return or a line feed
abbrev pub is_blank_byte : ℕ → Bool
is_blank_byte b = (b == blank) || (b == tab) || (b == carriage_return) || (b == line_feed)

-- a letter or `_`
abbrev pub is_name_start : ℕ → Bool
is_name_start b = is_ascii_alphabetic b || (b == underscore)

-- a decimal digit
abbrev pub is_digit : ℕ → Bool
is_digit b = is_ascii_digit b

-- a letter, a digit or `_`
abbrev pub is_name_byte : ℕ → Bool
is_name_byte b = is_name_start b || is_digit b

-- ( ) { } [ ] , : . = > & | ~
abbrev pub is_mark_byte : ℕ → Bool
is_mark_byte b = (b == open_paren) || (b == close_paren) || (b == dot) || (b == comma) || (b == colon) || (b == open_brace) || (b == close_brace) || (b == open_bracket) || (b == close_bracket) || (b == equals) || (b == greater) || (b == ampersand) || (b == bar) || (b == tilde)

-- no `\`
abbrev pub is_plain : ℕ → Bool
is_plain b = not (b == backslash)

-- no line feed
abbrev pub is_in_line : ℕ → Bool
is_in_line b = not (b == line_feed)
