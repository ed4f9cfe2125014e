-- The words that lexemes are.
use Rattle.std.specs.Prelude.{ℕ, ◌+◌, ◌-◌, ◌==◌, pos, if◌then◌else◌, Option, Some, None, unwrap_or, List, codes, slice_index, slice_range}
use Rattle.std.specs.Str.{bytes_eq}
use Rattle.cv_lex.specs.Characters.{ampersand, bar, close_brace, close_bracket, close_paren, colon, comma, dot, equals, greater, open_brace, open_bracket, open_paren, tilde}
use Rattle.cv_lex.specs.declared.lexeme.Sort.{Sort}
use Rattle.cv_lex.specs.declared.lexeme.Sort.TheVariants as sorts
use Rattle.cv_lex.specs.declared.lexeme.Lexeme.{Lexeme}
use Rattle.cv_lex.specs.declared.word.Mark.{Mark}
use Rattle.cv_lex.specs.declared.word.Mark.TheVariants as marks
use Rattle.cv_lex.specs.declared.word.Reserved.{Reserved}
use Rattle.cv_lex.specs.declared.word.Reserved.TheVariants as reserved
use Rattle.cv_lex.specs.declared.word.Word.{Word}
use Rattle.cv_lex.specs.declared.word.Word.TheVariants as words
use Rattle.cv_lex.specs.declared.word.Placed.{Placed}
use Rattle.cv_lex.specs.Numbers.{int_of}
use Rattle.cv_lex.specs.Texts.{said}

-- the bytes of a lexeme
abbrev pub bytes_of : List ℕ → Lexeme → List ℕ
bytes_of source lexeme = slice_range source lexeme.at (lexeme.at + lexeme.len)

-- the mark that begins with the first byte; `-` begins only `->`
abbrev pub mark_of : List ℕ → Mark
mark_of bytes =
    let first = slice_index bytes 0 in
    if first == open_paren then marks.OpenParen
    else (if first == close_paren then marks.CloseParen
    else (if first == open_brace then marks.OpenBrace
    else (if first == close_brace then marks.CloseBrace
    else (if first == open_bracket then marks.OpenBracket
    else (if first == close_bracket then marks.CloseBracket
    else (if first == comma then marks.Comma
    else (if first == colon then marks.Colon
    else (if first == dot then marks.Dot
    else (if first == equals then marks.Equals
    else (if first == greater then marks.Greater
    else (if first == ampersand then marks.Ampersand
    else (if first == bar then marks.Bar
    else (if first == tilde then marks.Tilde
    else marks.Arrow)))))))))))))

-- the reserved name that a name is
abbrev pub reserved_of : List ℕ → Option Reserved
reserved_of name =
    if bytes_eq name (codes "component") then Some reserved.Component
    else (if bytes_eq name (codes "define") then Some reserved.Define
    else (if bytes_eq name (codes "rule") then Some reserved.Rule
    else (if bytes_eq name (codes "apply") then Some reserved.Apply
    else (if bytes_eq name (codes "voidport") then Some reserved.Voidport
    else (if bytes_eq name (codes "true") then Some reserved.True
    else (if bytes_eq name (codes "false") then Some reserved.False
    else (if bytes_eq name (codes "null") then Some reserved.Null
    else None)))))))

-- a reserved name, or a name
abbrev pub name_word : List ℕ → Option Reserved → Word
name_word bytes (Some word) = words.Reserved word
name_word bytes None = words.Name bytes

-- the bytes between the quotes of a text
abbrev pub inside_of : List ℕ → Lexeme → List ℕ
inside_of source lexeme = slice_range source (lexeme.at + 1) (lexeme.at + lexeme.len - 1)

-- what a lexeme of a sort says, by its bytes and by those between its quotes
abbrev pub word_of : Sort → List ℕ → List ℕ → Word
word_of sorts.Name bytes inside = name_word bytes (reserved_of bytes)
word_of sorts.Int bytes inside = words.Int (unwrap_or (int_of bytes) (pos 0))
word_of sorts.Fraction bytes inside = words.Fraction bytes
word_of sorts.Text bytes inside = words.Text (said inside)
word_of sorts.Mark bytes inside = words.Mark (mark_of bytes)

-- the word that a lexeme of the source is, with its place
abbrev pub placed_word : List ℕ → Lexeme → Placed
placed_word source lexeme = record { word = word_of lexeme.sort (bytes_of source lexeme) (inside_of source lexeme); at = lexeme.at }
