-- The text that is written for words.
use Rattle.std.specs.Prelude.{◌≡◌, ℕ, ◌==◌, ◌||◌, if◌then◌else◌, List, [], ◌∷◌, ◌++◌, codes, map}
use Rattle.std.specs.Fmt.{signed_decimal}
use Rattle.cv_lex.specs.declared.lexeme.Lexeme.{Lexeme}
use Rattle.cv_lex.specs.declared.word.Mark.{Mark}
use Rattle.cv_lex.specs.declared.word.Mark.TheVariants as marks
use Rattle.cv_lex.specs.declared.word.Reserved.{Reserved}
use Rattle.cv_lex.specs.declared.word.Reserved.TheVariants as reserved
use Rattle.cv_lex.specs.declared.word.Word.{Word}
use Rattle.cv_lex.specs.declared.word.Word.TheVariants as words
use Rattle.cv_lex.specs.Words.{placed_word}
use Rattle.cv_lex.specs.Spelling.{SpellsLexemes}

abbrev pub mark_bytes : Mark → List ℕ
mark_bytes marks.OpenParen = codes "("
mark_bytes marks.CloseParen = codes ")"
mark_bytes marks.OpenBrace = codes "{"
mark_bytes marks.CloseBrace = codes "}"
mark_bytes marks.OpenBracket = codes "["
mark_bytes marks.CloseBracket = codes "]"
mark_bytes marks.Comma = codes ","
mark_bytes marks.Colon = codes ":"
mark_bytes marks.Dot = codes "."
mark_bytes marks.Equals = codes "="
mark_bytes marks.Greater = codes ">"
mark_bytes marks.Ampersand = codes "&"
mark_bytes marks.Bar = codes "|"
mark_bytes marks.Tilde = codes "~"
mark_bytes marks.Arrow = codes "->"

abbrev pub reserved_bytes : Reserved → List ℕ
reserved_bytes reserved.Component = codes "component"
reserved_bytes reserved.Define = codes "define"
reserved_bytes reserved.Rule = codes "rule"
reserved_bytes reserved.Apply = codes "apply"
reserved_bytes reserved.Voidport = codes "voidport"
reserved_bytes reserved.True = codes "true"
reserved_bytes reserved.False = codes "false"
reserved_bytes reserved.Null = codes "null"

-- a byte of a text, behind a `\` if it is `"` or `\`
abbrev pub escape_byte : ℕ → List ℕ
escape_byte b = if (b == 34) || (b == 92) then 92 ∷ b ∷ [] else b ∷ []

-- the bytes of a text, with an escape for each `"` and `\`
abbrev pub escaped : List ℕ → List ℕ
escaped [] = []
escaped (b ∷ bytes) = escape_byte b ++ escaped bytes

-- a text in its quotes
abbrev pub quoted : List ℕ → List ℕ
quoted text = 34 ∷ (escaped text ++ 34 ∷ [])

-- a name and a fraction stand as they are, and an integer in decimal
abbrev pub word_bytes : Word → List ℕ
word_bytes (words.Name name) = name
word_bytes (words.Reserved r) = reserved_bytes r
word_bytes (words.Int n) = signed_decimal n
word_bytes (words.Fraction digits) = digits
word_bytes (words.Text text) = quoted text
word_bytes (words.Mark m) = mark_bytes m

-- words, with a space behind each
abbrev pub written : List Word → List ℕ
written [] = []
written (w ∷ ws) = word_bytes w ++ 32 ∷ written ws

-- the words that the lexemes of a source are
abbrev pub words_in : List ℕ → List Lexeme → List Word
words_in source found = map (λ lexeme. (placed_word source lexeme).word) found

-- the bytes are lexemes that are these words
pub record ReadsAs (bytes : List ℕ) (words : List Word) : Type 0 where
  pub lexemes : List Lexeme
  pub spelled : SpellsLexemes 0 bytes lexemes
  pub same : words_in bytes lexemes ≡ words
