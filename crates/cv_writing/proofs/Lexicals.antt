-- The bytes that are written for a word are a lexeme that is this word.
use Rattle.std.proofs.Common.{◌≡◌, ℕ, ℤ, pos, ◌-◌, true, Option, Some, None, is_some, unwrap_or, Ok, List, ◌∷◌, length, take, drop, refl, ap, ◌∙◌, arith}
use Rattle.cv_lex.specs.declared.lexeme.Sort.{Sort}
use Rattle.cv_lex.specs.declared.lexeme.Sort.TheVariants as sorts
use Rattle.cv_lex.specs.declared.word.Mark.{Mark}
use Rattle.cv_lex.specs.declared.word.Mark.TheVariants as marks
use Rattle.cv_lex.specs.declared.word.Reserved.{Reserved}
use Rattle.cv_lex.specs.declared.word.Reserved.TheVariants as reserved
use Rattle.cv_lex.specs.declared.word.Word.{Word}
use Rattle.cv_lex.specs.declared.word.Word.TheVariants as words
use Rattle.cv_lex.specs.Numbers.{int_of}
use Rattle.cv_lex.specs.Shapes.{IsAt, IsInLimits}
use Rattle.cv_lex.specs.Texts.{said_from, good_of, bad_of}
use Rattle.cv_lex.specs.Words.{reserved_of, name_word, word_of}
use Rattle.cv_writing.specs.Written.{quoted, word_bytes}
use Rattle.cv_writing.proofs.Decimals.{IsWide, decimal_int, int_wide}
use Rattle.cv_writing.proofs.Quotes.{said_back, quoted_text, no_comment, quoted_inner}

-- what stands between the first byte and the last
abbrev pub inner : List ℕ → List ℕ
inner front = take (length front - 2) (drop 1 front)

-- a lexeme of a sort, with what follows it, is this word
pub record Is (sort : Sort) (front rest : List ℕ) (word : Word) : Type 0 where
  pub stands : IsAt (Some sort) front rest
  pub fits : IsInLimits sort front
  pub says : word_of sort front (inner front) ≡ word

-- the sort of the lexeme that is written for a word
abbrev pub sort_of : Word → Sort
sort_of (words.Name name) = sorts.Name
sort_of (words.Reserved r) = sorts.Name
sort_of (words.Int n) = sorts.Int
sort_of (words.Fraction digits) = sorts.Fraction
sort_of (words.Text text) = sorts.Text
sort_of (words.Mark m) = sorts.Mark

-- what is written for a word, with a space behind it, is this word
abbrev pub IsWritable : Word → Type 0
IsWritable word = (rest : List ℕ) → Is (sort_of word) (word_bytes word) (32 ∷ rest) word

reserved_writable : (r : Reserved) → IsWritable (words.Reserved r)
reserved_writable reserved.Component rest = record { stands = search; fits = omega arith; says = refl }
reserved_writable reserved.Define rest = record { stands = search; fits = omega arith; says = refl }
reserved_writable reserved.Rule rest = record { stands = search; fits = omega arith; says = refl }
reserved_writable reserved.Apply rest = record { stands = search; fits = omega arith; says = refl }
reserved_writable reserved.Voidport rest = record { stands = search; fits = omega arith; says = refl }
reserved_writable reserved.True rest = record { stands = search; fits = omega arith; says = refl }
reserved_writable reserved.False rest = record { stands = search; fits = omega arith; says = refl }
reserved_writable reserved.Null rest = record { stands = search; fits = omega arith; says = refl }

mark_writable : (m : Mark) → IsWritable (words.Mark m)
mark_writable marks.OpenParen rest = record { stands = refl; fits = tt; says = refl }
mark_writable marks.CloseParen rest = record { stands = refl; fits = tt; says = refl }
mark_writable marks.OpenBrace rest = record { stands = refl; fits = tt; says = refl }
mark_writable marks.CloseBrace rest = record { stands = refl; fits = tt; says = refl }
mark_writable marks.OpenBracket rest = record { stands = refl; fits = tt; says = refl }
mark_writable marks.CloseBracket rest = record { stands = refl; fits = tt; says = refl }
mark_writable marks.Comma rest = record { stands = refl; fits = tt; says = refl }
mark_writable marks.Colon rest = record { stands = refl; fits = tt; says = refl }
mark_writable marks.Dot rest = record { stands = refl; fits = tt; says = refl }
mark_writable marks.Equals rest = record { stands = refl; fits = tt; says = refl }
mark_writable marks.Greater rest = record { stands = refl; fits = tt; says = refl }
mark_writable marks.Ampersand rest = record { stands = refl; fits = tt; says = refl }
mark_writable marks.Bar rest = record { stands = refl; fits = tt; says = refl }
mark_writable marks.Tilde rest = record { stands = refl; fits = tt; says = refl }
mark_writable marks.Arrow rest = record { stands = (refl, refl); fits = tt; says = refl }

text_writable : (text : List ℕ) → IsWritable (words.Text text)
text_writable text rest =
    let back : said_from 0 0 (inner (quoted text)) ≡ Ok text = ap (said_from 0 0) (quoted_inner text) ∙ said_back 0 text in
    record {
      stands = (quoted_text text, no_comment text rest);
      fits = ap bad_of back;
      says = ap (λ z. words.Text (good_of z)) back;
    }

int_writable : (z : ℤ) → IsWide z → IsWritable (words.Int z)
int_writable z wide rest =
    let d = decimal_int z wide in
    record {
      stands = d.0;
      fits = ap is_some d.1;
      says = ap (λ o. words.Int (unwrap_or o (pos 0))) d.1;
    }

name_writable : (front : List ℕ) (rest : List ℕ) (r : Option Reserved) → reserved_of front ≡ r → IsAt (Some sorts.Name) front rest → IsInLimits sorts.Name front → IsWritable (name_word front r)
name_writable front rest (Some r) e h f = reserved_writable r
name_writable front rest None e h f = λ more. record { stands = h; fits = f; says = ap (name_word front) e }

int_read : (front : List ℕ) (o : Option ℤ) → int_of front ≡ o → is_some o ≡ true → IsWritable (words.Int (unwrap_or o (pos 0)))
int_read front (Some z) e f = int_writable z (int_wide front z e)
int_read front None e f = cc

-- the word of a lexeme can be written
pub word_writable : (sort : Sort) (front rest : List ℕ) → IsAt (Some sort) front rest → IsInLimits sort front → IsWritable (word_of sort front (inner front))
word_writable sorts.Name front rest h f = name_writable front rest (reserved_of front) refl h f
word_writable sorts.Int front rest h f = int_read front (int_of front) refl f
word_writable sorts.Fraction front rest h f = λ more. record { stands = h; fits = tt; says = refl }
word_writable sorts.Text front rest h f = text_writable _
word_writable sorts.Mark front rest h f = mark_writable _
