-- The lexemes that bytes spell stand one behind another.
use Rattle.std.proofs.Common.{◌≡◌, ℕ, ◌+◌, ◌<◌, ◌≤◌, Some, Result, Ok, Err, List, [], ◌∷◌, ◌++◌, length, ap, ◌∙◌, subst, arith}
use Rattle.std.specs.Prelude.{Vec, IfOk}
use Rattle.std.proofs.lemmas.List.{length-append}
use Rattle.cv_lex.specs.declared.lexeme.Sort.{Sort}
use Rattle.cv_lex.specs.declared.lexeme.Sort.TheVariants as sorts
use Rattle.cv_lex.specs.declared.lexeme.Lexeme.{Lexeme}
use Rattle.cv_lex.specs.declared.lexeme.LexFault.{LexFault}
use Rattle.cv_lex.specs.Lexemes.{lexemes, Gives, Rise}
use Rattle.cv_lex.specs.Shapes.{IsAt}
use Rattle.cv_lex.specs.Spelling.{SpellsLexemes, nothing, blank, lexeme}
use Rattle.cv_lex.proofs.Spelled.{lexemes_spelled}

-- a lexeme has bytes
has_bytes : (sort : Sort) (front rest : List ℕ) → IsAt (Some sort) front rest → 0 < length front
has_bytes sorts.Name [] rest h = absurd h
has_bytes sorts.Name (b ∷ front) rest h = omega arith
has_bytes sorts.Int [] rest h = absurd h
has_bytes sorts.Int (b ∷ front) rest h = omega arith
has_bytes sorts.Fraction front rest h = omega (arith, ap length h.4 ∙ length-append h.0 (46 ∷ h.1))
has_bytes sorts.Text front rest h = omega (arith, ap length h.0.2)
has_bytes sorts.Mark [] rest h = absurd h
has_bytes sorts.Mark (b ∷ front) rest h = omega arith

-- a start further left
rise-before : (from start end : ℕ) (ls : List Lexeme) → from ≤ start → Rise start ls end → Rise from ls end
rise-before from start end [] h r = omega arith
rise-before from start end (l ∷ ls) h r = (omega (arith, r.0), r.1, r.2)

-- an end that is the same number
rise-end : (from m n : ℕ) (ls : List Lexeme) → m ≡ n → Rise from ls m → Rise from ls n
rise-end from m n ls e r = subst (λ (k : ℕ). Rise from ls k) e r

rising : (at : ℕ) (bytes : List ℕ) (ls : List Lexeme) → SpellsLexemes at bytes ls → Rise at ls (at + length bytes)
rising at bytes ls nothing = omega arith
rising at bytes ls (blank {rest = rest} {lexemes = ms} front s h) =
    rise-before at (at + length front) (at + length (front ++ rest)) ms (omega arith)
    (rise-end (at + length front) (at + length front + length rest) (at + length (front ++ rest)) ms (omega (arith, length-append front rest)) (rising (at + length front) rest ms h))
rising at bytes ls (lexeme {rest = rest} {lexemes = ms} sort front s f h) = (
  omega arith,
  has_bytes sort front rest s.is,
  rise-end (at + length front) (at + length front + length rest) (at + length (front ++ rest)) ms (omega (arith, length-append front rest)) (rising (at + length front) rest ms h),
)

-- an answer's lexemes do
pub gives_rising : {A : Type 0} (answer : Result (Vec Lexeme A) LexFault) (bytes : List ℕ) → Gives answer (lexemes 0 0 bytes) → IfOk answer (λ found. Rise 0 found.items (length bytes))
gives_rising (Ok found) bytes h = rise-end 0 (0 + length bytes) (length bytes) found.items (omega arith) (rising 0 bytes found.items (lexemes_spelled bytes found.items h))
gives_rising (Err fault) bytes h = tt
