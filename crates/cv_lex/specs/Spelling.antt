-- Which bytes spell which lexemes.
use Rattle.std.specs.Prelude.{ℕ, ◌+◌, Some, None, List, [], ◌∷◌, ◌++◌, length}
use Rattle.cv_lex.specs.declared.lexeme.Sort.{Sort}
use Rattle.cv_lex.specs.declared.lexeme.Lexeme.{Lexeme}
use Rattle.cv_lex.specs.Shapes.{Stands, IsInLimits}

-- the bytes from a place on are white space, comments and these lexemes in turn, each the longest that stands there
pub data SpellsLexemes : ℕ → List ℕ → List Lexeme → Type 0 where
  nothing : {at : ℕ} → SpellsLexemes at [] []
  blank : {at : ℕ} {rest : List ℕ} {lexemes : List Lexeme} (front : List ℕ) → Stands None front rest → SpellsLexemes (at + length front) rest lexemes → SpellsLexemes at (front ++ rest) lexemes
  lexeme : {at : ℕ} {rest : List ℕ} {lexemes : List Lexeme} (sort : Sort) (front : List ℕ) → Stands (Some sort) front rest → IsInLimits sort front → SpellsLexemes (at + length front) rest lexemes → SpellsLexemes at (front ++ rest) (record { sort = sort; at = at; len = length front } ∷ lexemes)
