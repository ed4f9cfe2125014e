-- Where a lexeme stands in a text of UTF-8.
use Rattle.std.specs.Prelude.{◌≡◌, ℕ, ◌+◌, ◌-◌, ◌<◌, ◌≤◌, List, length}
use Rattle.std.specs.Str.{IsCharBoundary}
use Rattle.cv_lex.specs.declared.lexeme.Sort.TheVariants as sorts
use Rattle.cv_lex.specs.declared.lexeme.Lexeme.{Lexeme}
use Rattle.cv_lex.specs.Shapes.{IsInLimits, IsName}
use Rattle.cv_lex.specs.Words.{bytes_of}

-- the lexeme has bytes, they are in the source and keep the limits of their sort, and neither they nor those between the
-- first and the last split a character
pub record IsCut (source : List ℕ) (lexeme : Lexeme) : Type 0 where
  pub some : 0 < lexeme.len
  pub quotes : lexeme.sort ≡ sorts.Text → 2 ≤ lexeme.len
  pub within : lexeme.at + lexeme.len ≤ length source
  pub fits : IsInLimits lexeme.sort (bytes_of source lexeme)
  pub start : IsCharBoundary source lexeme.at
  pub opened : IsCharBoundary source (lexeme.at + 1)
  pub closed : IsCharBoundary source (lexeme.at + lexeme.len - 1)
  pub end : IsCharBoundary source (lexeme.at + lexeme.len)

-- the lexeme of a name is a name
abbrev pub IsNamed : List ℕ → Lexeme → Type 0
IsNamed source lexeme = lexeme.sort ≡ sorts.Name → IsName (bytes_of source lexeme)
