-- The readers of literals and expressions, whose lists, dictionaries, parentheses and `~` nest.
use Rattle.std.specs.Prelude.{ℕ, zero, suc, Bool, ◌||◌, if◌then◌else◌, List}
use Rattle.cv_token.specs.declared.pairs.Pair.{Pair}
use Rattle.cv_lex.specs.declared.word.Mark.TheVariants as marks
use Rattle.cv_lex.specs.declared.word.Word.{Word}
use Rattle.cv_readers.specs.Reading.{Reader, ◌>>=◌, too_deep, is_mark, name_at, text_at, first_is, behind}
use Rattle.cv_readers.specs.Combining.{mapped, closed, after, sep, listed}
use Rattle.cv_syntax.specs.declared.tree.Literal.{Literal}
use Rattle.cv_syntax.specs.declared.tree.Literal.TheVariants as literals
use Rattle.cv_syntax.specs.declared.tree.Factor.{Factor}
use Rattle.cv_syntax.specs.declared.tree.Factor.TheVariants as factors
use Rattle.cv_syntax.specs.Small.{scalar_at, match_at, is_name, match_name}

-- ---- literals

-- a list or a dictionary begins
abbrev pub opens : Word → Bool
opens w = is_mark marks.OpenBracket w || is_mark marks.OpenBrace w

-- a literal of one word, or what `nest` reads
abbrev pub literal_with : Reader Literal → Reader Literal
literal_with nest ws = if first_is opens ws then nest ws else scalar_at ws

-- TEXT ":" and what `literal` reads
unfoldable pub pair_with : Reader Literal → Reader (Pair Literal)
pair_with literal ws = text_at ws >>= λ key. mapped (λ value. record { key = key.0; value = value }) (after marks.Colon literal key.1)

-- a list or a dictionary of what `literal` reads
abbrev pub nest_with : Reader Literal → Reader Literal
nest_with literal ws =
    if first_is (is_mark marks.OpenBracket) ws then mapped literals.List (listed marks.CloseBracket literal (behind ws))
    else mapped literals.Dict (after marks.OpenBrace (listed marks.CloseBrace (pair_with literal)) ws)

-- a list or a dictionary, where n levels are left
abbrev pub nest_at : ℕ → Reader Literal
nest_at zero ws = too_deep ws
nest_at (suc n) ws = nest_with (literal_with (nest_at n)) ws

unfoldable pub literal_at : ℕ → Reader Literal
literal_at n = literal_with (nest_at n)

-- ---- expressions

-- `~` or a parenthesis begins
abbrev pub lifts : Word → Bool
lifts w = is_mark marks.Tilde w || is_mark marks.OpenParen w

-- a name, a match, or what `nest` reads
abbrev pub factor_with : Reader Factor → ℕ → Reader Factor
factor_with nest n ws =
    if first_is lifts ws then nest ws
    else (if first_is (is_name match_name) ws then mapped factors.Match (match_at n ws)
    else mapped factors.Name (name_at ws))

-- terms of what `factor` reads
abbrev pub terms_with : Reader Factor → Reader (List (List Factor))
terms_with factor = sep marks.Bar (sep marks.Ampersand factor)

-- "~" and a factor, or terms in parentheses
abbrev pub lift_with : Reader Factor → Reader Factor
lift_with factor ws =
    if first_is (is_mark marks.Tilde) ws then mapped factors.Not (factor (behind ws))
    else mapped factors.Group (closed marks.CloseParen (after marks.OpenParen (terms_with factor) ws))

-- the same, where n levels are left
abbrev pub lift_at : ℕ → Reader Factor
lift_at zero ws = too_deep ws
lift_at (suc n) ws = lift_with (factor_with (lift_at n) n) ws

unfoldable pub factor_at : ℕ → Reader Factor
factor_at n = factor_with (lift_at n) n

unfoldable pub terms_at : ℕ → Reader (List (List Factor))
terms_at n = terms_with (factor_at n)
