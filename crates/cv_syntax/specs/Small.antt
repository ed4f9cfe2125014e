-- The readers of values that do not nest, one level given.
use Rattle.std.specs.Prelude.{ℕ, Bool, true, false, if◌then◌else◌, ◌-◌, List, Option, Some, None, Ok, codes}
use Rattle.std.specs.Str.{bytes_eq}
use Rattle.cv_token.specs.declared.pairs.Pair.{Pair}
use Rattle.cv_lex.specs.declared.word.Mark.TheVariants as marks
use Rattle.cv_lex.specs.declared.word.Reserved.{Reserved}
use Rattle.cv_lex.specs.declared.word.Reserved.TheVariants as reserved
use Rattle.cv_lex.specs.declared.word.Word.{Word}
use Rattle.cv_lex.specs.declared.word.Word.TheVariants as words
use Rattle.cv_lex.specs.declared.word.Placed.{Placed}
use Rattle.cv_readers.specs.Reading.{Read, Reader, ◌>>=◌, word_at, when, is_mark, is_reserved, bare_at, text_at, open_at, place_of, first_is, behind}
use Rattle.cv_readers.specs.Combining.{mapped, closed, after, listed}
use Rattle.cv_syntax.specs.declared.tree.Literal.{Literal}
use Rattle.cv_syntax.specs.declared.tree.Literal.TheVariants as literals
use Rattle.cv_syntax.specs.declared.tree.KindName.{KindName}
use Rattle.cv_syntax.specs.declared.tree.KindName.TheVariants as kinds
use Rattle.cv_syntax.specs.declared.tree.Target.{Target}
use Rattle.cv_syntax.specs.declared.tree.Target.TheVariants as targets
use Rattle.cv_syntax.specs.declared.tree.Aim.{Aim}
use Rattle.cv_syntax.specs.declared.tree.Match.{Match}

-- ---- literals of one word

abbrev pub constant_in : Reserved → Option Literal
constant_in reserved.Null = Some literals.Null
constant_in reserved.True = Some (literals.Bool true)
constant_in reserved.False = Some (literals.Bool false)
constant_in _ = None

abbrev pub scalar_in : Word → Option Literal
scalar_in (words.Reserved r) = constant_in r
scalar_in (words.Int n) = Some (literals.Int n)
scalar_in (words.Text text) = Some (literals.Text text)
scalar_in _ = None

abbrev pub scalar_at : Reader Literal
scalar_at = word_at (λ w. scalar_in w.word)

-- ---- the parts of declarations and joins

-- what follows the first name of a kind
abbrev pub kind_after : List ℕ × List Placed → Read KindName
kind_after first =
    if first_is (is_mark marks.Dot) first.1 then mapped (λ second. kinds.Dotted first.0 second) (bare_at (behind first.1))
    else Ok (kinds.Plain first.0, first.1)

-- NAME [ "." NAME ]
unfoldable pub kind_at : Reader KindName
kind_at ws = bare_at ws >>= kind_after

-- "voidport" | "." NAME | NAME "." NAME
unfoldable pub target_at : Reader Target
target_at ws =
    if first_is (is_reserved reserved.Voidport) ws then Ok (targets.Voidport, behind ws)
    else (if first_is (is_mark marks.Dot) ws then mapped (λ port. targets.Own port) (bare_at (behind ws))
    else bare_at ws >>= λ actor. mapped (λ port. targets.Port actor.0 port) (after marks.Dot bare_at actor.1))

-- a target with its place
unfoldable pub aim_at : Reader Aim
aim_at ws = mapped (λ target. record { at = place_of ws; target = target }) (target_at ws)

-- ---- the match of an expression

-- whether a word is this name
abbrev pub is_name : List ℕ → Word → Bool
is_name name (words.Name text) = bytes_eq text name
is_name name _ = false

abbrev pub is_any_name : Word → Bool
is_any_name (words.Name text) = true
is_any_name _ = false

abbrev pub match_name : List ℕ
match_name = codes "node_attr_match"

abbrev pub index_name : List ℕ
index_name = codes "index"

-- this name, where it has to stand
abbrev pub exactly_at : List ℕ → Reader (Unit {0})
exactly_at name = word_at (λ w. when (is_name name w.word) tt)

-- TEXT ":" TEXT
unfoldable pub field_at : Reader (Pair (List ℕ))
field_at ws = text_at ws >>= λ key. mapped (λ value. record { key = key.0; value = value }) (after marks.Colon text_at key.1)

-- "{" [ fields ] "}"
unfoldable pub fields_at : ℕ → Reader (List (Pair (List ℕ)))
fields_at levels ws = open_at marks.OpenBrace levels ws >>= λ r. listed marks.CloseBrace field_at r.1

-- TEXT "," fields
unfoldable pub index_at : ℕ → Reader Match
index_at levels ws = text_at ws >>= λ group. mapped (λ fields. record { group = group.0; fields = fields }) (after marks.Comma (fields_at levels) group.1)

-- "[" index "]"
unfoldable pub bracket_at : ℕ → Reader Match
bracket_at levels ws = open_at marks.OpenBracket levels ws >>= λ r. closed marks.CloseBracket (index_at (levels - 1) r.1)

-- "(" "index" "=" bracket ")"
unfoldable pub group_at : ℕ → Reader Match
group_at levels ws = open_at marks.OpenParen levels ws >>= λ r. exactly_at index_name r.1 >>= λ i. closed marks.CloseParen (after marks.Equals (bracket_at (levels - 1)) i.1)

-- "node_attr_match" group
unfoldable pub match_at : ℕ → Reader Match
match_at levels ws = exactly_at match_name ws >>= λ r. group_at levels r.1
