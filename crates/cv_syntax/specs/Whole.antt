-- The readers of statements, components and scripts.
use Rattle.std.specs.Prelude.{ℕ, Bool, true, false, not, if◌then◌else◌, List, Option, Some, None, Ok}
use Rattle.cv_lex.specs.declared.word.Mark.TheVariants as marks
use Rattle.cv_lex.specs.declared.word.Reserved.TheVariants as reserved
use Rattle.cv_lex.specs.declared.word.Word.{Word}
use Rattle.cv_lex.specs.declared.word.Word.TheVariants as words
use Rattle.cv_readers.specs.declared.name.Name.{Name}
use Rattle.cv_readers.specs.Reading.{Reader, ◌>>=◌, word_at, is_mark, is_reserved, reserved_at, name_at, bare_at, place_of, first_is, behind}
use Rattle.cv_readers.specs.Combining.{mapped, closed, after, many, sep, listed}
use Rattle.cv_syntax.specs.declared.tree.Value.{Value}
use Rattle.cv_syntax.specs.declared.tree.Value.TheVariants as values
use Rattle.cv_syntax.specs.declared.tree.Arg.{Arg}
use Rattle.cv_syntax.specs.declared.tree.Declare.{Declare}
use Rattle.cv_syntax.specs.declared.tree.JoinSource.{JoinSource}
use Rattle.cv_syntax.specs.declared.tree.JoinSource.TheVariants as sources
use Rattle.cv_syntax.specs.declared.tree.Join.{Join}
use Rattle.cv_syntax.specs.declared.tree.Statement.{Statement}
use Rattle.cv_syntax.specs.declared.tree.Statement.TheVariants as statements
use Rattle.cv_syntax.specs.declared.tree.Component.{Component}
use Rattle.cv_syntax.specs.declared.tree.Define.{Define}
use Rattle.cv_syntax.specs.declared.tree.NamedRule.{NamedRule}
use Rattle.cv_syntax.specs.declared.tree.Apply.{Apply}
use Rattle.cv_syntax.specs.declared.tree.Item.{Item}
use Rattle.cv_syntax.specs.declared.tree.Item.TheVariants as items
use Rattle.cv_syntax.specs.Small.{kind_at, aim_at, is_any_name}
use Rattle.cv_syntax.specs.Nested.{literal_at, terms_at}

-- how many levels a literal or an expression may have
abbrev pub most_levels : ℕ
most_levels = 16

-- ---- values and arguments

abbrev pub fraction_in : Word → Option (List ℕ)
fraction_in (words.Fraction digits) = Some digits
fraction_in _ = None

abbrev pub is_fraction : Word → Bool
is_fraction (words.Fraction digits) = true
is_fraction _ = false

abbrev pub fraction_at : Reader (List ℕ)
fraction_at = word_at (λ w. fraction_in w.word)

-- literal | FRACTION | NAME
unfoldable pub value_at : ℕ → Reader Value
value_at n ws =
    if first_is is_fraction ws then mapped values.Fraction (fraction_at ws)
    else (if first_is is_any_name ws then mapped values.Name (name_at ws)
    else mapped values.Literal (literal_at n ws))

-- NAME "=" value
unfoldable pub arg_at : ℕ → Reader Arg
arg_at n ws = name_at ws >>= λ name. mapped (λ value. record { name = name.0; value = value }) (after marks.Equals (value_at n) name.1)

-- ---- statements

-- kind "(" [ args ] ")", behind a name and ":"
unfoldable pub declare_at : ℕ → Name → Reader Declare
declare_at n name ws = kind_at ws >>= λ kind. mapped (λ args. record { name = name; kind = kind.0; args = args }) (after marks.OpenParen (listed marks.CloseParen (arg_at n)) kind.1)

-- ">" targets, behind a source at a place
unfoldable pub join_at : ℕ → JoinSource → Reader Join
join_at at source ws = mapped (λ targets. record { at = at; source = source; targets = targets }) (after marks.Greater (sep marks.Comma aim_at) ws)

-- "." NAME behind a name, or nothing
unfoldable pub port_at : Name → Reader JoinSource
port_at actor ws =
    if first_is (is_mark marks.Dot) ws then mapped (λ port. sources.Port actor.text port) (bare_at (behind ws))
    else Ok (sources.Name actor.text, ws)

-- ":" and a declaration, or a join, behind a name
unfoldable pub named_at : ℕ → Name → Reader Statement
named_at n name ws =
    if first_is (is_mark marks.Colon) ws then mapped statements.Declare (declare_at n name (behind ws))
    else port_at name ws >>= λ source. mapped statements.Join (join_at name.at source.0 source.1)

-- a source that begins with no name
unfoldable pub source_at : ℕ → Reader JoinSource
source_at n ws =
    if first_is (is_reserved reserved.Voidport) ws then Ok (sources.Voidport, behind ws)
    else (if first_is (is_mark marks.Dot) ws then mapped sources.Own (bare_at (behind ws))
    else mapped sources.Literal (literal_at n ws))

-- declare | join
unfoldable pub statement_at : ℕ → Reader Statement
statement_at n ws =
    if first_is is_any_name ws then (name_at ws >>= λ name. named_at n name.0 name.1)
    else source_at n ws >>= λ source. mapped statements.Join (join_at (place_of ws) source.0 source.1)

-- ---- what stands at the root

-- a statement may stand before this word, which does not close the body
abbrev pub is_inside : Word → Bool
is_inside w = not (is_mark marks.CloseBrace w)

-- { statement } "}"
unfoldable pub body_at : ℕ → Reader (List Statement)
body_at n ws = closed marks.CloseBrace (many is_inside (statement_at n) ws)

-- "component" NAME "(" [names] ")" [names] "->" [names] "{" { statement } "}"
unfoldable pub component_at : ℕ → Reader Component
component_at n ws =
    reserved_at reserved.Component ws >>= λ c. name_at c.1
    >>= λ name. after marks.OpenParen (listed marks.CloseParen name_at) name.1
    >>= λ args. listed marks.Arrow name_at args.1
    >>= λ ins. listed marks.OpenBrace name_at ins.1
    >>= λ outs. mapped (λ body. record { name = name.0; args = args.0; inports = ins.0; outports = outs.0; body = body }) (body_at n outs.1)

-- "define" NAME "=" value
unfoldable pub define_at : ℕ → Reader Define
define_at n ws = reserved_at reserved.Define ws >>= λ d. name_at d.1 >>= λ name. mapped (λ value. record { name = name.0; value = value }) (after marks.Equals (value_at n) name.1)

-- "rule" NAME ":" expr
unfoldable pub rule_at : ℕ → Reader NamedRule
rule_at n ws = reserved_at reserved.Rule ws >>= λ r. name_at r.1 >>= λ name. mapped (λ terms. record { at = r.0; name = name.0; terms = terms }) (after marks.Colon (terms_at n) name.1)

-- "apply" names ":" expr
unfoldable pub apply_at : ℕ → Reader Apply
apply_at n ws = reserved_at reserved.Apply ws >>= λ a. sep marks.Comma name_at a.1 >>= λ names. mapped (λ terms. record { at = a.0; names = names.0; terms = terms }) (after marks.Colon (terms_at n) names.1)

-- component | define | rule | apply | statement
unfoldable pub item_at : ℕ → Reader Item
item_at n ws =
    if first_is (is_reserved reserved.Component) ws then mapped items.Component (component_at n ws)
    else (if first_is (is_reserved reserved.Define) ws then mapped items.Define (define_at n ws)
    else (if first_is (is_reserved reserved.Rule) ws then mapped items.Rule (rule_at n ws)
    else (if first_is (is_reserved reserved.Apply) ws then mapped items.Apply (apply_at n ws)
    else mapped items.Statement (statement_at n ws))))

abbrev pub is_anything : Word → Bool
is_anything w = true

-- { item }, to the last word
unfoldable pub items_at : ℕ → Reader (List Item)
items_at n ws = many is_anything (item_at n) ws
