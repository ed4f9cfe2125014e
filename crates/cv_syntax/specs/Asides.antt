-- A script with its places aside, and which texts are a script's.
use Rattle.std.specs.Prelude.{◌≡◌, ℕ, List, map}
use Rattle.cv_lex.specs.declared.lexeme.Lexeme.{Lexeme}
use Rattle.cv_lex.specs.Spelling as lexing
use Rattle.cv_readers.specs.declared.name.Name.{Name}
use Rattle.cv_syntax.specs.declared.tree.Value.{Value}
use Rattle.cv_syntax.specs.declared.tree.Value.TheVariants as values
use Rattle.cv_syntax.specs.declared.tree.Arg.{Arg}
use Rattle.cv_syntax.specs.declared.tree.Declare.{Declare}
use Rattle.cv_syntax.specs.declared.tree.Aim.{Aim}
use Rattle.cv_syntax.specs.declared.tree.Join.{Join}
use Rattle.cv_syntax.specs.declared.tree.Statement.{Statement}
use Rattle.cv_syntax.specs.declared.tree.Statement.TheVariants as statements
use Rattle.cv_syntax.specs.declared.tree.Component.{Component}
use Rattle.cv_syntax.specs.declared.tree.Define.{Define}
use Rattle.cv_syntax.specs.declared.tree.Factor.{Factor, fold-Factor}
use Rattle.cv_syntax.specs.declared.tree.Factor.TheOpen.{Factor-F}
use Rattle.cv_syntax.specs.declared.tree.Factor.TheVariants as factors
use Rattle.cv_syntax.specs.declared.tree.NamedRule.{NamedRule}
use Rattle.cv_syntax.specs.declared.tree.Apply.{Apply}
use Rattle.cv_syntax.specs.declared.tree.Item.{Item}
use Rattle.cv_syntax.specs.declared.tree.Item.TheVariants as items
use Rattle.cv_syntax.specs.declared.tree.Script.{Script}
use Rattle.cv_syntax.specs.Grammar as grammar
use Rattle.cv_syntax.specs.Parsing.{words_of}

-- ---- each place put to 0

abbrev pub name_aside : Name → Name
name_aside name = record { text = name.text; at = 0 }

abbrev pub value_aside : Value → Value
value_aside (values.Literal literal) = values.Literal literal
value_aside (values.Fraction digits) = values.Fraction digits
value_aside (values.Name name) = values.Name (name_aside name)

abbrev pub arg_aside : Arg → Arg
arg_aside arg = record { name = name_aside arg.name; value = value_aside arg.value }

abbrev pub declare_aside : Declare → Declare
declare_aside d = record { name = name_aside d.name; kind = d.kind; args = map arg_aside d.args }

abbrev pub aim_aside : Aim → Aim
aim_aside aim = record { at = 0; target = aim.target }

abbrev pub join_aside : Join → Join
join_aside join = record { at = 0; source = join.source; targets = map aim_aside join.targets }

abbrev pub statement_aside : Statement → Statement
statement_aside (statements.Declare declare) = statements.Declare (declare_aside declare)
statement_aside (statements.Join join) = statements.Join (join_aside join)

-- one level, with what is inside in its place
abbrev pub factor_step_aside : Factor-F Factor → Factor
factor_step_aside (Factor-F.Not x) = factors.Not x
factor_step_aside (Factor-F.Group xss) = factors.Group xss
factor_step_aside (Factor-F.Name name) = factors.Name (name_aside name)
factor_step_aside (Factor-F.Match m) = factors.Match m

abbrev pub factor_aside : Factor → Factor
factor_aside = fold-Factor Factor factor_step_aside

abbrev pub terms_aside : List (List Factor) → List (List Factor)
terms_aside = map (map factor_aside)

abbrev pub component_aside : Component → Component
component_aside c = record {
  name = name_aside c.name;
  args = map name_aside c.args;
  inports = map name_aside c.inports;
  outports = map name_aside c.outports;
  body = map statement_aside c.body;
}

abbrev pub define_aside : Define → Define
define_aside d = record { name = name_aside d.name; value = value_aside d.value }

abbrev pub rule_aside : NamedRule → NamedRule
rule_aside r = record { at = 0; name = name_aside r.name; terms = terms_aside r.terms }

abbrev pub apply_aside : Apply → Apply
apply_aside a = record { at = 0; names = map name_aside a.names; terms = terms_aside a.terms }

abbrev pub item_aside : Item → Item
item_aside (items.Component component) = items.Component (component_aside component)
item_aside (items.Define define) = items.Define (define_aside define)
item_aside (items.Rule rule) = items.Rule (rule_aside rule)
item_aside (items.Apply apply) = items.Apply (apply_aside apply)
item_aside (items.Statement statement) = items.Statement (statement_aside statement)

-- the script with 0 for each place
abbrev pub script_aside : Script → Script
script_aside script = record { items = map item_aside script.items }

-- ---- texts of a script

-- the bytes are lexemes that spell the script, places and all
pub record IsTextOf (script : Script) (bytes : List ℕ) : Type 0 where
  pub lexemes : List Lexeme
  pub lexed : lexing.SpellsLexemes 0 bytes lexemes
  pub spelled : grammar.SpellsTree (words_of bytes lexemes) script

-- some text is the script's
pub record CanBeWritten (script : Script) : Type 0 where
  pub source : List ℕ
  pub is : IsTextOf script source

-- the bytes are a text of the same script, places aside
pub record ReadsBack (script : Script) (bytes : List ℕ) : Type 0 where
  pub again : Script
  pub is : IsTextOf again bytes
  pub same : script_aside again ≡ script_aside script
