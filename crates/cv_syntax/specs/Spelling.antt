-- The words that spell a script, by cases of the grammar.
use Rattle.std.specs.Prelude.{◌≡◌, ℕ, Bool, true, false, not, ◌&&◌, List, [], ◌∷◌, ◌++◌}
use Rattle.std.specs.List.{AllByRecursion}
use Rattle.std.specs.Str.{bytes_eq}
use Rattle.cv_token.specs.declared.pairs.Pair.{Pair}
use Rattle.cv_lex.specs.declared.word.Mark.TheVariants as marks
use Rattle.cv_lex.specs.declared.word.Reserved.{Reserved}
use Rattle.cv_lex.specs.declared.word.Reserved.TheVariants as reserved
use Rattle.cv_lex.specs.declared.word.Word.TheVariants as words
use Rattle.cv_readers.specs.declared.name.Name.{Name}
use Rattle.cv_readers.specs.Slots.{Slot, just, placed, mark, opening, raise, place_first, all_slots, sep_slots, listed_slots, SomeAll}
use Rattle.cv_syntax.specs.declared.tree.Literal.{Literal, fold-Literal}
use Rattle.cv_syntax.specs.declared.tree.Literal.TheOpen.{Literal-F}
use Rattle.cv_syntax.specs.declared.tree.Value.{Value}
use Rattle.cv_syntax.specs.declared.tree.Value.TheVariants as values
use Rattle.cv_syntax.specs.declared.tree.Arg.{Arg}
use Rattle.cv_syntax.specs.declared.tree.KindName.{KindName}
use Rattle.cv_syntax.specs.declared.tree.KindName.TheVariants as kinds
use Rattle.cv_syntax.specs.declared.tree.Declare.{Declare}
use Rattle.cv_syntax.specs.declared.tree.JoinSource.{JoinSource}
use Rattle.cv_syntax.specs.declared.tree.JoinSource.TheVariants as sources
use Rattle.cv_syntax.specs.declared.tree.Target.{Target}
use Rattle.cv_syntax.specs.declared.tree.Target.TheVariants as targets
use Rattle.cv_syntax.specs.declared.tree.Aim.{Aim}
use Rattle.cv_syntax.specs.declared.tree.Join.{Join}
use Rattle.cv_syntax.specs.declared.tree.Statement.{Statement}
use Rattle.cv_syntax.specs.declared.tree.Statement.TheVariants as statements
use Rattle.cv_syntax.specs.declared.tree.Component.{Component}
use Rattle.cv_syntax.specs.declared.tree.Define.{Define}
use Rattle.cv_syntax.specs.declared.tree.Match.{Match}
use Rattle.cv_syntax.specs.declared.tree.Factor.{Factor, fold-Factor}
use Rattle.cv_syntax.specs.declared.tree.Factor.TheOpen.{Factor-F}
use Rattle.cv_syntax.specs.declared.tree.NamedRule.{NamedRule}
use Rattle.cv_syntax.specs.declared.tree.Apply.{Apply}
use Rattle.cv_syntax.specs.declared.tree.Item.{Item}
use Rattle.cv_syntax.specs.declared.tree.Item.TheVariants as items
use Rattle.cv_syntax.specs.declared.tree.Script.{Script}
use Rattle.cv_syntax.specs.Small.{match_name, index_name}

-- a name at its place
abbrev pub name_slots : Name → List Slot
name_slots name = placed (words.Name name.text) name.at ∷ []

-- a name whose place is not kept
abbrev pub bare_slots : List ℕ → List Slot
bare_slots text = just (words.Name text) ∷ []

-- what stands inside a mark that opens a level
abbrev pub in_level : Slot → List Slot → List Slot
in_level first inner = first ∷ raise inner

-- ---- literals

abbrev pub truth : Bool → Reserved
truth true = reserved.True
truth false = reserved.False

-- TEXT ":" and the words of the value
abbrev pub entry_slots : Pair (List Slot) → List Slot
entry_slots p = just (words.Text p.key) ∷ mark marks.Colon ∷ p.value

abbrev pub literal_step : Literal-F (List Slot) → List Slot
literal_step Literal-F.Null = just (words.Reserved reserved.Null) ∷ []
literal_step (Literal-F.Bool b) = just (words.Reserved (truth b)) ∷ []
literal_step (Literal-F.Int n) = just (words.Int n) ∷ []
literal_step (Literal-F.Text text) = just (words.Text text) ∷ []
literal_step (Literal-F.List xs) = in_level (opening marks.OpenBracket) (listed_slots marks.CloseBracket (λ x. x) xs)
literal_step (Literal-F.Dict ps) = in_level (opening marks.OpenBrace) (listed_slots marks.CloseBrace entry_slots ps)

abbrev pub literal_slots : Literal → List Slot
literal_slots = fold-Literal (List Slot) literal_step

-- ---- values, arguments and declarations

abbrev pub value_slots : Value → List Slot
value_slots (values.Literal literal) = literal_slots literal
value_slots (values.Fraction digits) = just (words.Fraction digits) ∷ []
value_slots (values.Name name) = name_slots name

abbrev pub arg_slots : Arg → List Slot
arg_slots arg = name_slots arg.name ++ mark marks.Equals ∷ value_slots arg.value

abbrev pub kind_slots : KindName → List Slot
kind_slots (kinds.Plain name) = bare_slots name
kind_slots (kinds.Dotted first second) = just (words.Name first) ∷ mark marks.Dot ∷ bare_slots second

abbrev pub declare_slots : Declare → List Slot
declare_slots d = name_slots d.name ++ mark marks.Colon ∷ (kind_slots d.kind ++ mark marks.OpenParen ∷ listed_slots marks.CloseParen arg_slots d.args)

-- ---- joins

-- the words of a source whose first stands at a place
abbrev pub source_slots : ℕ → JoinSource → List Slot
source_slots at sources.Voidport = placed (words.Reserved reserved.Voidport) at ∷ []
source_slots at (sources.Own port) = placed (words.Mark marks.Dot) at ∷ bare_slots port
source_slots at (sources.Port actor port) = placed (words.Name actor) at ∷ mark marks.Dot ∷ bare_slots port
source_slots at (sources.Name name) = placed (words.Name name) at ∷ []
source_slots at (sources.Literal literal) = place_first at (literal_slots literal)

abbrev pub target_slots : Target → List Slot
target_slots targets.Voidport = just (words.Reserved reserved.Voidport) ∷ []
target_slots (targets.Own port) = mark marks.Dot ∷ bare_slots port
target_slots (targets.Port actor port) = just (words.Name actor) ∷ mark marks.Dot ∷ bare_slots port

abbrev pub aim_slots : Aim → List Slot
aim_slots aim = place_first aim.at (target_slots aim.target)

abbrev pub join_slots : Join → List Slot
join_slots join = source_slots join.at join.source ++ mark marks.Greater ∷ sep_slots marks.Comma aim_slots join.targets

abbrev pub statement_slots : Statement → List Slot
statement_slots (statements.Declare declare) = declare_slots declare
statement_slots (statements.Join join) = join_slots join

-- ---- expressions

abbrev pub field_slots : Pair (List ℕ) → List Slot
field_slots p = just (words.Text p.key) ∷ mark marks.Colon ∷ just (words.Text p.value) ∷ []

-- "node_attr_match" "(" "index" "=" "[" TEXT "," "{" fields "}" "]" ")"
abbrev pub index_slots : Match → List Slot
index_slots m = just (words.Text m.group) ∷ mark marks.Comma ∷ in_level (opening marks.OpenBrace) (listed_slots marks.CloseBrace field_slots m.fields)

abbrev pub group_slots : Match → List Slot
group_slots m = just (words.Name index_name) ∷ (mark marks.Equals ∷ in_level (opening marks.OpenBracket) (index_slots m ++ mark marks.CloseBracket ∷ [])) ++ mark marks.CloseParen ∷ []

abbrev pub match_slots : Match → List Slot
match_slots m = just (words.Name match_name) ∷ in_level (opening marks.OpenParen) (group_slots m)

-- factors with "&" between them, terms with "|" between them
abbrev pub expr_slots : {X : Type 0} → (X → List Slot) → List (List X) → List Slot
expr_slots factor = sep_slots marks.Bar (sep_slots marks.Ampersand factor)

abbrev pub factor_step : Factor-F (List Slot) → List Slot
factor_step (Factor-F.Not x) = in_level (opening marks.Tilde) x
factor_step (Factor-F.Group xss) = in_level (opening marks.OpenParen) (expr_slots (λ x. x) xss ++ mark marks.CloseParen ∷ [])
factor_step (Factor-F.Name name) = name_slots name
factor_step (Factor-F.Match m) = match_slots m

abbrev pub factor_slots : Factor → List Slot
factor_slots = fold-Factor (List Slot) factor_step

abbrev pub terms_slots : List (List Factor) → List Slot
terms_slots = expr_slots factor_slots

-- each of these, of which there is one
abbrev pub all_of : List Bool → Bool
all_of [] = true
all_of (b ∷ bs) = b && all_of bs

abbrev pub some_all : List Bool → Bool
some_all [] = false
some_all (b ∷ bs) = b && all_of bs

abbrev pub all_rows : List (List Bool) → Bool
all_rows [] = true
all_rows (bs ∷ bss) = some_all bs && all_rows bss

abbrev pub some_all_rows : List (List Bool) → Bool
some_all_rows [] = false
some_all_rows (bs ∷ bss) = some_all bs && all_rows bss

-- each expression has a term and each term a factor, and the name of a match is no other name
abbrev pub whole_step : Factor-F Bool → Bool
whole_step (Factor-F.Not b) = b
whole_step (Factor-F.Group bss) = some_all_rows bss
whole_step (Factor-F.Name name) = not (bytes_eq name.text match_name)
whole_step (Factor-F.Match m) = true

abbrev pub is_whole : Factor → Bool
is_whole = fold-Factor Bool whole_step

-- ---- what stands at the root

abbrev pub component_slots : Component → List Slot
component_slots c =
    just (words.Reserved reserved.Component) ∷ (name_slots c.name
    ++ (mark marks.OpenParen ∷ listed_slots marks.CloseParen name_slots c.args)
    ++ listed_slots marks.Arrow name_slots c.inports
    ++ listed_slots marks.OpenBrace name_slots c.outports
    ++ (all_slots statement_slots c.body ++ mark marks.CloseBrace ∷ []))

abbrev pub define_slots : Define → List Slot
define_slots d = just (words.Reserved reserved.Define) ∷ (name_slots d.name ++ mark marks.Equals ∷ value_slots d.value)

abbrev pub rule_slots : NamedRule → List Slot
rule_slots r = placed (words.Reserved reserved.Rule) r.at ∷ (name_slots r.name ++ mark marks.Colon ∷ terms_slots r.terms)

abbrev pub apply_slots : Apply → List Slot
apply_slots a = placed (words.Reserved reserved.Apply) a.at ∷ (sep_slots marks.Comma name_slots a.names ++ mark marks.Colon ∷ terms_slots a.terms)

abbrev pub item_slots : Item → List Slot
item_slots (items.Component component) = component_slots component
item_slots (items.Define define) = define_slots define
item_slots (items.Rule rule) = rule_slots rule
item_slots (items.Apply apply) = apply_slots apply
item_slots (items.Statement statement) = statement_slots statement

-- the words of a script, with the places that it keeps and the levels that are open
abbrev pub script_slots : Script → List Slot
script_slots script = all_slots item_slots script.items

-- ---- scripts that can be written

abbrev pub WholeFactor : Factor → Type 0
WholeFactor factor = is_whole factor ≡ true

abbrev pub WholeTerms : List (List Factor) → Type 0
WholeTerms = SomeAll (SomeAll WholeFactor)

-- a name of a list of names
abbrev pub AnyName : Name → Type 0
AnyName name = Unit {0}

abbrev pub AnyAim : Aim → Type 0
AnyAim aim = Unit {0}

abbrev pub WholeStatement : Statement → Type 0
WholeStatement (statements.Declare declare) = Unit {0}
WholeStatement (statements.Join join) = SomeAll AnyAim join.targets

abbrev pub WholeItem : Item → Type 0
WholeItem (items.Component component) = AllByRecursion WholeStatement component.body
WholeItem (items.Define define) = Unit {0}
WholeItem (items.Rule rule) = WholeTerms rule.terms
WholeItem (items.Apply apply) = SomeAll AnyName apply.names × WholeTerms apply.terms
WholeItem (items.Statement statement) = WholeStatement statement

-- each join has a target, each `apply` a name, each expression a term and each term a factor
abbrev pub WholeScript : Script → Type 0
WholeScript script = AllByRecursion WholeItem script.items
