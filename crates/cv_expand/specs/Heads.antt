-- What may be wrong at the root before the statements are walked.
use Rattle.std.specs.Prelude.{ℕ, is_none, List, [], ◌∷◌, ◌++◌, map, Option, Some, None}
use Rattle.cv_token.specs.declared.pairs.Pair.{Pair}
use Rattle.cv_readers.specs.declared.name.Name.{Name}
use Rattle.cv_syntax.specs.declared.tree.Value.{Value}
use Rattle.cv_syntax.specs.declared.tree.Value.TheVariants as values
use Rattle.cv_syntax.specs.declared.tree.Define.{Define}
use Rattle.cv_syntax.specs.declared.tree.Apply.{Apply}
use Rattle.cv_syntax.specs.declared.tree.Component.{Component}
use Rattle.cv_syntax.specs.declared.tree.NamedRule.{NamedRule}
use Rattle.cv_syntax.specs.declared.tree.Statement.{Statement}
use Rattle.cv_syntax.specs.declared.tree.Item.{Item}
use Rattle.cv_syntax.specs.declared.tree.Item.TheVariants as items
use Rattle.cv_expand.specs.declared.fault.ExpandFault.{ExpandFault}
use Rattle.cv_expand.specs.declared.fault.ExpandFault.TheVariants as faults
use Rattle.cv_expand.specs.declared.flat.Given.{Given}
use Rattle.cv_expand.specs.declared.flat.Given.TheVariants as givens
use Rattle.cv_expand.specs.Lookup.{only_if, lookup, binds}
use Rattle.cv_expand.specs.Walk.{repeat_faults}

-- ---- what stands at the root

abbrev pub define_by : Item → List Define
define_by (items.Define d) = d ∷ []
define_by (items.Component c) = []
define_by (items.Rule r) = []
define_by (items.Apply a) = []
define_by (items.Statement s) = []

abbrev pub defines_in : List Item → List Define
defines_in [] = []
defines_in (i ∷ script) = define_by i ++ defines_in script

abbrev pub rule_by : Item → List NamedRule
rule_by (items.Rule r) = r ∷ []
rule_by (items.Define d) = []
rule_by (items.Component c) = []
rule_by (items.Apply a) = []
rule_by (items.Statement s) = []

-- the rules, in written order
abbrev pub rules_in : List Item → List NamedRule
rules_in [] = []
rules_in (i ∷ script) = rule_by i ++ rules_in script

abbrev pub rule_names : List Item → List Name
rule_names script = map (λ r. r.name) (rules_in script)

abbrev pub apply_by : Item → List Apply
apply_by (items.Apply a) = a ∷ []
apply_by (items.Define d) = []
apply_by (items.Component c) = []
apply_by (items.Rule r) = []
apply_by (items.Statement s) = []

-- the applies, in written order
abbrev pub applies_in : List Item → List Apply
applies_in [] = []
applies_in (i ∷ script) = apply_by i ++ applies_in script

abbrev pub statement_by : Item → List Statement
statement_by (items.Statement s) = s ∷ []
statement_by (items.Rule r) = []
statement_by (items.Define d) = []
statement_by (items.Component c) = []
statement_by (items.Apply a) = []

-- the body of the root
abbrev pub statements_in : List Item → List Statement
statements_in [] = []
statements_in (i ∷ script) = statement_by i ++ statements_in script

-- ---- constants

-- what a value stands for among the constants before it
abbrev pub constant_of : List (Pair Given) → Value → Option Given
constant_of before (values.Literal literal) = Some (givens.Literal literal)
constant_of before (values.Fraction digits) = Some (givens.Fraction digits)
constant_of before (values.Name name) = lookup before name.text

abbrev pub place_in : ℕ → Value → ℕ
place_in at (values.Name name) = name.at
place_in at (values.Literal literal) = at
place_in at (values.Fraction digits) = at

-- the place of a value that is a name
abbrev pub value_place : Define → ℕ
value_place d = place_in d.name.at d.value

abbrev pub constant_with : Define → Option Given → List (Pair Given)
constant_with d None = []
constant_with d (Some given) = record { key = d.name.text; value = given } ∷ []

-- the constants, each from those before it
abbrev pub constants_from : List (Pair Given) → List Define → List (Pair Given)
constants_from before [] = before
constants_from before (d ∷ ds) = constants_from (before ++ constant_with d (constant_of before d.value)) ds

-- a second constant of a name, or an unknown name as a value
abbrev pub define_fault : List (Pair Given) → Define → List ExpandFault
define_fault before d =
    only_if (binds before d.name.text) (faults.DoubleName d.name.at) ++ only_if (is_none (constant_of before d.value)) (faults.NoArg (value_place d))

abbrev pub define_faults : List (Pair Given) → List Define → List ExpandFault
define_faults before [] = []
define_faults before (d ∷ ds) = define_fault before d ++ define_faults (before ++ constant_with d (constant_of before d.value)) ds

-- ---- components and rules

-- an argument, an inport or an outport that stands twice in a head
abbrev pub head_faults : Component → List ExpandFault
head_faults c = repeat_faults [] c.args ++ (repeat_faults [] c.inports ++ repeat_faults [] c.outports)

abbrev pub component_faults : List (Pair ℕ) → List Component → List ExpandFault
component_faults before [] = []
component_faults before (c ∷ cs) =
    only_if (binds before c.name.text) (faults.DoubleName c.name.at)
    ++ (head_faults c ++ component_faults (before ++ record { key = c.name.text; value = c.name.at } ∷ []) cs)
