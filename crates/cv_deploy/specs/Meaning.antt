-- The network that a script stands for.
use Rattle.std.specs.Prelude.{◌≡◌, ℕ, List, [], ◌∷◌, Option, Some, None, Ok}
use Rattle.std.specs.Option.{option_or}
use Rattle.cv_expand.specs.declared.flat.Parts.{Parts}
use Rattle.cv_expand.specs.Meaning.{meaning}
use Rattle.cv_graph.specs.Checks.{checks, AllHold}
use Rattle.cv_graph.specs.Meaning.{IsNetwork}
use Rattle.cv_kinds.specs.Net.{Net}
use Rattle.cv_syntax.specs.declared.tree.Item.{Item}
use Rattle.cv_syntax.specs.declared.tree.Item.TheVariants as items

-- the place of the word `rule` or `apply`
abbrev pub word_by : Item → Option ℕ
word_by (items.Rule r) = Some r.at
word_by (items.Apply a) = Some a.at
word_by (items.Component c) = None
word_by (items.Define d) = None
word_by (items.Statement s) = None

-- the place of the first such word
abbrev pub first_word : List Item → Option ℕ
first_word [] = None
first_word (i ∷ script) = option_or (word_by i) (first_word script)

-- the script is expanded to these parts, of which all checks hold
abbrev pub IsWhole : List Item → Parts → Type 0
IsWhole script parts = (meaning script ≡ Ok parts) × AllHold parts (checks parts)

-- the script has no fault, and its parts make this network
abbrev pub StandsFor : List Item → Net → Type 0
StandsFor script net = (parts : Parts) × IsWhole script parts × IsNetwork parts net × (first_word script ≡ None)
