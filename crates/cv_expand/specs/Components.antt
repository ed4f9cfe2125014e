-- The components that a script declares.
use Rattle.std.specs.Prelude.{ℕ, suc, if◌then◌else◌, List, [], ◌∷◌, ◌++◌, Option, Some, None, option_and_then, slice_get}
use Rattle.std.specs.Str.{bytes_eq}
use Rattle.cv_token.specs.declared.pairs.Pair.{Pair}
use Rattle.cv_syntax.specs.declared.tree.Component.{Component}
use Rattle.cv_syntax.specs.declared.tree.Item.{Item}
use Rattle.cv_syntax.specs.declared.tree.Item.TheVariants as items

abbrev pub component_by : Item → List Component
component_by (items.Component c) = c ∷ []
component_by (items.Define d) = []
component_by (items.Rule r) = []
component_by (items.Apply a) = []
component_by (items.Statement s) = []

-- the components, in written order
abbrev pub components_in : List Item → List Component
components_in [] = []
components_in (i ∷ script) = component_by i ++ components_in script

-- the first of these, if there is one
abbrev pub first_in : List Component → Option Component
first_in [] = None
first_in (c ∷ cs) = Some c

-- the first component of a name
abbrev pub component_of : List Component → List ℕ → Option Component
component_of [] name = None
component_of (c ∷ cs) name = if bytes_eq c.name.text name then Some c else component_of cs name

abbrev pub place_by : ℕ → List Component → List (Pair ℕ)
place_by i [] = []
place_by i (c ∷ cs) = record { key = c.name.text; value = i } ∷ place_by i cs

-- which item declares a component of a name, if items count from i
abbrev pub component_places : ℕ → List Item → List (Pair ℕ)
component_places i [] = []
component_places i (x ∷ script) = place_by i (component_by x) ++ component_places (suc i) script

-- the component that the item at a place declares
abbrev pub component_at : List Item → ℕ → Option Component
component_at script place = option_and_then (λ i. first_in (component_by i)) (slice_get script place)
