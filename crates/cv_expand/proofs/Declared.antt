-- A component is found by the item that declares it.
use Rattle.std.proofs.Common.{◌≡◌, ℕ, suc, Bool, true, false, if◌then◌else◌, List, [], ◌∷◌, Option, Some, None, option_map, refl, sym, ◌∙◌, ap}
use Rattle.std.specs.Prelude.{option_and_then}
use Rattle.std.specs.Str.{bytes_eq}
use Rattle.cv_syntax.specs.declared.tree.Component.{Component}
use Rattle.cv_syntax.specs.declared.tree.Item.{Item}
use Rattle.cv_syntax.specs.declared.tree.Item.TheVariants as items
use Rattle.cv_expand.specs.Lookup.{lookup}
use Rattle.cv_expand.specs.Components.{components_in, component_of, component_places, component_at}

next_at : (i : Item) (script : List Item) (o : Option ℕ) → option_and_then (component_at (i ∷ script)) (option_map (λ n. suc n) o) ≡ option_and_then (component_at script) o
next_at i script None = refl
next_at i script (Some n) = refl

-- places that count from one further are one further
places-suc : (i : ℕ) (script : List Item) (name : List ℕ) → lookup (component_places (suc i) script) name ≡ option_map (λ n. suc n) (lookup (component_places i script) name)
places-suc i [] name = refl
places-suc i (items.Component c ∷ script) name = rw (places-suc (suc i) script name) (mapped (bytes_eq c.name.text name) i _)
  where
    mapped : (b : Bool) (x : ℕ) (o : Option ℕ) → (if b then Some (suc x) else option_map (λ n. suc n) o) ≡ option_map (λ n. suc n) (if b then Some x else o)
    mapped true x o = refl
    mapped false x o = refl
places-suc i (items.Define d ∷ script) name = places-suc (suc i) script name
places-suc i (items.Rule r ∷ script) name = places-suc (suc i) script name
places-suc i (items.Apply a ∷ script) name = places-suc (suc i) script name
places-suc i (items.Statement s ∷ script) name = places-suc (suc i) script name

either : (b : Bool) (c : Component) (script : List Item) (o : Option ℕ) (q : Option Component) → q ≡ option_and_then (component_at script) o → (if b then Some c else q) ≡ option_and_then (component_at (items.Component c ∷ script)) (if b then Some 0 else option_map (λ n. suc n) o)
either true c script o q e = refl
either false c script o q e = e ∙ sym (next_at (items.Component c) script o)

pub declared_at : (script : List Item) (name : List ℕ) → component_of (components_in script) name ≡ option_and_then (component_at script) (lookup (component_places 0 script) name)
declared_at [] name = refl
declared_at (items.Component c ∷ script) name = rw (places-suc 0 script name) (either (bytes_eq c.name.text name) c script (lookup (component_places 0 script) name) (component_of (components_in script) name) (declared_at script name))
declared_at (items.Define d ∷ script) name = rw (places-suc 0 script name) (declared_at script name ∙ sym (next_at (items.Define d) script (lookup (component_places 0 script) name)))
declared_at (items.Rule r ∷ script) name = rw (places-suc 0 script name) (declared_at script name ∙ sym (next_at (items.Rule r) script (lookup (component_places 0 script) name)))
declared_at (items.Apply a ∷ script) name = rw (places-suc 0 script name) (declared_at script name ∙ sym (next_at (items.Apply a) script (lookup (component_places 0 script) name)))
declared_at (items.Statement s ∷ script) name = rw (places-suc 0 script name) (declared_at script name ∙ sym (next_at (items.Statement s) script (lookup (component_places 0 script) name)))

pub found : (script : List Item) (name : List ℕ) (place : ℕ) → lookup (component_places 0 script) name ≡ Some place → component_of (components_in script) name ≡ component_at script place
found script name place e = declared_at script name ∙ ap (option_and_then (component_at script)) e

pub missing : (script : List Item) (name : List ℕ) → lookup (component_places 0 script) name ≡ None → component_of (components_in script) name ≡ None
missing script name e = declared_at script name ∙ ap (option_and_then (component_at script)) e
