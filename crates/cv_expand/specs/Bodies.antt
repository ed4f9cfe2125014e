-- What a script is made of, by its bodies: a path leads from the root through declarations of components to a body, and
-- what that body has is there at that path.
use Rattle.std.specs.Prelude.{◌≡◌, ◌↔◌, ◌⊎◌, ℕ, ◌+◌, if◌then◌else◌, List, [], ◌∷◌, ◌++◌, map, Some}
use Rattle.cv_syntax.specs.declared.tree.KindName.TheVariants as kinds
use Rattle.cv_syntax.specs.declared.tree.Declare.{Declare}
use Rattle.cv_syntax.specs.declared.tree.Aim.{Aim}
use Rattle.cv_syntax.specs.declared.tree.Join.{Join}
use Rattle.cv_syntax.specs.declared.tree.Statement.{Statement}
use Rattle.cv_syntax.specs.declared.tree.Statement.TheVariants as statements
use Rattle.cv_syntax.specs.declared.tree.Component.{Component}
use Rattle.cv_syntax.specs.declared.tree.Item.{Item}
use Rattle.cv_expand.specs.declared.flat.Given.{Given}
use Rattle.cv_expand.specs.declared.flat.Actor.{Actor}
use Rattle.cv_expand.specs.declared.flat.Instance.{Instance}
use Rattle.cv_expand.specs.declared.flat.Feed.{Feed}
use Rattle.cv_expand.specs.declared.flat.Parts.{Parts}
use Rattle.cv_expand.specs.declared.path.Step.{Step}
use Rattle.cv_expand.specs.declared.setting.World.{World}
use Rattle.cv_expand.specs.declared.setting.Spot.{Spot}
use Rattle.cv_expand.specs.declared.setting.Seen.{Seen}
use Rattle.cv_expand.specs.Components.{component_of}
use Rattle.cv_expand.specs.Walk.{dotted, actor_at, instance_at, inside, root_spot, source_given, is_value, constant_at, feed_at}
use Rattle.cv_expand.specs.Heads.{rules_in, applies_in, statements_in}
use Rattle.cv_expand.specs.Meaning.{world_of}

-- x is one of these
abbrev pub Among : {X : Type 0} → List X → X → Type 0
Among [] x = ⊥
Among (y ∷ ys) x = (y ≡ x) ⊎ Among ys x

-- no two of these are equal
abbrev pub Distinct : {X : Type 0} → List X → Type 0
Distinct [] = Unit {0}
Distinct (x ∷ xs) = (Among xs x → ⊥) × Distinct xs

-- in a body a statement stands behind these
abbrev pub StandsBehind : List Statement → List Statement → Statement → Type 0
StandsBehind body before x = (after : List Statement) × (body ≡ before ++ x ∷ after)

-- the path of a spot leads from the root to a body: to the root's own, and on from each body to that of a component which is
-- declared in it
pub data Leads (w : World) (root : List Statement) : Spot → List Statement → Type 0 where
  at_root : Leads w root root_spot root
  into : (s : Spot) (body : List Statement) (d : Declare) (name : List ℕ) (c : Component) → Leads w root s body → Among body (statements.Declare d) → d.kind ≡ kinds.Plain name → component_of w.components name ≡ Some c → Leads w root (inside w s d name) c.body

-- ---- what a body has

abbrev pub value_join : Statement → ℕ
value_join (statements.Declare d) = 0
value_join (statements.Join j) = if is_value j.source then 1 else 0

-- how many of these are joins from a value
abbrev pub value_joins : List Statement → ℕ
value_joins [] = 0
value_joins (x ∷ body) = value_join x + value_joins body

-- behind so many joins from a value; no name of the body matters to a join
abbrev pub behind : List Statement → Seen
behind before = record { names = []; constants = value_joins before }

-- a declaration of a kind
abbrev pub DeclaresActor : World → Spot → List Statement → Actor → Type 0
DeclaresActor w s body a =
    (d : Declare) × (first : List ℕ) × (second : List ℕ) × Among body (statements.Declare d) × (d.kind ≡ kinds.Dotted first second)
    × (a ≡ actor_at w s d (dotted first second))

-- a join from a value, the k-th of its body
abbrev pub JoinsConstant : World → Spot → List Statement → Actor → Type 0
JoinsConstant w s body a =
    (before : List Statement) × (j : Join) × (given : Given) × StandsBehind body before (statements.Join j) × (source_given w s j.source ≡ Some given)
    × (a ≡ constant_at s (behind before) j given)

abbrev pub HasActor : World → Spot → List Statement → Actor → Type 0
HasActor w s body a = DeclaresActor w s body a ⊎ JoinsConstant w s body a

-- a declaration of a component
abbrev pub HasInstance : World → Spot → List Statement → Instance → Type 0
HasInstance w s body i =
    (d : Declare) × (name : List ℕ) × (c : Component) × Among body (statements.Declare d) × (d.kind ≡ kinds.Plain name)
    × (component_of w.components name ≡ Some c) × (i ≡ instance_at s d name c)

-- a join to one of its targets
abbrev pub HasFeed : World → Spot → List Statement → Feed → Type 0
HasFeed w s body f =
    (before : List Statement) × (j : Join) × (aim : Aim) × StandsBehind body before (statements.Join j) × Among j.targets aim
    × (f ≡ feed_at s (behind before) j aim)

-- ---- what a script has

-- some path leads from the root of a script to a body that has this
abbrev pub LeadsTo : {X : Type 0} → (World → Spot → List Statement → X → Type 0) → World → List Statement → X → Type 0
LeadsTo Has w root x = (s : Spot) × (body : List Statement) × Leads w root s body × Has w s body x

-- exactly what paths lead to, and the rules and applies as the script has them
pub record IsMadeOf (script : List Item) (parts : Parts) : Type 0 where
  pub actors : (a : Actor) → Among parts.actors a ↔ LeadsTo HasActor (world_of script) (statements_in script) a
  pub instances : (i : Instance) → Among parts.instances i ↔ LeadsTo HasInstance (world_of script) (statements_in script) i
  pub feeds : (f : Feed) → Among parts.feeds f ↔ LeadsTo HasFeed (world_of script) (statements_in script) f
  pub rules : parts.rules ≡ rules_in script
  pub applies : parts.applies ≡ applies_in script

-- the paths of the actors and of the instances
abbrev pub paths : Parts → List (List Step)
paths parts = map (λ a. a.path) parts.actors ++ map (λ i. i.path) parts.instances
