-- The ports of a script, and how its joins lead from one to another.
use Rattle.std.specs.Prelude.{◌≡◌, ◌⊎◌, ℕ, List, [], ◌∷◌, ◌++◌, map, slice_get, Option, Some, None}
use Rattle.cv_readers.specs.declared.name.Name.{Name}
use Rattle.cv_syntax.specs.declared.tree.Target.{Target}
use Rattle.cv_syntax.specs.declared.tree.Target.TheVariants as targets
use Rattle.cv_expand.specs.declared.flat.Actor.{Actor}
use Rattle.cv_expand.specs.declared.flat.Instance.{Instance}
use Rattle.cv_expand.specs.declared.flat.Origin.{Origin}
use Rattle.cv_expand.specs.declared.flat.Origin.TheVariants as origins
use Rattle.cv_expand.specs.declared.flat.Feed.{Feed}
use Rattle.cv_expand.specs.declared.flat.Parts.{Parts}
use Rattle.cv_expand.specs.declared.path.Step.{Step}
use Rattle.cv_expand.specs.declared.path.Step.TheVariants as steps
use Rattle.cv_expand.specs.Bodies.{Among}
use Rattle.cv_kinds.specs.declared.kind.Kind.{Kind}
use Rattle.cv_kinds.specs.Names.{kind_named}
use Rattle.cv_kinds.specs.Table.{line_of}
use Rattle.cv_graph.specs.declared.port.Side.{Side}
use Rattle.cv_graph.specs.declared.port.Side.TheVariants as side

-- an end of a way: `voidport`, or a port by the path of its actor or instance, its side, and its name
pub data End : Type 0 where
  void : End
  port : List Step → Side → List ℕ → End

-- ---- joins

-- `.p` as a source is an inport of the body's own instance, and `a.p` an outport of what stands in the body
abbrev pub origin_end : List Step → Origin → End
origin_end body origins.Void = void
origin_end body (origins.Own name) = port body side.In name
origin_end body (origins.Port step name) = port (body ++ step ∷ []) side.Out name

-- as a target `.p` is an own outport, and `a.p` an inport; `voidport` joins nothing
abbrev pub target_end : List Step → Target → Option End
target_end body targets.Voidport = None
target_end body (targets.Own name) = Some (port body side.Out name)
target_end body (targets.Port actor name) = Some (port (body ++ steps.Name actor ∷ []) side.In name)

abbrev pub source_of : Feed → End
source_of f = origin_end f.body f.origin

abbrev pub target_of : Feed → Option End
target_of f = target_end f.body f.target

-- a join leads from its source to its target
abbrev pub IsFeed : List Feed → End → End → Type 0
IsFeed feeds p q = (f : Feed) × Among feeds f × (source_of f ≡ p) × (target_of f ≡ Some q)

-- the least relation that holds what joins do, and is closed under composition
pub data Reaches (feeds : List Feed) : End → End → Type 0 where
  at_once : (p q : End) → IsFeed feeds p q → Reaches feeds p q
  both : (p q r : End) → Reaches feeds p q → Reaches feeds q r → Reaches feeds p r

-- ---- ports that are there

-- where an actor or an instance stands, with the names of its ports
pub record Place : Type 0 where
  pub path : List Step
  pub inports : List (List ℕ)
  pub outports : List (List ℕ)

abbrev pub names_on : Side → Place → List (List ℕ)
names_on side.In p = p.inports
names_on side.Out p = p.outports

abbrev pub kind_place : List Step → Option Kind → Place
kind_place path None = record { path = path; inports = []; outports = [] }
kind_place path (Some k) = record { path = path; inports = (line_of k).inports; outports = (line_of k).outports }

-- an actor has the ports of its kind
abbrev pub actor_place : Actor → Place
actor_place a = kind_place a.path (kind_named a.kind)

abbrev pub texts : List Name → List (List ℕ)
texts names = map (λ n. n.text) names

-- an instance has those of its component's head
abbrev pub instance_place : Instance → Place
instance_place i = record { path = i.path; inports = texts i.inports; outports = texts i.outports }

abbrev pub actor_places : Parts → List Place
actor_places parts = map actor_place parts.actors

abbrev pub instance_places : Parts → List Place
instance_places parts = map instance_place parts.instances

abbrev pub places : Parts → List Place
places parts = actor_places parts ++ instance_places parts

-- one of these has the port
abbrev pub HasPort : List Place → List Step → Side → List ℕ → Type 0
HasPort ps path s name = (p : Place) × Among ps p × (p.path ≡ path) × Among (names_on s p) name

-- own ports are those of an instance
abbrev pub HasOrigin : Parts → List Step → Origin → Type 0
HasOrigin parts body origins.Void = Unit {0}
HasOrigin parts body (origins.Own name) = HasPort (instance_places parts) body side.In name
HasOrigin parts body (origins.Port step name) = HasPort (places parts) (body ++ step ∷ []) side.Out name

abbrev pub HasTarget : Parts → List Step → Target → Type 0
HasTarget parts body targets.Voidport = Unit {0}
HasTarget parts body (targets.Own name) = HasPort (instance_places parts) body side.Out name
HasTarget parts body (targets.Port actor name) = HasPort (places parts) (body ++ steps.Name actor ∷ []) side.In name

-- ---- ports of actors

-- the port of this number of the actor of this number
abbrev pub IsActorPort : Parts → Side → ℕ → ℕ → End → Type 0
IsActorPort parts s actor number e =
    (p : Place) × (name : List ℕ) × (slice_get (actor_places parts) actor ≡ Some p) × (slice_get (names_on s p) number ≡ Some name) × (e ≡ port p.path s name)

-- some way leads to the end from `voidport` or from an outport of an actor
abbrev pub IsFed : Parts → End → Type 0
IsFed parts e = Reaches parts.feeds void e ⊎ ((actor : ℕ) × (number : ℕ) × (s : End) × IsActorPort parts side.Out actor number s × Reaches parts.feeds s e)
