-- What has to hold of a script's parts, in the order in which it is looked at: the first that does not hold is the fault.
use Rattle.std.specs.Prelude.{◌≡◌, ◌⊎◌, ℕ, List, [], ◌∷◌, ◌++◌, Some, None}
use Rattle.cv_expand.specs.declared.flat.Actor.{Actor}
use Rattle.cv_expand.specs.declared.flat.Feed.{Feed}
use Rattle.cv_expand.specs.declared.flat.Parts.{Parts}
use Rattle.cv_expand.specs.Bodies.{Among}
use Rattle.cv_kinds.specs.declared.kind.Kind.{Kind}
use Rattle.cv_kinds.specs.declared.network.ActorSpec.{ActorSpec}
use Rattle.cv_kinds.specs.Names.{kind_named}
use Rattle.cv_graph.specs.declared.fault.GraphFault.{GraphFault}
use Rattle.cv_graph.specs.declared.fault.GraphFault.TheVariants as faults
use Rattle.cv_graph.specs.declared.port.Side.TheVariants as side
use Rattle.cv_graph.specs.Arguments.{args_fault}
use Rattle.cv_graph.specs.Meaning.{IsSpec, FitsQueues}
use Rattle.cv_graph.specs.Ports.{End, port, target_of, HasOrigin, HasTarget, actor_place, IsFed}

pub data Check : Type 0 where
  -- the actor's kind is there
  kind_known : Actor → Check
  -- its kind takes its arguments
  args_taken : Actor → Check
  -- the source of a join is there
  source_there : Feed → Check
  -- its target is there
  target_there : Feed → Check
  -- no join before has that target
  fed_once : List Feed → Feed → Check
  -- the inport of that name of an actor is fed
  inport_fed : Actor → List ℕ → Check
  -- what the actor's actions need may wait
  queues_fit : Actor → Check

abbrev pub Holds : Parts → Check → Type 0
Holds parts (kind_known a) = (k : Kind) × (kind_named a.kind ≡ Some k)
Holds parts (args_taken a) = (k : Kind) → kind_named a.kind ≡ Some k → args_fault k a ≡ None
Holds parts (source_there f) = HasOrigin parts f.body f.origin
Holds parts (target_there f) = HasTarget parts f.body f.target
Holds parts (fed_once before f) = (e : End) (g : Feed) → Among before g → target_of f ≡ Some e → target_of g ≡ Some e → ⊥
Holds parts (inport_fed a name) = IsFed parts (port a.path side.In name)
Holds parts (queues_fit a) = (s : ActorSpec) → IsSpec a s → FitsQueues s

-- the fault where the check does not hold
abbrev pub Tells : Check → GraphFault → Type 0
Tells (kind_known a) fault = fault ≡ faults.NoKind a.at
Tells (args_taken a) fault = (k : Kind) × (kind_named a.kind ≡ Some k) × (args_fault k a ≡ Some fault)
Tells (source_there f) fault = fault ≡ faults.NoPort f.at
Tells (target_there f) fault = fault ≡ faults.NoPort f.target_at
Tells (fed_once before f) fault = fault ≡ faults.FedTwice f.target_at
Tells (inport_fed a name) fault = fault ≡ faults.Unfed a.at
Tells (queues_fit a) fault = fault ≡ faults.BatchOverQueue a.at

-- ---- the order

abbrev pub actor_checks : List Actor → List Check
actor_checks [] = []
actor_checks (a ∷ actors) = kind_known a ∷ args_taken a ∷ actor_checks actors

-- joins in order, behind these
abbrev pub feed_checks : List Feed → List Feed → List Check
feed_checks before [] = []
feed_checks before (f ∷ feeds) = source_there f ∷ target_there f ∷ fed_once before f ∷ feed_checks (before ++ f ∷ []) feeds

abbrev pub inport_checks : Actor → List (List ℕ) → List Check
inport_checks a [] = []
inport_checks a (name ∷ names) = inport_fed a name ∷ inport_checks a names

-- inports by actor, then port
abbrev pub fed_checks : List Actor → List Check
fed_checks [] = []
fed_checks (a ∷ actors) = inport_checks a (actor_place a).inports ++ fed_checks actors

abbrev pub queue_checks : List Actor → List Check
queue_checks [] = []
queue_checks (a ∷ actors) = queues_fit a ∷ queue_checks actors

abbrev pub checks : Parts → List Check
checks parts = actor_checks parts.actors ++ (feed_checks [] parts.feeds ++ (fed_checks parts.actors ++ queue_checks parts.actors))

-- ---- the answer

abbrev pub AllHold : Parts → List Check → Type 0
AllHold parts [] = Unit {0}
AllHold parts (c ∷ cs) = Holds parts c × AllHold parts cs

-- the fault is that of the first check which does not hold
abbrev pub IsFirst : Parts → List Check → GraphFault → Type 0
IsFirst parts [] fault = ⊥
IsFirst parts (c ∷ cs) fault = ((Holds parts c → ⊥) × Tells c fault) ⊎ (Holds parts c × IsFirst parts cs fault)
