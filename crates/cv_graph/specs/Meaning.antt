-- The network of a script's parts.
use Rattle.std.specs.Prelude.{◌≡◌, ◌↔◌, ℕ, ◌<◌, ◌≤◌, List, [], ◌∷◌, Some}
use Rattle.cv_behave.specs.KindRow.{action_count, needed}
use Rattle.cv_expand.specs.declared.flat.Actor.{Actor}
use Rattle.cv_expand.specs.declared.flat.Parts.{Parts}
use Rattle.cv_expand.specs.Bodies.{Among}
use Rattle.cv_kinds.specs.declared.network.ActorSpec.{ActorSpec}
use Rattle.cv_kinds.specs.declared.network.Connection.{Connection}
use Rattle.cv_kinds.specs.KindRow.{row_of}
use Rattle.cv_kinds.specs.Names.{kind_named}
use Rattle.cv_kinds.specs.Net.{Net}
use Rattle.cv_kinds.specs.Wired.{Rising}
use Rattle.cv_graph.specs.declared.port.Side.TheVariants as side
use Rattle.cv_graph.specs.Arguments.{args_for}
use Rattle.cv_expand.specs.Paths.{path_text}
use Rattle.cv_graph.specs.Ports.{End, Reaches, IsActorPort}

-- an actor of a network is this one: its path as text, its kind, and its arguments in the order of the kind's row
pub record IsSpec (a : Actor) (s : ActorSpec) : Type 0 where
  pub path : s.path ≡ path_text a.path
  pub kind : kind_named a.kind ≡ Some s.kind
  pub args : s.args ≡ args_for s.kind a

-- each of these is that one
abbrev pub AreSpecs : List Actor → List ActorSpec → Type 0
AreSpecs [] [] = Unit {0}
AreSpecs (a ∷ actors) (s ∷ specs) = IsSpec a s × AreSpecs actors specs
AreSpecs _ _ = ⊥

-- a way leads from the outport to the inport, both of actors
abbrev pub Connects : Parts → Connection → Type 0
Connects parts j = (s : End) × (e : End) × IsActorPort parts side.Out j.from j.out s × IsActorPort parts side.In j.to j.inp e × Reaches parts.feeds s e

-- the network has these actors in this order, and a connection exactly where a way leads
pub record IsNetwork (parts : Parts) (net : Net) : Type 0 where
  pub actors : AreSpecs parts.actors net.actors
  pub connections : (j : Connection) → Among net.connections j ↔ Connects parts j
  pub rising : Rising net.connections

-- how many tokens wait at an inport at most
abbrev pub most_waiting : ℕ
most_waiting = 4

-- no action of the actor needs more tokens of an inport than may wait there
abbrev pub FitsQueues : ActorSpec → Type 0
FitsQueues s = (action port : ℕ) → action < action_count (row_of s.kind) → port < (row_of s.kind).inports → needed (row_of s.kind) s.args action port ≤ most_waiting
