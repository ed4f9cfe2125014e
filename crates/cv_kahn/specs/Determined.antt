-- What stands before a connection in a network, and which connections are determined by that.
use Rattle.std.specs.Prelude.{◌≡◌, ℕ, false, List, slice_get, Option, Some, None}
use Rattle.cv_behave.specs.KindRow.{Deterministic}
use Rattle.cv_kinds.specs.declared.network.ActorSpec.{ActorSpec}
use Rattle.cv_kinds.specs.declared.network.Connection.{Connection}
use Rattle.cv_kinds.specs.KindRow.{row_of}
use Rattle.cv_kinds.specs.Net.{Net}
use Rattle.cv_solo.specs.OneRuntime.{Runtime, ready_of, slots_of}

-- the actors from which an actor is reached: itself, and the producers of what such an actor consumes
pub data Reaches (connections : List Connection) (actor : ℕ) : ℕ → Type 0 where
  itself : Reaches connections actor actor
  through : (c : ℕ) (j : Connection) → slice_get connections c ≡ Some j → Reaches connections actor j.to → Reaches connections actor j.from

-- for no arguments, state and inputs two actions of the actor are ready
abbrev pub IsDeterministic : Option ActorSpec → Type 0
IsDeterministic None = Unit {0}
IsDeterministic (Some spec) = Deterministic (row_of spec.kind)

-- all actors from which this one is reached are deterministic, itself included; of a connection: of its producer
abbrev pub Determined : Net → ℕ → Type 0
Determined net actor = (b : ℕ) → Reaches net.connections actor b → IsDeterministic (slice_get net.actors b)

-- no actor from which this one is reached has an action that is ready
abbrev pub Rests : Net → Runtime → ℕ → Type 0
Rests net r actor = (b action : ℕ) (spec : ActorSpec) → Reaches net.connections actor b → slice_get net.actors b ≡ Some spec → ready_of spec net.connections b action (slots_of r b) r.streams ≡ false
