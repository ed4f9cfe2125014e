-- One application of a record, and the one runtime of its network alone.
use Rattle.std.specs.Prelude.{◌≡◌, ℕ, ◌<◌, ◌≤◌, List, ◌++◌, length, take, slice_get, Some}
use Rattle.std.specs.FinMap as map
use Rattle.cv_token.specs.declared.token.Token.{Token}
use Rattle.cv_token.specs.declared.identifiers.AppId.{AppId}
use Rattle.cv_token.specs.declared.identifiers.ActorId.{ActorId}
use Rattle.cv_kinds.specs.Wired.{IsWired}
use Rattle.cv_solo.specs.declared.stream.Stream.{Stream}
use Rattle.cv_solo.specs.OneRuntime.{Runtime, opening, slots_of, solo_from}
use Rattle.cv_protocol.specs.declared.event.Step.{Step}
use Rattle.cv_protocol.specs.Actors.{LiveState}
use Rattle.cv_protocol.specs.Journals.{replay, entries_of}
use Rattle.cv_protocol.specs.NodeState.{NodeState}
use Rattle.cv_protocol.specs.Owners.{Owners, Nowhere}
use Rattle.cv_handover.specs.Meaning.{Nets, Meaning}
use Rattle.cv_handover.specs.Runs.{opened, ran}
use Rattle.cv_handover.specs.Runtimes.{runtime_of, firings}
use Rattle.cv_handover.specs.World.{World}

-- what a consumer got is the beginning of what its producer wrote, and it took no more than it got
pub record IsBegun (received : List Token) (stream : Stream) : Type 0 where
  pub prefix : take (length received) stream.wrote ≡ received
  pub taken : stream.took ≤ length received

-- after these steps: the one runtime, from where it was first, could fire the application's recorded actions in their order; all
-- its streams begin with what the consumers got; and it has the slots of the application's actors, wherever they live
pub record Alone (n : Nets) (openings : ℕ → NodeState) (start : Meaning) (first : Runtime) (begins : List Step) (app : AppId) : Type 0 where
  pub world : World
  pub meaning : Meaning
  pub reached : ran n (opened openings) start begins ≡ Some (world, meaning)
  pub runtime : Runtime
  pub defined : solo_from (n.net app) first (firings app begins) ≡ Some runtime
  pub streams : (place : ℕ) (stream : Stream) → slice_get runtime.streams place ≡ Some stream → IsBegun (meaning.got (record { app = app; place = place })) stream
  pub all_streams : length runtime.streams ≡ length (n.net app).connections
  pub slots : (i : ℕ) (s : NodeState) (a : ActorId) (l : LiveState) → a.app ≡ app → replay (openings i) (entries_of i begins) ≡ Some s → map.get s.live a ≡ Some l → slots_of runtime a.actor ≡ l.actor.slots

-- who lives or is on its way is an actor of its network
pub record AreListed (n : Nets) (own : Owners) : Type 0 where
  pub listed : (a : ActorId) → ((own a ≡ Nowhere) → ⊥) → a.actor < length (n.net a.app).actors

-- from where a meaning begins
abbrev pub EachAlone : Nets → (ℕ → NodeState) → Meaning → List Step → Type 0
EachAlone n openings start m =
    (begins rest : List Step) (app : AppId) → m ≡ begins ++ rest → AreListed n start.owner → IsWired (n.net app) → Alone n openings start (runtime_of n start app) begins app

-- from the network's start
abbrev pub EachFromStart : Nets → (ℕ → NodeState) → Meaning → List Step → Type 0
EachFromStart n openings start m =
    (begins rest : List Step) (app : AppId) → m ≡ begins ++ rest → IsWired (n.net app) → Alone n openings start (opening (n.net app)) begins app
