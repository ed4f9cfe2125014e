-- Nodes that open with actors in their places: nothing was fired, sent or moved yet.
use Rattle.std.specs.Prelude.{◌≡◌, ℕ, ◌<◌, ◌≤◌, List, length, Option, Some, None}
use Rattle.std.specs.FinMap as map
use Rattle.cv_token.specs.declared.identifiers.ActorId.{ActorId}
use Rattle.cv_protocol.specs.declared.event.Entry.{Entry}
use Rattle.cv_protocol.specs.declared.event.Step.{Step}
use Rattle.cv_protocol.specs.Actors.{LiveState}
use Rattle.cv_protocol.specs.NodeState.{NodeState}
use Rattle.cv_protocol.specs.Owners.{Owner, Nowhere, At}
use Rattle.cv_handover.specs.Meaning.{Nets, Meaning, fresh}
use Rattle.cv_handover.specs.Runs.{IsRun, CarryNets, nothing_yet}

-- the node of each actor that is placed
abbrev pub Places : Type 0
Places = ActorId → Option ℕ

-- a live actor as it is at its start
pub record IsFresh (n : Nets) (a : ActorId) (l : LiveState) : Type 0 where
  pub actor : l.actor ≡ fresh n a
  pub attempt : l.attempt ≡ 0

-- an actor lives at the node where it is placed and at no other, fresh; nobody left or moved; and whoever is placed is an actor of
-- its network, and of an application that is counted
pub record IsPlaced (n : Nets) (place : Places) (openings : ℕ → NodeState) : Type 0 where
  pub number : (i : ℕ) → (openings i).spec.no ≡ i
  pub there : (a : ActorId) (i : ℕ) → place a ≡ Some i → (l : LiveState) × (map.get (openings i).live a ≡ Some l) × IsFresh n a l
  pub nobody_else : (a : ActorId) (i : ℕ) (l : LiveState) → map.get (openings i).live a ≡ Some l → place a ≡ Some i
  pub none_frozen : (a : ActorId) (i : ℕ) → map.get (openings i).moves.frozen a ≡ None
  pub none_judged : (a : ActorId) (i : ℕ) → map.get (openings i).moves.judged a ≡ None
  pub listed : (a : ActorId) (i : ℕ) → place a ≡ Some i → a.actor < length (n.net a.app).actors
  pub counted : (a : ActorId) (i : ℕ) → place a ≡ Some i → a.app.seq ≤ (openings a.app.node).known.deployed

abbrev pub owner_in : Option ℕ → Owner
owner_in None = Nowhere
owner_in (Some i) = At i

abbrev pub placed_meaning : Nets → Places → Meaning
placed_meaning n place = record (nothing_yet n) { owner = λ a. owner_in (place a) }

-- from actors in their places
abbrev pub FromPlaced : (Nets → (ℕ → NodeState) → Meaning → List Step → Type 0) → Type 0
FromPlaced promise =
    (n : Nets) (place : Places) (openings : ℕ → NodeState) (journals : ℕ → List Entry) (m : List Step) → IsPlaced n place openings → IsRun openings journals m → CarryNets n openings m → promise n openings (placed_meaning n place) m
