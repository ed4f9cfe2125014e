-- When nothing of a network can go on at a node, whatever the moment.
use Rattle.std.specs.Prelude.{◌≡◌, ℕ, ◌<◌, Bool, true, false, min, List, [], ◌∷◌, ◌++◌, Option, Some, None}
use Rattle.std.specs.List.{list_all}
use Rattle.cv_token.specs.declared.identifiers.ActorId.{ActorId}
use Rattle.cv_token.specs.declared.identifiers.AppId.{AppId}
use Rattle.cv_token.specs.declared.identifiers.ConnId.{ConnId}
use Rattle.cv_protocol.specs.declared.event.Entry.{Entry}
use Rattle.cv_protocol.specs.declared.event.Event.TheVariants as event
use Rattle.cv_protocol.specs.declared.poll.Need.{Need}
use Rattle.cv_protocol.specs.declared.poll.Need.TheVariants as need
use Rattle.cv_protocol.specs.Journals.{replay}
use Rattle.cv_protocol.specs.NodeRow.{row}
use Rattle.cv_protocol.specs.NodeState.{NodeState}
use Rattle.cv_node.specs.Polls.{Waits}

-- the application of the run, and the identifiers within it
abbrev pub run_app : AppId
run_app = record { node = 1; seq = 1 }

abbrev pub actor_id : ℕ → ActorId
actor_id place = record { app = run_app; actor = place }

abbrev pub conn_id : ℕ → ConnId
conn_id place = record { app = run_app; place = place }

-- the moment that an action waits for
abbrev pub until_in : Option Need → Option ℕ
until_in None = None
until_in (Some (need.Until t)) = Some t
until_in (Some (need.Token port count)) = None
until_in (Some need.Guard) = None
until_in (Some (need.Space port)) = None

abbrev pub earlier : Option ℕ → Option ℕ → Option ℕ
earlier None due = due
earlier (Some t) None = Some t
earlier (Some t) (Some u) = Some (min t u)

-- the earliest of the moment so far and those that the actions wait for
abbrev pub until_from : Option ℕ → List (Option Need) → Option ℕ
until_from due [] = due
until_from due (lack ∷ lacks) = until_from (earlier due (until_in lack)) lacks

abbrev pub waits_for_none : Option ℕ → Bool
waits_for_none None = true
waits_for_none (Some t) = false

abbrev pub is_untimed : Option Need → Bool
is_untimed lack = waits_for_none (until_in lack)

-- each action of the actor lacks tokens, its guard or space; none waits for a moment alone
pub record Rests (s : NodeState) (a : ActorId) : Type 0 where
  pub lacks : List (Option Need)
  pub waits : Waits s a lacks
  pub untimed : list_all is_untimed lacks ≡ true

-- no actor of a network with so many actors and connections has an action with tokens, guard and space, whatever the moment, and
-- no token can pass over a connection
pub record Quiet (s : NodeState) (actors connections : ℕ) : Type 0 where
  pub rest : (place : ℕ) → place < actors → Rests s (actor_id place)
  pub none_passes : (place : ℕ) → place < connections → row s (event.Pass (conn_id place)) ≡ None

-- the actor waits, and where no moment was found none of its actions waits for one alone
pub record WaitsFor (s : NodeState) (a : ActorId) (due : Option ℕ) : Type 0 where
  pub lacks : List (Option Need)
  pub waits : Waits s a lacks
  pub untimed : due ≡ None → list_all is_untimed lacks ≡ true

abbrev pub AllWait : NodeState → ℕ → Option ℕ → Type 0
AllWait s actors due = (place : ℕ) → place < actors → WaitsFor s (actor_id place) due

-- at this moment no action of so many actors has all that it needs, and no token can pass over one of so many connections
pub record IsAtRest (s : NodeState) (actors connections : ℕ) : Type 0 where
  pub wait : (place : ℕ) → place < actors → (lacks : List (Option Need)) × Waits s (actor_id place) lacks
  pub none_passes : (place : ℕ) → place < connections → row s (event.Pass (conn_id place)) ≡ None

-- wherever time goes on in these entries, nothing else could happen there
abbrev pub IsPatient : ℕ → ℕ → NodeState → List Entry → Type 0
IsPatient actors connections base entries =
    (before after : List Entry) (stamp now : ℕ) → entries ≡ before ++ record { stamp = stamp; event = event.Tick now } ∷ after → (s : NodeState) × (replay base before ≡ Some s) × IsAtRest s actors connections
