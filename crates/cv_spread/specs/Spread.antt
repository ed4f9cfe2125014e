-- The record of a run over several nodes, and what its end says.
use Rattle.std.specs.Prelude.{◌≡◌, ◌↔◌, ℕ, ◌<◌, true, List, [], ◌++◌, length, Some, is_some, Contains}
use Rattle.std.specs.FinMap as map
use Rattle.cv_token.specs.declared.identifiers.ActorId.{ActorId}
use Rattle.cv_kinds.specs.declared.network.ActorSpec.{ActorSpec}
use Rattle.cv_kinds.specs.Net.{Net}
use Rattle.cv_solo.specs.OneRuntime as solo
use Rattle.cv_protocol.specs.declared.event.Entry.{Entry}
use Rattle.cv_protocol.specs.declared.event.Record.{Record}
use Rattle.cv_protocol.specs.declared.event.Step.{Step}
use Rattle.cv_protocol.specs.Journals.{entries_of, replay, IsLocalRun, IsRecordOf, FramesWereSent}
use Rattle.cv_protocol.specs.NodeState.{NodeState}
use Rattle.cv_link.specs.declared.items.Item.{Item}
use Rattle.cv_mesh.specs.Going.{is_of_run}
use Rattle.cv_mesh.specs.Links.{LinkKept}
use Rattle.cv_alone.specs.declared.alone.RunEnd.{RunEnd}
use Rattle.cv_alone.specs.declared.alone.RunEnd.TheVariants.{Spent, Quiescent}
use Rattle.cv_alone.specs.Resting.{run_app}
use Rattle.cv_handover.specs.Alone.{Alone}
use Rattle.cv_handover.specs.Runs.{OneOwner}
use Rattle.cv_handover.specs.Runtimes.{firings}
use Rattle.cv_spread.specs.Placing.{IsNode, home, node_specs, openings, owners, nets, start}

-- spent comes exactly after the firings that were allowed, quiescent only after fewer
abbrev pub EndsAfter : ℕ → RunEnd → ℕ → Type 0
EndsAfter most Spent fired = fired ≡ most
EndsAfter most Quiescent fired = fired < most

-- after these steps the one runtime that fires the recorded actions is defined; what each consumer got, wherever both ends live, is
-- the beginning of what its producer wrote, and it took no more than it got
abbrev pub StreamsInOrder : ℕ → Net → List Step → Type 0
StreamsInOrder nodes net begins =
    (nobody : ActorSpec) → Alone (nets net nobody) (openings nodes net) (start nodes net nobody) (solo.opening net) begins run_app

-- after these steps an actor lives at a node exactly where it was placed
abbrev pub StayAtHome : ℕ → Net → List Step → Type 0
StayAtHome nodes net begins =
    (i : ℕ) (s : NodeState) (a : ActorId) → replay (openings nodes net i) (entries_of i begins) ≡ Some s → ((is_some (map.get s.live a) ≡ true) ↔ (home nodes net a ≡ Some i))

-- a run of a network over the nodes 1 to `nodes`, with these items and so many firings at most, that stopped so, with this record
pub record IsSpreadRun (net : Net) (nodes : ℕ) (items : List Item) (most : ℕ) (stop : RunEnd) (m : Record) : Type 0 where
  pub specs : m.specs ≡ node_specs nodes
  -- the record is that of the journals of these nodes, each a local run from the node's opening
  pub journals : ℕ → List Entry
  pub recorded : IsRecordOf journals m.entries
  pub among : (i : ℕ) → (¬ IsNode nodes i) → journals i ≡ []
  pub local : (i : ℕ) → IsLocalRun (openings nodes net i) (journals i)
  -- in which nothing is deployed, moved or destroyed
  pub own : (i : ℕ) (e : Entry) → Contains (journals i) e → is_of_run e.event ≡ true
  -- each frame that came was sent by an earlier step, and what became of the frames of each link is what the items say
  pub sent : FramesWereSent (openings nodes net) m.entries
  pub links : (from to : ℕ) → IsNode nodes from → IsNode nodes to → LinkKept items from to (journals to)
  -- the firings are those of the run's application, which are counted at the end; behind the last of them the round's other workers, who don't know of it, may still
  -- have passed, sent and delivered tokens
  pub ends : EndsAfter most stop (length (firings run_app m.entries))
  -- at every beginning of it each actor lives at its owner and nowhere else, and that is where it was placed
  pub owners : OneOwner (openings nodes net) (owners nodes net) m.entries
  pub stay : (begins rest : List Step) → m.entries ≡ begins ++ rest → StayAtHome nodes net begins
  -- at every beginning of it the streams are in order
  pub streams : (begins rest : List Step) → m.entries ≡ begins ++ rest → StreamsInOrder nodes net begins
