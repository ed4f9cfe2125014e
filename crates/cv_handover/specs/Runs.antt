-- Steps of many nodes, one after the other: what the nodes are afterwards, what was sent, and what it meant; and the two promises.
use Rattle.std.specs.Prelude.{◌≡◌, ◌↔◌, ℕ, ◌-◌, ◌≤◌, true, List, [], ◌∷◌, ◌++◌, length, take, slice_get, Option, Some, is_some, unwrap_or, IfSome, option_and_then}
use Rattle.std.specs.List.{flat_map}
use Rattle.std.specs.FinMap as map
use Rattle.cv_token.specs.declared.identifiers.AppId.{AppId}
use Rattle.cv_token.specs.declared.identifiers.ActorId.{ActorId}
use Rattle.cv_token.specs.declared.identifiers.ConnId.{ConnId}
use Rattle.cv_kinds.specs.declared.network.ActorSpec.{ActorSpec}
use Rattle.cv_kinds.specs.Net.{Net}
use Rattle.cv_rules.specs.declared.attrs.NodeSpec.{NodeSpec}
use Rattle.cv_protocol.specs.declared.event.Entry.{Entry}
use Rattle.cv_protocol.specs.declared.event.Event.{Event}
use Rattle.cv_protocol.specs.declared.event.Event.TheVariants as event
use Rattle.cv_protocol.specs.declared.event.Step.{Step}
use Rattle.cv_protocol.specs.Actors.{LiveState}
use Rattle.cv_protocol.specs.NodeState.{NodeState, opening}
use Rattle.cv_protocol.specs.NodeRow.{row}
use Rattle.cv_protocol.specs.Rows.{Did, next_app}
use Rattle.cv_protocol.specs.Owners.{Owners, Nowhere, At, owners_after}
use Rattle.cv_protocol.specs.Journals.{did_at, replay, IsLocalRun, entry_of, entries_of, IsRecordOf, FramesWereSent}
use Rattle.cv_handover.specs.World.{World, at, after, Came}
use Rattle.cv_handover.specs.Meaning.{Nets, Meaning, fresh, means}
use Rattle.cv_handover.specs.Agree.{History, Agree}
use Rattle.cv_handover.specs.Goes.{Goes}

-- 1. One step

-- a deployment carries the network of its application
abbrev pub CarriesNet : Nets → NodeState → Event → Type 0
CarriesNet n s (event.Deploy name net) = net ≡ n.net (next_app s)
CarriesNet n s (event.Meet node attrs) = Unit {0}
CarriesNet n s (event.Tick now) = Unit {0}
CarriesNet n s (event.Peek a port) = Unit {0}
CarriesNet n s (event.Fire a action) = Unit {0}
CarriesNet n s (event.Pass conn) = Unit {0}
CarriesNet n s (event.Send conn) = Unit {0}
CarriesNet n s (event.Rewind conn) = Unit {0}
CarriesNet n s (event.Freeze a to) = Unit {0}
CarriesNet n s (event.Resend a) = Unit {0}
CarriesNet n s (event.Withdraw a) = Unit {0}
CarriesNet n s (event.Hint a attempt node) = Unit {0}
CarriesNet n s (event.Destroy app) = Unit {0}
CarriesNet n s (event.Lose f) = Unit {0}
CarriesNet n s (event.Deliver f) = Unit {0}

-- whatever frame that was ever sent comes next, late or again
abbrev pub StepLaw : Type 0
StepLaw =
    (n : Nets) (w : World) (m : Meaning) (h : History) (i : ℕ) (e : Event) → Agree n w.nodes w.frames m h → Came w e → CarriesNet n (w.nodes i) e → IfSome (row (w.nodes i) e) (Goes n w m i)

-- 2. Many steps

-- nodes in these states, before any frame was sent
abbrev pub opened : (ℕ → NodeState) → World
opened nodes = record { nodes = nodes; frames = [] }

-- the world and the meaning after the steps. They are undefined where a step is no row of its node with that stamp, where its
-- deed needs another owner, and where the one runtime could not fire the same action
abbrev pub ran : Nets → World → Meaning → List Step → Option (World × Meaning)
ran n w m [] = Some (w, m)
ran n w m (s ∷ ss) =
    option_and_then (λ (d : Did). option_and_then (λ (v : Meaning). ran n (after w s.node d) v ss) (means n m s.node d.deed)) (did_at (w.nodes s.node) (entry_of s))

-- the owners after the steps, undefined where a step is no row or its deed needs another owner
abbrev pub owners_of : (ℕ → NodeState) → Owners → List Step → Option Owners
owners_of nodes own [] = Some own
owners_of nodes own (s ∷ ss) =
    option_and_then (λ (d : Did). option_and_then (λ (after : Owners). owners_of (at nodes s.node d.next) after ss) (owners_after own s.node d.deed)) (did_at (nodes s.node) (entry_of s))

-- each deployment of the steps carries the network of its application
abbrev pub CarryNets : Nets → (ℕ → NodeState) → List Step → Type 0
CarryNets n openings m =
    (before after : List Step) (step : Step) (s : NodeState) → m ≡ before ++ step ∷ after → replay (openings step.node) (entries_of step.node before) ≡ Some s → CarriesNet n s step.event

-- 3. One owner

-- after these steps the owners are defined, and an actor lives in the state of a node exactly where its owner is that node
pub record LiveAtOwner (openings : ℕ → NodeState) (own : Owners) (begins : List Step) : Type 0 where
  pub owner : Owners
  pub folded : owners_of openings own begins ≡ Some owner
  pub lives : (i : ℕ) (s : NodeState) (a : ActorId) → replay (openings i) (entries_of i begins) ≡ Some s → ((is_some (map.get s.live a) ≡ true) ↔ (owner a ≡ At i))

-- at every beginning of the steps
abbrev pub OneOwner : (ℕ → NodeState) → Owners → List Step → Type 0
OneOwner openings own m =
    (begins rest : List Step) → m ≡ begins ++ rest → LiveAtOwner openings own begins

-- 4. Streams in order

-- after these steps the one runtime that fires the same actions in the same order is defined; what a consumer got is the
-- beginning of what was written for it, and it took no more than it got; and an actor that lives has the one runtime's slots
pub record InOrder (n : Nets) (openings : ℕ → NodeState) (start : Meaning) (begins : List Step) : Type 0 where
  pub world : World
  pub meaning : Meaning
  pub defined : ran n (opened openings) start begins ≡ Some (world, meaning)
  pub prefix : (c : ConnId) → take (length (meaning.got c)) (meaning.wrote c) ≡ meaning.got c
  pub taken : (c : ConnId) → meaning.took c ≤ length (meaning.got c)
  pub slots : (i : ℕ) (s : NodeState) (a : ActorId) (l : LiveState) → replay (openings i) (entries_of i begins) ≡ Some s → map.get s.live a ≡ Some l → l.actor.slots ≡ meaning.slots a

abbrev pub StreamsInOrder : Nets → (ℕ → NodeState) → Meaning → List Step → Type 0
StreamsInOrder n openings start m =
    (begins rest : List Step) → m ≡ begins ++ rest → InOrder n openings start begins

-- 5. All that holds

-- after these steps, in the nodes' states, in all frames that were sent and in the meaning all holds, with some history
pub record Reaches (n : Nets) (openings : ℕ → NodeState) (start : Meaning) (begins : List Step) : Type 0 where
  pub world : World
  pub meaning : Meaning
  pub history : History
  pub reached : ran n (opened openings) start begins ≡ Some (world, meaning)
  pub states : (i : ℕ) → replay (openings i) (entries_of i begins) ≡ Some (world.nodes i)
  pub agrees : Agree n world.nodes world.frames meaning history

abbrev pub AllHolds : Nets → (ℕ → NodeState) → Meaning → List Step → Type 0
AllHolds n openings start m =
    (begins rest : List Step) → m ≡ begins ++ rest → Reaches n openings start begins

-- 6. Every record

-- a record of local runs in which each frame that came was sent before
pub record IsRun (openings : ℕ → NodeState) (journals : ℕ → List Entry) (m : List Step) : Type 0 where
  pub record_of : IsRecordOf journals m
  pub local : (i : ℕ) → IsLocalRun (openings i) (journals i)
  pub sent : FramesWereSent openings m

-- from states that agree with a meaning, as those that were saved do
abbrev pub FromAgreed : (Nets → (ℕ → NodeState) → Meaning → List Step → Type 0) → Type 0
FromAgreed promise =
    (n : Nets) (openings : ℕ → NodeState) (start : Meaning) (h : History) (journals : ℕ → List Entry) (m : List Step) → Agree n openings [] start h → IsRun openings journals m → CarryNets n openings m → promise n openings start m

-- the networks that are deployed, in order
abbrev pub deployed_net : Event → List Net
deployed_net (event.Deploy name net) = net ∷ []
deployed_net (event.Meet node attrs) = []
deployed_net (event.Tick now) = []
deployed_net (event.Peek a port) = []
deployed_net (event.Fire a action) = []
deployed_net (event.Pass conn) = []
deployed_net (event.Send conn) = []
deployed_net (event.Rewind conn) = []
deployed_net (event.Freeze a to) = []
deployed_net (event.Resend a) = []
deployed_net (event.Withdraw a) = []
deployed_net (event.Hint a attempt node) = []
deployed_net (event.Destroy app) = []
deployed_net (event.Lose f) = []
deployed_net (event.Deliver f) = []

abbrev pub deployed_nets : List Entry → List Net
deployed_nets entries = flat_map (λ (e : Entry). deployed_net e.event) entries

-- application number q of a node has the network of the node's q-th deployment, and no actors where there is none
abbrev pub net_in : (ℕ → List Entry) → AppId → Net
net_in journals app =
    unwrap_or (slice_get (deployed_nets (journals app.node)) (app.seq - 1)) (record { actors = []; connections = [] })

abbrev pub nets_of : ActorSpec → (ℕ → List Entry) → Nets
nets_of nobody journals = record { net = net_in journals; nobody = nobody }

-- before anything was deployed
abbrev pub nothing_yet : Nets → Meaning
nothing_yet n = record {
  owner = λ a. Nowhere;
  slots = λ a. (fresh n a).slots;
  wrote = λ c. [];
  took = λ c. 0;
  got = λ c. [];
}

-- from nodes before their first entry
abbrev pub FromNothing : (Nets → (ℕ → NodeState) → Meaning → List Step → Type 0) → Type 0
FromNothing promise =
    (specs : ℕ → NodeSpec) (nobody : ActorSpec) (journals : ℕ → List Entry) (m : List Step) → ((i : ℕ) → (specs i).no ≡ i) → IsRun (λ i. opening (specs i)) journals m → promise (nets_of nobody journals) (λ i. opening (specs i)) (nothing_yet (nets_of nobody journals)) m

abbrev pub OwnersHold : Nets → (ℕ → NodeState) → Meaning → List Step → Type 0
OwnersHold n openings start m = OneOwner openings start.owner m
