-- The nodes of a run over several, where its actors live, and the items that fit it.
use Rattle.std.specs.Prelude.{◌≢◌, ℕ, ◌+◌, ◌%◌, ◌≤◌, List, [], ◌∷◌, ◌++◌, length, map, slice_get, Option, None, codes, Contains, if◌then◌else◌}
use Rattle.std.specs.Fmt.{decimal}
use Rattle.std.specs.List.{range_with_len}
use Rattle.cv_token.specs.declared.identifiers.ActorId.{ActorId}
use Rattle.cv_table.specs.Order.{same_app}
use Rattle.cv_kinds.specs.declared.network.ActorSpec.{ActorSpec}
use Rattle.cv_kinds.specs.Net.{Net}
use Rattle.cv_rules.specs.declared.attrs.NodeSpec.{NodeSpec}
use Rattle.cv_protocol.specs.NodeState.{NodeState}
use Rattle.cv_protocol.specs.Owners.{Owners}
use Rattle.cv_state.specs.Opening.{opened}
use Rattle.cv_link.specs.declared.items.Item.{Item}
use Rattle.cv_link.specs.declared.items.Item.TheVariants as item
use Rattle.cv_alone.specs.Resting.{run_app}
use Rattle.cv_handover.specs.Meaning.{Nets, Meaning}
use Rattle.cv_handover.specs.Placed.{owner_in, placed_meaning}

-- a run is on nodes 1 to this at most
abbrev pub most_run_nodes : ℕ
most_run_nodes = 16

-- 1. The nodes

-- node i: its number, how many actors it takes, how many tokens of a connection may be on their way, and its name
abbrev pub node_spec : ℕ → NodeSpec
node_spec i = record { no = i; room = 1024; window = 1; attrs = record { key = codes "node_name.name"; value = codes "node" ++ decimal i } ∷ [] }

-- the nodes 1 to `nodes`
abbrev pub node_specs : ℕ → List NodeSpec
node_specs nodes = map node_spec (range_with_len 1 nodes)

abbrev pub IsNode : ℕ → ℕ → Type 0
IsNode nodes i = (1 ≤ i) × (i ≤ nodes)

-- 2. Where the actors live

-- the actors go to the nodes in turn, in the order of the network
abbrev pub home_node : ℕ → ℕ → ℕ
home_node nodes actor = actor % nodes + 1

-- the node of each actor
abbrev pub places : ℕ → Net → List ℕ
places nodes net = map (home_node nodes) (range_with_len 0 (length net.actors))

-- node i before its first entry: it knows the network and where each actor lives, and its own actors live there
abbrev pub openings : ℕ → Net → ℕ → NodeState
openings nodes net i = opened (node_spec i) run_app net (places nodes net)

-- where an actor lives; those of no network of the run live nowhere
abbrev pub home : ℕ → Net → ActorId → Option ℕ
home nodes net a = if same_app a.app run_app then slice_get (places nodes net) a.actor else None

abbrev pub owners : ℕ → Net → Owners
owners nodes net a = owner_in (home nodes net a)

-- the network of the run's one application; no other is ever deployed
abbrev pub nets : Net → ActorSpec → Nets
nets net nobody = record { net = λ app. net; nobody = nobody }

-- what the actors in their places mean before the first entry: nothing was fired
abbrev pub start : ℕ → Net → ActorSpec → Meaning
start nodes net nobody = placed_meaning (nets net nobody) (home nodes net)

-- 3. Items

-- two different nodes
pub record IsLink (nodes from to : ℕ) : Type 0 where
  pub sender : IsNode nodes from
  pub receiver : IsNode nodes to
  pub differ : from ≢ to

-- the item is one of a link between two of the nodes
abbrev pub ItemFits : ℕ → Item → Type 0
ItemFits nodes (item.Move actor node after) = ⊥
ItemFits nodes (item.Lose from to k) = IsLink nodes from to
ItemFits nodes (item.Twice from to k) = IsLink nodes from to
ItemFits nodes (item.Cut from to k) = IsLink nodes from to

abbrev pub ItemsFit : ℕ → List Item → Type 0
ItemsFit nodes items = (i : Item) → Contains items i → ItemFits nodes i
