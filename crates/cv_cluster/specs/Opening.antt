-- The nodes that a cluster is made of, and how they open with the actors of a network in their places.
use Rattle.std.specs.Prelude.{◌≡◌, ℕ, ◌==◌, ◌&&◌, not, Bool, true, false, nat_le, List, [], map, Contains}
use Rattle.std.specs.List.{list_all, list_any}
use Rattle.cv_kinds.specs.Net.{Net}
use Rattle.cv_rules.specs.declared.attrs.NodeSpec.{NodeSpec}
use Rattle.cv_protocol.specs.NodeState.{opening}
use Rattle.cv_state.specs.Opening.{opened}
use Rattle.cv_node.specs.Journalled.{Journalled}
use Rattle.cv_link.specs.declared.items.Item.{Item}
use Rattle.cv_link.specs.declared.items.Item.TheVariants as item
use Rattle.cv_alone.specs.Resting.{run_app}
use Rattle.cv_cluster.specs.Cluster.{ClusterView, node_number}

-- 1. Nodes

-- the number and the window of a node are from 1 to 64
abbrev pub is_for_node : NodeSpec → Bool
is_for_node spec = nat_le 1 spec.no && (nat_le spec.no 64 && (nat_le 1 spec.window && nat_le spec.window 64))

abbrev pub AllAreForNodes : List NodeSpec → Type 0
AllAreForNodes specs = list_all is_for_node specs ≡ true

-- a node before its first entry
abbrev pub new_node : NodeSpec → Journalled
new_node spec = record { base = opening spec; state = opening spec; entries = []; spare = 0 }

-- 2. Items

-- one of the numbers is that one
abbrev pub is_among : List ℕ → ℕ → Bool
is_among numbers number = list_any (λ n. n == number) numbers

-- the link leads from one of the nodes to another one
abbrev pub are_two : List ℕ → ℕ → ℕ → Bool
are_two nodes from to = is_among nodes from && (is_among nodes to && not (from == to))

-- the item is one of a link between two of the nodes
abbrev pub fits : List ℕ → Item → Bool
fits nodes (item.Move actor node after) = false
fits nodes (item.Lose from to k) = are_two nodes from to
fits nodes (item.Twice from to k) = are_two nodes from to
fits nodes (item.Cut from to k) = are_two nodes from to

abbrev pub AllItemsFit : List NodeSpec → List Item → Type 0
AllItemsFit specs items = list_all (fits (map (λ (s : NodeSpec). s.no) specs)) items ≡ true

-- 3. Opening

-- each node is one before its first entry, which knows itself alone
abbrev pub AllUnused : List Journalled → Type 0
AllUnused nodes = (n : Journalled) → Contains nodes n → n ≡ new_node n.base.spec

-- each of the numbers is that of a node
abbrev pub AllAmong : List ℕ → List Journalled → Type 0
AllAmong numbers nodes = list_all (is_among (map node_number nodes)) numbers ≡ true

-- a node of that specification with the actors of the network in their places
abbrev pub opened_as : Net → List ℕ → NodeSpec → Journalled
opened_as net at spec =
    record { base = opened spec run_app net at; state = opened spec run_app net at; entries = []; spare = 0 }

-- and one of the same specification
abbrev pub opened_node : Net → List ℕ → Journalled → Journalled
opened_node net at n = opened_as net at n.base.spec

-- each node opened
pub record Opens (old : ClusterView) (net : Net) (at : List ℕ) (new : ClusterView) : Type 0 where
  pub items : new.items ≡ old.items
  pub failed : new.failed ≡ old.failed
  pub nodes : new.nodes ≡ map (opened_node net at) old.nodes
