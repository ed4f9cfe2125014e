-- The cluster of a run: before its first round, how it went on, and the record of its journals.
use Rattle.std.specs.Prelude.{◌≡◌, ℕ, false, List, [], map}
use Rattle.std.specs.List.{range_with_len}
use Rattle.cv_kinds.specs.Net.{Net}
use Rattle.cv_rules.specs.declared.attrs.NodeSpec.{NodeSpec}
use Rattle.cv_protocol.specs.declared.event.Entry.{Entry}
use Rattle.cv_protocol.specs.declared.event.Record.{Record}
use Rattle.cv_protocol.specs.Journals.{IsRecordOf}
use Rattle.cv_node.specs.Journalled.{Journalled}
use Rattle.cv_link.specs.declared.items.Item.{Item}
use Rattle.cv_merge.specs.Lanes.{Lane, entries_at}
use Rattle.cv_cluster.specs.Cluster.{ClusterView, IsHonest, node_number}
use Rattle.cv_spread.specs.Placing.{openings}

-- node i before its first entry
abbrev pub node_at : ℕ → Net → ℕ → Journalled
node_at nodes net i = record { base = openings nodes net i; state = openings nodes net i; entries = []; spare = 0 }

-- the nodes 1 to `nodes` before their first entries, with these items
abbrev pub opened_cluster : ℕ → Net → List Item → ClusterView
opened_cluster nodes net items =
    record { items = items; nodes = map (node_at nodes net) (range_with_len 1 nodes); failed = false }

abbrev pub spec_of : Journalled → NodeSpec
spec_of n = n.base.spec

-- the journal of a node
abbrev pub lane_of : Journalled → Lane
lane_of n = record { node = node_number n; entries = n.entries }

-- the journal of node i, empty where there is none
abbrev pub journals_of : List Journalled → ℕ → List Entry
journals_of nodes i = entries_at (map lane_of nodes) i

-- the record of the journals of a cluster
pub record IsRecordFor (c : ClusterView) (m : Record) : Type 0 where
  pub honest : IsHonest c
  pub specs : m.specs ≡ map spec_of c.nodes
  pub entries : IsRecordOf (journals_of c.nodes) m.entries
