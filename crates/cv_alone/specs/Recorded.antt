-- The record of a run of one node, and what its end says.
use Rattle.std.specs.Prelude.{◌≡◌, ℕ, ◌<◌, ◌==◌, if◌then◌else◌, true, List, [], ◌∷◌, length, Some, codes}
use Rattle.cv_kinds.specs.Net.{Net}
use Rattle.cv_rules.specs.declared.attrs.NodeSpec.{NodeSpec}
use Rattle.cv_protocol.specs.declared.event.Entry.{Entry}
use Rattle.cv_protocol.specs.declared.event.Event.TheVariants as event
use Rattle.cv_protocol.specs.declared.event.Record.{Record}
use Rattle.cv_protocol.specs.NodeState.{NodeState, opening}
use Rattle.cv_protocol.specs.Journals.{replay, IsRecordOf}
use Rattle.cv_alone.specs.declared.alone.RunEnd.{RunEnd}
use Rattle.cv_alone.specs.declared.alone.RunEnd.TheVariants.{Spent, Quiescent}
use Rattle.cv_node.specs.Counts.{firing_count}
use Rattle.cv_alone.specs.Going.{EndsInFiring, are_own}
use Rattle.cv_alone.specs.Resting.{IsPatient, Quiet}

-- node 1: its number, how many actors it takes, how many tokens of a connection may be on their way, and its name
abbrev pub first_spec : NodeSpec
first_spec = record { no = 1; room = 1024; window = 1; attrs = record { key = codes "node_name.name"; value = codes "node1" } ∷ [] }

-- the deployment of a network under the name of the run, as the first entry
abbrev pub first_entry : Net → Entry
first_entry net = record { stamp = 1; event = event.Deploy (codes "run") net }

-- the journal of node 1, and of no other
abbrev pub only_first : List Entry → ℕ → List Entry
only_first entries i = if 1 == i then entries else []

-- spent comes exactly after the firings that were allowed, quiescent only after fewer and where nothing can happen
abbrev pub EndIsRight : Net → ℕ → RunEnd → ℕ → NodeState → Type 0
EndIsRight net most Spent firings state = firings ≡ most
EndIsRight net most Quiescent firings state =
    (firings < most) × Quiet state (length net.actors) (length net.connections)

-- a record of node 1 alone: its entries are a local run from the opening state, which begins with the deployment of the
-- network and goes on by the node's own events; time goes on only where nothing else can; the end of the run is right; and the
-- record of a spent run ends with the firing that spent it
pub record IsOneNodeRun (net : Net) (most : ℕ) (stop : RunEnd) (m : Record) : Type 0 where
  pub more : List Entry
  pub state : NodeState
  pub one_spec : m.specs ≡ first_spec ∷ []
  pub recorded : IsRecordOf (only_first (first_entry net ∷ more)) m.entries
  pub local_run : replay (opening first_spec) (first_entry net ∷ more) ≡ Some state
  pub own : are_own more ≡ true
  -- time goes on only where nothing else can happen
  pub patient : IsPatient (length net.actors) (length net.connections) (opening first_spec) (first_entry net ∷ more)
  pub ends : EndIsRight net most stop (firing_count more) state
  pub spends : stop ≡ Spent → 0 < most → EndsInFiring (first_entry net ∷ more)
