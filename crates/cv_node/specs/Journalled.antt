-- A node with its journal, and what one step does to both.
use Rattle.std.specs.Prelude.{◌≡◌, ℕ, ◌+◌, ◌-◌, ◌≤◌, List, [], ◌∷◌, ◌++◌, Some, refl}
use Rattle.std.specs.Coded.{Coded, code_by, coded×, coded_list, coded_ℕ}
use Rattle.cv_protocol.specs.declared.event.Entry.{Entry}
use Rattle.cv_protocol.specs.contracts.event.Entry as entry
use Rattle.cv_protocol.specs.declared.event.Event.{Event}
use Rattle.cv_protocol.specs.declared.event.Sent.{Sent}
use Rattle.cv_rules.specs.declared.attrs.NodeSpec.{NodeSpec}
use Rattle.cv_protocol.specs.NodeState.{NodeState, node_code, opening}
use Rattle.cv_protocol.specs.NodeRow.{row, stamp_of}
use Rattle.cv_protocol.specs.Journals.{replay}
use Rattle.cv_state.specs.Steps.{LeadsTo}
use Rattle.cv_node.specs.Counts.{journal_length}

-- the state before the first entry, the state now, the entries between them, and for how many entries more room was made ahead
pub record Journalled : Type 0 where
  pub base : NodeState
  pub state : NodeState
  pub entries : List Entry
  pub spare : ℕ

abbrev pub journalled_code : Coded Journalled
journalled_code =
    code_by (NodeState × (NodeState × (List Entry × ℕ))) (coded× node_code (coded× node_code (coded× (coded_list entry.the_row.coded) coded_ℕ))) (λ j. (j.base, (j.state, (j.entries, j.spare)))) (λ p. record { base = p.0; state = p.1.0; entries = p.1.1.0; spare = p.1.1.1 }) (λ _. refl)

-- the state before the first entry: the one that was noted, where one was
abbrev pub base_of : {A : Type 0} → NodeSpec → List (NodeState × A) → NodeState
base_of spec [] = opening spec
base_of spec (noted ∷ more) = noted.0

-- the state is what the entries leave of the base, each a row of the state before it, with the stamp of that row
pub record IsReplay (base state : NodeState) (entries : List Entry) : Type 0 where
  pub replays : replay base entries ≡ Some state

-- and the journal's specification is that of the base
pub record IsJournal (base : NodeState) (spec : NodeSpec) (state : NodeState) (entries : List Entry) : Type 0 where
  pub leaves : IsReplay base state entries
  pub own : base.spec ≡ spec

-- a journal of so many entries has room for `spare` more, within the most that it may have
pub record HasSpare (spare entries capacity : ℕ) : Type 0 where
  pub room : entries + spare ≤ capacity
  pub within : spare ≤ journal_length - entries

abbrev pub entry_of_row : NodeState → Event → Entry
entry_of_row s e = record { stamp = stamp_of s e; event = e }

-- one step: a row of the state, which sends these frames, and its entry at the journal's end, which uses one of the room made ahead
pub record MakesStep (old : Journalled) (e : Event) (sent : Sent) (new : Journalled) : Type 0 where
  pub does : LeadsTo (row old.state e) new.state sent
  pub appends : new.entries ≡ old.entries ++ entry_of_row old.state e ∷ []
  pub based : new.base ≡ old.base
  pub spares : new.spare ≡ old.spare - 1
