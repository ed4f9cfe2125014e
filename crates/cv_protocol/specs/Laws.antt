-- What holds of the table of rows, whatever the state.
use Rattle.std.specs.Prelude.{◌≡◌, ◌<◌, not, is_some, IfSome}
use Rattle.cv_protocol.specs.declared.event.Event.{Event}
use Rattle.cv_protocol.specs.NodeState.{NodeState}
use Rattle.cv_protocol.specs.Rows.{Did}
use Rattle.cv_protocol.specs.NodeRow.{row, stamp_of, cause_of}

-- an event has a cause exactly where it is no row of the state
abbrev pub CausesAreExact : Type 0
CausesAreExact = (s : NodeState) (e : Event) → is_some (row s e) ≡ not (is_some (cause_of s e))

-- a row leaves the node with the stamp of its entry, which is above the one before
abbrev pub Rises : NodeState → Event → Did → Type 0
Rises s e d = (d.next.stamp ≡ stamp_of s e) × (s.stamp < d.next.stamp)

abbrev pub StampsRise : Type 0
StampsRise = (s : NodeState) (e : Event) → IfSome (row s e) (Rises s e)
