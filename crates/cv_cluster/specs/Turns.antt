-- What a turn of a run does.
use Rattle.std.specs.Prelude.{◌≡◌, ℕ, ◌-◌, ◌<◌, Bool, false, List, length}
use Rattle.std.specs.List.{sum_by}
use Rattle.cv_node.specs.Counts.{journal_length}
use Rattle.cv_node.specs.Journalled.{Journalled}
use Rattle.cv_cluster.specs.declared.running.Turn.{Turn}
use Rattle.cv_cluster.specs.declared.running.Turn.TheVariants as turn

-- how many entries a journal may still get, and how many all journals may
abbrev pub room_of : Journalled → ℕ
room_of n = journal_length - length n.entries

abbrev pub rooms_of : List Journalled → ℕ
rooms_of nodes = sum_by room_of nodes

abbrev pub firings_by : Turn → ℕ
firings_by (turn.Fired count) = count
firings_by turn.Settled = 0
firings_by turn.Ticked = 0
firings_by turn.Rested = 0

-- a turn that does not end the run brings it on: something fired, or all settled that was not, or time went on
abbrev pub BringsOn : Bool → List Journalled → List Journalled → Turn → Type 0
BringsOn settled old new (turn.Fired count) = 0 < count
BringsOn settled old new turn.Settled = settled ≡ false
BringsOn settled old new turn.Ticked = rooms_of new < rooms_of old
BringsOn settled old new turn.Rested = Unit {0}
