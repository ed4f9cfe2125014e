use Rattle.std.proofs.Common.{◌≡◌, ◌+◌, ◌≤◌, drop, length}
use Rattle.cv_protocol.specs.Rows.{producers_noted}
use Rattle.cv_state.proofs.known.note_producers.Given as goal

abbrev pub invariant-loop-place : goal.invariant-loop-place
invariant-loop-place l = record {
  room : length l.connections ≤ l.producers.spare + l.place;
  whole : producers_noted l.app l.place (drop l.place l.connections) l.producers.map ≡ producers_noted l.app 0 l.connections l.fn.producers.map;
}
