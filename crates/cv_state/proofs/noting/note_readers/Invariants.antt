use Rattle.std.proofs.Common.{◌≡◌, ◌+◌, ◌≤◌, drop}
use Rattle.cv_protocol.specs.Deliveries.{readers_noted}
use Rattle.cv_state.proofs.noting.note_readers.Given as goal

abbrev pub invariant-loop-number : goal.invariant-loop-number
invariant-loop-number l = record {
  whole : readers_noted l.actor (drop l.number l.out.readers) l.producers.map ≡ readers_noted l.actor l.out.readers l.fn.producers.map;
  room : l.fn.producers.spare ≤ l.producers.spare + l.number;
}
