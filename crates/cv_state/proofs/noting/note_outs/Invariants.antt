use Rattle.std.proofs.Common.{◌≡◌, ◌≤◌, drop}
use Rattle.cv_protocol.specs.Deliveries.{outs_noted}
use Rattle.cv_state.specs.Arrivals.{readers_in}
use Rattle.cv_state.proofs.noting.note_outs.Given as goal

abbrev pub invariant-loop-out : goal.invariant-loop-out
invariant-loop-out l = record {
  whole : outs_noted l.actor (drop l.out-index l.outs) l.producers.map ≡ outs_noted l.actor l.outs l.fn.producers.map;
  room : readers_in (drop l.out-index l.outs) ≤ l.producers.spare;
}
