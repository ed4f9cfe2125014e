-- A token that moves between two ports of one actor.
use Rattle.std.specs.Prelude.{ℕ, ◌<◌, ◌≤◌, Bool, false, length, slice_set, Option, Some, None}
use Rattle.cv_queue.specs.Ports.{OutView, received}
use Rattle.cv_endpoint.specs.Ends.{acked, in_after_move, is_there, out_after_move, to_move}
use Rattle.cv_protocol.specs.declared.state.Inlet.{Inlet}
use Rattle.cv_protocol.specs.Actors.{LiveState}
use Rattle.cv_protocol.specs.Rows.{inlet_at}

-- both ports are there, the outport has the reader, and the inport received what the reader has acknowledged
abbrev pub MayPass : ℕ → Option OutView → Option Inlet → Type 0
MayPass reader None i = ⊥
MayPass reader (Some o) None = ⊥
MayPass reader (Some o) (Some i) = (reader < length o.readers) × (acked o reader ≤ received i.port)

-- whether a token can be passed on
abbrev pub can_pass : ℕ → Option OutView → Option Inlet → Bool
can_pass reader None i = false
can_pass reader (Some o) None = false
can_pass reader (Some o) (Some i) = is_there (to_move o reader i.port)

-- the ports after it
abbrev pub out_passed : ℕ → OutView → Option Inlet → OutView
out_passed reader o None = o
out_passed reader o (Some i) = out_after_move o reader i.port

abbrev pub in_passed : ℕ → OutView → Option Inlet → Option Inlet
in_passed reader o None = None
in_passed reader o (Some i) = Some (record i { port = in_after_move o reader i.port })

-- and the actor
abbrev pub passed : LiveState → ℕ → ℕ → ℕ → Option OutView → LiveState
passed l out reader inp None = l
passed l out reader inp (Some o) = record l {
  actor = record (l.actor) {
    ins = slice_set l.actor.ins inp (in_passed reader o (inlet_at l inp));
    outs = slice_set l.actor.outs out (out_passed reader o (inlet_at l inp));
  };
}
