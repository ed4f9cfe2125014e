-- What an actor ends as, once a port that it lent was written.
use Rattle.std.specs.Prelude.{ℕ, slice_set, Option, Some, None}
use Rattle.std.specs.Borrow.{Fml, MutBor, LendsIf}
use Rattle.cv_queue.specs.Ports.{InView, OutView}
use Rattle.cv_queue.specs.contracts.in_port.InPort as in_port
use Rattle.cv_queue.specs.contracts.out_port.OutPort as out_port
use Rattle.cv_protocol.specs.declared.state.Inlet.{Inlet}
use Rattle.cv_protocol.specs.Actors.{LiveState}
use Rattle.cv_protocol.specs.Rows.{inlet_at, with_out}
use Rattle.cv_actor.specs.contracts.live.Live.{the_row}

-- a fed inport with this port in the place of its own
abbrev pub refilled : InView → Option Inlet → Option Inlet
refilled port None = None
refilled port (Some i) = Some (record i { port = port })

abbrev pub with_inport : LiveState → ℕ → InView → LiveState
with_inport l at port = record l { actor = record (l.actor) { ins = slice_set l.actor.ins at (refilled port (inlet_at l at)) } }

-- the inport is the last one that was written through r; where none was lent the actor stays
abbrev pub LendsInPort : MutBor LiveState → ℕ → Option (MutBor InView) → Fml
LendsInPort s at r = LendsIf the_row in_port.the_row s r (with_inport s.now at) s.now

-- and the outport likewise
abbrev pub LendsOutPort : MutBor LiveState → ℕ → Option (MutBor OutView) → Fml
LendsOutPort s at r = LendsIf the_row out_port.the_row s r (with_out s.now at) s.now
