-- Both ends of a ring may cross to another thread.
use denote.Param.Send.{IsSend, sendable}
use Rattle.std.proofs.Crossing.{crosses}
use Rattle.rtrb.proofs.end.End.TheSendSync as ends
use Rattle.cv_protocol.proofs.Crossing.{frame_send}
use Rattle.cv_link.proofs.plan.Plan.TheSendSync as plans
use Rattle.cv_link.specs.contracts.ring.Rx as rx
use Rattle.cv_link.specs.contracts.ring.Tx as tx

pub tx_send : IsSend tx.the_row
tx_send = search (frame_send, ends.the_send, crosses, sendable) depth 60 fits 20000

pub rx_send : IsSend rx.the_row
rx_send = search (frame_send, ends.the_send, plans.the_send, crosses, sendable) depth 60 fits 20000
