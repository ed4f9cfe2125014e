use denote.Param.Send.{sendable}
use Rattle.cv_link.proofs.Crossing.{tx_send, rx_send}
use Rattle.cv_link_rows.proofs.links.ends_may_cross_to_threads.Goals as goal

pub may_cross-requires-send-T : goal.may_cross-requires-send-T
may_cross-requires-send-T g c κs = search (tx_send, sendable)

pub may_cross-requires-2-send-T : goal.may_cross-requires-2-send-T
may_cross-requires-2-send-T g c κs = search (rx_send, sendable)
