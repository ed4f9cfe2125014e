use Rattle.cv_handover.proofs.Placing.{streams_placed}
use Rattle.cv_handover.proofs.Records.{streams_agreed, streams_opened}
use Rattle.cv_handover.proofs.law.streams_in_order.Goals as goal

pub returns : goal.returns
returns c = record { agreed = streams_agreed; opened = streams_opened; placed = streams_placed }
