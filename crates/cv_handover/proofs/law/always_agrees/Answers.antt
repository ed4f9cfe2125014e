use Rattle.cv_handover.proofs.Placing.{holds_placed}
use Rattle.cv_handover.proofs.Records.{holds_agreed, holds_opened}
use Rattle.cv_handover.proofs.law.always_agrees.Goals as goal

pub returns : goal.returns
returns c = record { agreed = holds_agreed; opened = holds_opened; placed = holds_placed }
