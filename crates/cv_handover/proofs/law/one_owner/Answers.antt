use Rattle.cv_handover.proofs.Placing.{owners_placed}
use Rattle.cv_handover.proofs.Records.{owners_agreed, owners_opened}
use Rattle.cv_handover.proofs.law.one_owner.Goals as goal

pub returns : goal.returns
returns c = record { agreed = owners_agreed; opened = owners_opened; placed = owners_placed }
