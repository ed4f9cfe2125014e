use Rattle.cv_handover.proofs.Placing.{each_placed}
use Rattle.cv_handover.proofs.Alone.{each_agreed, each_opened}
use Rattle.cv_handover.proofs.law.as_one_runtime.Goals as goal

pub returns : goal.returns
returns c = record { agreed = each_agreed; opened = each_opened; placed = each_placed }
