use Rattle.cv_handover.proofs.Attempting.{attempts_agreed, attempts_opened, attempts_placed}
use Rattle.cv_handover.proofs.law.attempts_are_one.Goals as goal

pub returns : goal.returns
returns c = record { agreed = attempts_agreed; opened = attempts_opened; placed = attempts_placed }
