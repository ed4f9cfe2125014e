use Rattle.cv_handover.proofs.Rounding.{rounds_opened, rounds_placed}
use Rattle.cv_handover.proofs.law.as_the_rounds.Goals as goal

pub returns : goal.returns
returns c = record { opened = rounds_opened; placed = rounds_placed }
