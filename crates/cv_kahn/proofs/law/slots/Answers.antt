use Rattle.cv_kahn.proofs.Kahn.{slots}
use Rattle.cv_kahn.proofs.law.slots.Goals as goal

pub returns : goal.returns
returns c = slots
