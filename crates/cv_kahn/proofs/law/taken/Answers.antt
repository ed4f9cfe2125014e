use Rattle.cv_kahn.proofs.Kahn.{taken}
use Rattle.cv_kahn.proofs.law.taken.Goals as goal

pub returns : goal.returns
returns c = taken
