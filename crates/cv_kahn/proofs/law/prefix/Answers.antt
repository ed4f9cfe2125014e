use Rattle.cv_kahn.proofs.Kahn.{prefix}
use Rattle.cv_kahn.proofs.law.prefix.Goals as goal

pub returns : goal.returns
returns c = prefix
