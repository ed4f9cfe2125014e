use Rattle.cv_kahn.proofs.Kahn.{whole}
use Rattle.cv_kahn.proofs.law.whole.Goals as goal

pub returns : goal.returns
returns c = whole
