use Rattle.cv_kahn.proofs.Kahn.{one_begins, same}
use Rattle.cv_kahn.proofs.law.agree.Goals as goal

pub returns : goal.returns
returns c = record { one_begins = one_begins; same = same }
