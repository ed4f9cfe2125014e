use Rattle.cv_record.proofs.OneBad.{one_first_bad}
use Rattle.cv_record.proofs.law.one_first_bad.Goals as goal

pub returns : goal.returns
returns c = one_first_bad
