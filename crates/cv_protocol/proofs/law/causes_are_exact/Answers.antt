use Rattle.cv_protocol.proofs.Causes.{rows_and_causes}
use Rattle.cv_protocol.proofs.law.causes_are_exact.Goals as goal

pub returns : goal.returns
returns c = rows_and_causes
