use Rattle.cv_kinds.proofs.Promises.{stays}
use Rattle.cv_kinds.proofs.laws.ready_stays_ready.Goals as goal

pub returns : goal.returns
returns c = stays _
