use Rattle.cv_flow.proofs.Staying.{stays}
use Rattle.cv_flow.proofs.laws.ready_stays_ready.Goals as goal

pub returns : goal.returns
returns c = stays _
