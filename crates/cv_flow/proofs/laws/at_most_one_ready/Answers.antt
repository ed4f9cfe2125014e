use Rattle.cv_flow.proofs.Alone.{at_most_one}
use Rattle.cv_flow.proofs.laws.at_most_one_ready.Goals as goal

pub returns : goal.returns
returns c = at_most_one _
