use Rattle.cv_kinds.proofs.Promises.{gives_few}
use Rattle.cv_kinds.proofs.laws.gives_at_most_one.Goals as goal

pub returns : goal.returns
returns c = gives_few _
