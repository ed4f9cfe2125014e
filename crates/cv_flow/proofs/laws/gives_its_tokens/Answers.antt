use Rattle.cv_flow.proofs.Giving.{gives_its_tokens}
use Rattle.cv_flow.proofs.laws.gives_its_tokens.Goals as goal

pub returns : goal.returns
returns c = gives_its_tokens _
