use Rattle.cv_kinds.proofs.Promises.{gives_tokens}
use Rattle.cv_kinds.proofs.laws.gives_its_tokens.Goals as goal

pub returns : goal.returns
returns c = gives_tokens _
