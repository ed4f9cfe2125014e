use Rattle.cv_kinds.proofs.Kept.{starts}
use Rattle.cv_kinds.proofs.laws.starts_in_state.Goals as goal

pub returns : goal.returns
returns c = starts _
