use Rattle.cv_kinds.proofs.Kept.{keeps}
use Rattle.cv_kinds.proofs.laws.keeps_state.Goals as goal

pub returns : goal.returns
returns c = keeps _
