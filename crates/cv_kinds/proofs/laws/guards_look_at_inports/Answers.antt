use Rattle.cv_kinds.proofs.Promises.{guard_within}
use Rattle.cv_kinds.proofs.laws.guards_look_at_inports.Goals as goal

pub returns : goal.returns
returns c = guard_within _
