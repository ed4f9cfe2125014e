use Rattle.std.proofs.lemmas.Bool.{and_parts}
use Rattle.cv_behave.specs.KindRow.{head_at}
use Rattle.cv_kinds.specs.KindRow.{row_of}
use Rattle.cv_kinds.proofs.Promises.{acts_within}
use Rattle.cv_kinds.proofs.laws.ready_is_there.Goals as goal

pub returns : goal.returns
returns c = λ args state action inputs e. acts_within (row_of c.args._kind) args state action (head_at (row_of c.args._kind).guard_port inputs) (and_parts _ _ e).1
