use Rattle.std.proofs.Common.{refl}
use Rattle.cv_behave.proofs.Ready.{stays_ready}
use Rattle.cv_calc.specs.Rows.{row_of}
use Rattle.cv_calc.proofs.laws.ready_stays_ready.Goals as goal

pub returns : goal.returns
returns c = stays_ready (row_of c.args._kind) refl
