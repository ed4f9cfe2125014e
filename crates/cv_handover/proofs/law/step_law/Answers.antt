use Rattle.cv_handover.proofs.Steps.{every_step}
use Rattle.cv_handover.proofs.law.step_law.Goals as goal

pub returns : goal.returns
returns c = every_step
