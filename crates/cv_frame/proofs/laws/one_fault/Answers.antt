use Rattle.cv_frame.specs.laws.Streams.{one_fault}
use Rattle.cv_frame.proofs.laws.one_fault.Goals as goal

pub returns : goal.returns
returns c = one_fault
