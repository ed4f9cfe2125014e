use Rattle.cv_protocol.proofs.Causes.{stamps_rise}
use Rattle.cv_protocol.proofs.law.stamps_rise.Goals as goal

pub returns : goal.returns
returns c = stamps_rise
