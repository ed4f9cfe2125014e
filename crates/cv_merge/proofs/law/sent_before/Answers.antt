use Rattle.cv_merge.proofs.Bridge.{sent_before}
use Rattle.cv_merge.proofs.law.sent_before.Goals as goal

pub returns : goal.returns
returns c = sent_before
