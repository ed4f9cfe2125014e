use Rattle.cv_http.specs.RequestLaws.{one_fault}
use Rattle.cv_http.proofs.laws.one_fault.Goals as goal

pub returns : goal.returns
returns c = one_fault
