use Rattle.cv_http.specs.RequestLaws.{stuck}
use Rattle.cv_http.proofs.laws.no_request_at_a_fault.Goals as goal

pub returns : goal.returns
returns c = stuck
