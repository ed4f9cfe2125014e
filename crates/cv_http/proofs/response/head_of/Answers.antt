use Rattle.std.proofs.Common.{rules, append_assoc}
use Rattle.cv_http.specs.Responses.{response_head}
use Rattle.cv_http.proofs.response.head_of.Goals as goal

pub returns : goal.returns
unfolding response_head
returns c = search (rules, append_assoc)
