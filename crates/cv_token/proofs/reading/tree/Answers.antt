use Rattle.serde_json.specs.View.{view}
use Rattle.cv_token.proofs.Answered.{found_depth}
use Rattle.cv_token.proofs.reading.tree.Goals as goal

pub returns-clause-nests : goal.returns-clause-nests
returns-clause-nests c = found_depth c.token_from.result (view c.in_ok-value.value) c.token_from.ensures c.in_ok-value.ensures.nests
