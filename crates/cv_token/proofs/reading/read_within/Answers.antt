use Rattle.std.proofs.Common.{◌≡◌, ◌≤◌, arith}
use Rattle.serde_json.specs.Data.{depth as data_depth}
use Rattle.serde_json.specs.View.{view}
use Rattle.cv_token.specs.Shape.{depth}
use Rattle.cv_token.proofs.Founds.{depth-token_of}
use Rattle.cv_token.proofs.reading.read_within.Goals as goal

pub returns-clause-within : goal.returns-clause-within
returns-clause-within c =
    let d = view c.in_ok-value.value in
    let t = c.in_ok-token.token in
    let same : depth t ≡ data_depth d = depth-token_of d t c.in_ok-token.ensures in
    let deep : data_depth d ≤ 16 = c.in_ok-check_depth.ensures.shallow in
    c.check_size.ensures.within (omega arith)
