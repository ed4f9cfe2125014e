use Rattle.cv_http.specs.WindowLaws.{window_is}
use Rattle.cv_http.proofs.laws.windows.Goals as goal

pub returns : goal.returns
returns c = window_is
