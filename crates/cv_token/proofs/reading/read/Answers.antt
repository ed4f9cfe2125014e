-- The text of a token that fits is read as that token.
use Rattle.std.proofs.Common.{◌∙◌, ap, subst}
use Rattle.cv_token.specs.Reading.{Answers, reading}
use Rattle.cv_token.proofs.Round.{reading-spelling}
use Rattle.cv_token.proofs.reading.read.Goals as goal

pub returns-clause-again : goal.returns-clause-again
returns-clause-again c = λ t f e. subst (Answers c.read_within.result) (ap reading e ∙ reading-spelling t f) c.read_within.ensures.exact
