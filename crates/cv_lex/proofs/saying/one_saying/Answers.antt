use Rattle.cv_lex.proofs.Forms.{says_read, read_says, says_once}
use Rattle.cv_lex.proofs.saying.one_saying.Goals as goal

pub returns-clause-same : goal.returns-clause-same
returns-clause-same c = λ inside text. (read_says 0 0 inside text, says_read 0 inside text)

pub returns-clause-one : goal.returns-clause-one
returns-clause-one c = says_once
