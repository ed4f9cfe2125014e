use Rattle.cv_lex.proofs.Spelled.{one_spelling, lexemes_spelled, spelled_lexemes}
use Rattle.cv_lex.proofs.lexing.one_spelling.Goals as goal

pub returns-clause-one : goal.returns-clause-one
returns-clause-one c = one_spelling

pub returns-clause-same : goal.returns-clause-same
returns-clause-same c = λ bytes ls. (lexemes_spelled bytes ls, spelled_lexemes 0 bytes ls)
