use Rattle.std.proofs.Common.{subst}
use Rattle.cv_lex.specs.Lexemes.{Gives}
use Rattle.cv_lex.proofs.Deciding.{fault_only}
use Rattle.cv_lex.proofs.Rising.{gives_rising}
use Rattle.cv_lex.proofs.Spelled.{gives_caused, gives_spelled, spelled_lexemes}
use Rattle.cv_lex.proofs.lexing.lex.Goals as goal

pub returns-clause-found : goal.returns-clause-found
returns-clause-found c = gives_spelled c.lex_all.result c.args.source.now c.lex_all.ensures

pub returns-clause-only : goal.returns-clause-only
returns-clause-only c = λ ls spelled. subst (Gives c.lex_all.result) (spelled_lexemes 0 c.args.source.now ls spelled) c.lex_all.ensures

pub returns-clause-cause : goal.returns-clause-cause
returns-clause-cause c = gives_caused c.lex_all.result c.args.source.now c.lex_all.ensures

pub returns-clause-rising : goal.returns-clause-rising
returns-clause-rising c = gives_rising c.lex_all.result c.args.source.now c.lex_all.ensures

pub returns-clause-faulty : goal.returns-clause-faulty
returns-clause-faulty c = λ fault has. subst (Gives c.lex_all.result) (fault_only c.args.source.now fault has) c.lex_all.ensures
