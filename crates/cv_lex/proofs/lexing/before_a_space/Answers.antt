use Rattle.cv_lex.proofs.Spaced.{lexeme_stands, space_stands}
use Rattle.cv_lex.proofs.lexing.before_a_space.Goals as goal

pub returns-clause-lexeme : goal.returns-clause-lexeme
returns-clause-lexeme c = lexeme_stands

pub returns-clause-space : goal.returns-clause-space
returns-clause-space c = space_stands
