use Rattle.std.proofs.Common.{arith}
use Rattle.cv_lex.proofs.Found.{all_cut, all_fit}
use Rattle.cv_lex.proofs.Named.{all_named}
use Rattle.cv_lex.proofs.Spelled.{spelled_lexemes}
use Rattle.cv_lex.proofs.wording.words.Goals as goal

pub word_of-requires-clause-cut : goal.word_of-requires-clause-cut
word_of-requires-clause-cut c = all_cut c.args.source.now c.args.found.now c.utf8.source (spelled_lexemes 0 _ _ c.requires) _ _ (omega arith)

pub word_of-requires-clause-named : goal.word_of-requires-clause-named
word_of-requires-clause-named c = all_named c.args.source.now c.args.found.now (spelled_lexemes 0 _ _ c.requires) _ _ (omega arith)

pub returns-in_err-word-clause-fit : goal.returns-in_err-word-clause-fit
returns-in_err-word-clause-fit c = all_fit c.args.source.now c.args.found.now c.utf8.source (spelled_lexemes 0 _ _ c.requires)

pub returns-in_err-push-clause-fit : goal.returns-in_err-push-clause-fit
returns-in_err-push-clause-fit c = all_fit c.args.source.now c.args.found.now c.utf8.source (spelled_lexemes 0 _ _ c.requires)

pub returns-clause-fit : goal.returns-clause-fit
returns-clause-fit c = all_fit c.args.source.now c.args.found.now c.utf8.source (spelled_lexemes 0 _ _ c.requires)
