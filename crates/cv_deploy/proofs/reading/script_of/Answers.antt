use Rattle.std.proofs.Common.{inr}
use Rattle.cv_deploy.proofs.Causes.{lex_caused, parse_caused}
use Rattle.cv_deploy.proofs.Texts.{lex_stopped, parse_stopped, script_read}
use Rattle.cv_deploy.proofs.reading.script_of.Goals as goal

pub returns-clause-fault : goal.returns-clause-fault
returns-clause-fault c =
    parse_caused c.args.source.now c.in-Ok.lexemes.items c.in-Err-parse.fault c.of_parse.result c.utf8.source c.in-Ok.ensures.found (rw c.as_slice.ensures.value at c.in-Err-parse.ensures.fault) c.of_parse.ensures

pub returns-in-Err-clause-fault : goal.returns-in-Err-clause-fault
returns-in-Err-clause-fault c = lex_caused c.args.source.now c.in-Err.fault c.of_lex.result c.utf8.source c.in-Err.ensures.cause c.of_lex.ensures

pub returns-in-Err-clause-faulty : goal.returns-in-Err-clause-faulty
returns-in-Err-clause-faulty c = λ fault has.
    lex_stopped c.args.source.now c.in-Err.fault c.of_lex.result fault c.utf8.source c.of_lex.ensures c.in-Err.ensures.faulty c.in-Err.ensures.only has

pub returns-in-Ok-parse-clause-faulty : goal.returns-in-Ok-parse-clause-faulty
returns-in-Ok-parse-clause-faulty c = λ fault has.
    inr (script_read c.args.source.now c.in-Ok.lexemes c.in-Ok-parse.script fault c.utf8.source c.in-Ok.ensures.faulty c.in-Ok.ensures.only (rw c.as_slice.ensures.value at c.in-Ok-parse.ensures.faulty) has)

pub returns-clause-faulty : goal.returns-clause-faulty
returns-clause-faulty c = λ fault has.
    parse_stopped c.args.source.now c.in-Ok.lexemes c.in-Err-parse.fault c.of_parse.result fault c.utf8.source c.of_parse.ensures c.in-Ok.ensures.faulty c.in-Ok.ensures.only (rw c.as_slice.ensures.value at c.in-Err-parse.ensures.faulty) has
