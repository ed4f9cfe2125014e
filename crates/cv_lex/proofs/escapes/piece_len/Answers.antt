use Rattle.std.proofs.Common.{◌+◌, ap, ◌∙◌, drop}
use Rattle.std.specs.Prelude.{encode_utf8}
use Rattle.cv_lex.specs.Texts.{escape_of, said_from, bad_of}
use Rattle.cv_lex.proofs.Sayings.{said_from-escape, bad_of-with_bytes}
use Rattle.cv_lex.proofs.escapes.piece_len.Goals as goal

-- the escape itself is good
pub returns-in_ok-escape-clause-step : goal.returns-in_ok-escape-clause-step
returns-in_ok-escape-clause-step c = λ at.
    let escape = c.in_ok-escape.escape in
    ap bad_of (said_from-escape at c.args.bytes.now escape c.if-bytes-eq92.true (c.in_ok-escape.ensures.value ∙ ap escape_of c.split_at.ensures.back))
    ∙ bad_of-with_bytes (encode_utf8 escape.code) (said_from (at + (escape.len + 1)) 0 (drop (escape.len + 1) c.args.bytes.now))
