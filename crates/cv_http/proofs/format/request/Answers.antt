use Rattle.std.proofs.Common.{ap, Err}
use Rattle.httparse.specs.Grammar.{is_token_byte}
use Rattle.http_header.specs.Token as header
use Rattle.cv_http.proofs.format.request.Goals as goal

pub unreachable-requires : goal.unreachable-requires
unfolding is_token_byte header.is_token_byte
unreachable-requires c = c.in-Err-Invalid.ensures.invalid.0 (ap Err c.in-Err-Invalid.field-0-is) c.requires.method
