use Rattle.std.proofs.Common.{refl}
use Rattle.cv_token.proofs.reading.check_size.Goals as goal

pub returns-clause-within : goal.returns-clause-within
returns-clause-within c = λ shallow.
    record { token = c.if-not-is_short.ensures.known; shallow = shallow; short = c.if-not-is_short.ensures.short.0 refl }
