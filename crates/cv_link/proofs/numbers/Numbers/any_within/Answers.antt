use Rattle.cv_link.proofs.Sets.{has_within_first}
use Rattle.cv_link.proofs.numbers.Numbers.any_within.Goals as goal

pub returns : goal.returns
returns c =
    let first = has_within_first c.self.inside.numbers _ _ c.range.result c.next.new.self c.next.result (c.range.ensures.in_range c.new.ensures.exhausted) c.next.ensures.steps in
    rw (c.is_some.ensures, ← c.self.view_is, ← c.new.ensures.start, ← c.new.ensures.end) first
