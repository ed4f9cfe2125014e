use Rattle.std.proofs.Common.{arith}
use Rattle.cv_syntax.proofs.Weights.{weight, term_weight}
use Rattle.cv_expand.proofs.Measured.{part_within}
use Rattle.cv_expand.proofs.rules.+copy.Goals as goal

-- what is inside weighs less

pub copy_term-copy_factor-requires : goal.copy_term-copy_factor-requires
copy_term-copy_factor-requires t c =
    let within = part_within weight c.as_slice-factor-items.result.now c.loop-factor.factor-index c.factor-item.result c.loop-factor-test.true c.factor-item.is in
    let here = rw c.as_slice-factor-items.ensures at within in
    (omega (arith, here, c.decreases), tt)

pub copy_terms-copy_term-requires : goal.copy_terms-copy_term-requires
copy_terms-copy_term-requires t c =
    let within = part_within term_weight c.as_slice-term-items.result.now c.loop-term.term-index c.term-item.result c.loop-term-test.true c.term-item.is in
    let here = rw c.as_slice-term-items.ensures at within in
    (omega (arith, here, c.decreases), tt)
