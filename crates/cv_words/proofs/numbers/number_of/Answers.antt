use Rattle.std.proofs.Common.{arith, rules}
use Rattle.cv_words.proofs.Digits.{digits_grow, digits_rest}
use Rattle.cv_words.proofs.numbers.number_of.Goals as goal

pub overflow_mul-number : goal.overflow_mul-number
overflow_mul-number c =
    let grown = digits_grow c.loop-digit.number c.loop-digit.digit-index 0 c.loop-digit.invariant.small (omega arith) (omega arith) in
    omega (arith, grown.1)

pub overflow_add-number : goal.overflow_add-number
overflow_add-number c =
    let digit = digits_rest c.args.digits.now c.loop-digit.digit-index c.loop-digit-test.true c.loop-digit.invariant.rest in
    let grown = digits_grow c.loop-digit.number c.loop-digit.digit-index c.from.result c.loop-digit.invariant.small (omega arith) (omega (arith, digit.0)) in
    omega (arith, grown.1)

pub loop-digit-preserved : goal.loop-digit-preserved
loop-digit-preserved c =
    let digit = digits_rest c.args.digits.now c.loop-digit.digit-index c.loop-digit-test.true c.loop-digit.invariant.rest in
    let grown = digits_grow c.loop-digit.number c.loop-digit.digit-index c.from.result c.loop-digit.invariant.small (omega arith) (omega (arith, digit.0)) in
    record { value = search rules; small = grown.0; rest = digit.1 }
