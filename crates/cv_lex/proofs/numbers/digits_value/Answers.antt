use Rattle.std.proofs.Common.{◌+◌, ◌-◌, ◌*◌, get_or, drop, arith}
use Rattle.cv_lex.specs.Numbers.{number_of}
use Rattle.cv_lex.proofs.Numerals.{value_after-le, value_after-drop, at_most-above}
use Rattle.cv_lex.proofs.numbers.digits_value.Goals as goal

-- the digits that are left make the number no smaller
pub returns-then-value-from : goal.returns-then-value-from
returns-then-value-from c =
    let ds = c.args.digits.now in
    let i = c.loop-digit.digit-index in
    let more = value_after-drop c.loop-digit.value ds i (omega arith) in
    let least = value_after-le (c.loop-digit.value * 10 + (get_or ds i 0 - 48)) (drop (i + 1) ds) in
    at_most-above c.args.most (number_of ds) (omega (arith, more, least, c.loop-digit.invariant.left))
