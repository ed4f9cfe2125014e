use Rattle.std.proofs.Common.{arith, rules}
use Rattle.cv_kinds.specs.declared.duration.TheConstants.{ABOVE}
use Rattle.cv_kinds.proofs.Givens.{next_digit}
use Rattle.cv_kinds.proofs.duration.number_of.Goals as goal

pub loop-digit-preserved : goal.loop-digit-preserved
loop-digit-preserved c = record {
  few = omega (arith, c.with_digit-number.ensures);
  whole = next_digit ABOVE c.loop-digit.number c.with_digit-number.result c.loop-digit.digit-index c.args.digits.now _ c.loop-digit-test.true (search rules) c.with_digit-number.ensures c.loop-digit.invariant.whole;
}
