use Rattle.std.proofs.Common.{◌≡◌, ◌≤◌, drop}
use Rattle.cv_lex.specs.Numbers.{value_after}
use Rattle.cv_lex.proofs.numbers.digits_value.Given as goal

-- the digits that are left, behind those so far, spell the whole number
abbrev pub invariant-loop-digit : goal.invariant-loop-digit
invariant-loop-digit l = record {
  small : l.value ≤ l.most;
  left : value_after l.value (drop l.digit-index l.digits) ≡ value_after 0 l.digits;
}
