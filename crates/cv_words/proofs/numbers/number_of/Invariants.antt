use Rattle.std.proofs.Common.{◌≡◌, ◌<◌, ◌^◌, true, take, drop}
use Rattle.std.specs.List.{list_all}
use Rattle.cv_words.specs.Numbers.{number_of, is_digit}
use Rattle.cv_words.proofs.numbers.number_of.Given as goal

abbrev pub invariant-loop-digit : goal.invariant-loop-digit
invariant-loop-digit l = record {
  value : l.number ≡ number_of (take l.digit-index l.digits);
  small : l.number < 10 ^ l.digit-index;
  rest : list_all is_digit (drop l.digit-index l.digits) ≡ true;
}
