use Rattle.std.proofs.Common.{◌≡◌, ◌≤◌, ◌^◌, drop, min, option_map}
use Rattle.cv_kinds.specs.Arguments.{read_digits}
use Rattle.cv_kinds.specs.declared.duration.TheConstants.{ABOVE}
use Rattle.cv_kinds.proofs.duration.number_of.Given as goal

abbrev pub invariant-loop-digit : goal.invariant-loop-digit
invariant-loop-digit l = record {
  few : l.number ≤ 2 ^ 31;
  whole : option_map (λ n. min n ABOVE) (read_digits l.number (drop l.digit-index l.digits)) ≡ option_map (λ n. min n ABOVE) (read_digits 0 l.digits);
}
