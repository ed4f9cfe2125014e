use Rattle.std.proofs.Common.{◌≡◌, ◌-◌, true, get_or, arith}
use Rattle.std.specs.Char.{is_ascii_digit, digit_value}
use Rattle.std.proofs.lemmas.Bool.Decides.{nat_tests}
use Rattle.std.proofs.lemmas.Int.Digits.{digits_value_more}
use Rattle.std.proofs.lemmas.List.Sums.{AllPass-from_list_all}
use Rattle.cv_http.proofs.length.cap_value.Goals as goal

pub loop-digit-preserved : goal.loop-digit-preserved
loop-digit-preserved c =
    let ds = c.args.digits.now in
    let at = c.loop-digit.digit-index in
    let digit : is_ascii_digit (get_or ds at 0) ≡ true = AllPass-from_list_all is_ascii_digit ds c.requires at 0 c.loop-digit-test.true in
    let value : digit_value (get_or ds at 0) ≡ get_or ds at 0 - 48 = grind (arith, nat_tests) in
    omega (arith, digits_value_more 10 ds at c.loop-digit-test.true, value, c.from.ensures, c.min-value.ensures, c.loop-digit.invariant)
