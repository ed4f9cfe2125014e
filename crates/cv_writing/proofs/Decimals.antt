-- Integers in decimal are read as the same integers.
use Rattle.std.proofs.Common.{◌≡◌, ℕ, ℤ, pos, negsuc, neg_ℤ, zero, suc, ◌+◌, ◌-◌, ◌*◌, ◌/◌, ◌%◌, ◌^◌, ◌<◌, ◌≤◌, eqb, leb, true, false, Option, Some, None, option_map, List, [], ◌∷◌, ◌++◌, drop, get_or, refl, ap, ◌∙◌, subst, inl, inr, arith}
use lib.Signed.{mag}
use Rattle.std.proofs.lemmas.Bool.{cond_both, leb-true, le-leb}
use Rattle.std.proofs.lemmas.Bool.Decides.{nat_tests}
use Rattle.std.proofs.lemmas.Fmt.{decimal_by_steps_wide}
use Rattle.std.specs.Fmt.{decimal, signed_decimal}
use Rattle.cv_lex.specs.Bytes.{is_digit}
use Rattle.cv_lex.specs.Numbers.{value_after, number_of, at_most, int_of, from_zero, below_zero}
use Rattle.cv_lex.specs.Shapes.{Each, AreDigits, IsInt}

-- ---- digits with one more behind them

digit_is : (k : ℕ) → k < 10 → is_digit (48 + k) ≡ true
digit_is k h = grind (arith, nat_tests)

value_more : (n : ℕ) (ds : List ℕ) (d : ℕ) → value_after n (ds ++ d ∷ []) ≡ value_after n ds * 10 + (d - 48)
value_more n [] d = refl
value_more n (x ∷ ds) d = value_more (n * 10 + (x - 48)) ds d

each_more : (ds : List ℕ) (d : ℕ) → Each is_digit ds → is_digit d ≡ true → Each is_digit (ds ++ d ∷ [])
each_more [] d h k = (k, tt)
each_more (x ∷ ds) d h k = (h.0, each_more ds d h.1 k)

digits_more : (ds : List ℕ) (d : ℕ) → AreDigits ds → is_digit d ≡ true → AreDigits (ds ++ d ∷ [])
digits_more [] d h k = absurd h
digits_more (x ∷ ds) d h k = (h.0, each_more ds d h.1 k)

-- digits that spell a number
IsNumber : ℕ → List ℕ → Type 0
IsNumber n ds = AreDigits ds × (number_of ds ≡ n)

one_digit : (n : ℕ) → n < 10 → IsNumber n ((48 + n) ∷ [])
unfolding IsNumber
one_digit n h = ((digit_is n h, tt), omega arith)

more_digits : (n : ℕ) (ds : List ℕ) → 10 ≤ n → IsNumber (n / 10) ds → IsNumber n (ds ++ (48 + n % 10) ∷ [])
unfolding IsNumber
more_digits n ds low h = (digits_more ds (48 + n % 10) h.0 (digit_is (n % 10) (omega arith)), value_more 0 ds (48 + n % 10) ∙ omega (arith, h.1))

number_is : (n : ℕ) → n < 10 ^ 64 → IsNumber n (decimal n)
number_is n h = decimal_by_steps_wide IsNumber one_digit more_digits n h

-- ---- integers

no_minus : (b : ℕ) → is_digit b ≡ true → eqb b 45 ≡ false
no_minus b h = grind (arith, nat_tests)

at_most-in : (most n : ℕ) → n ≤ most → at_most most n ≡ Some n
at_most-in most n h = rw (le-leb n most h)

from_digits : (ds : List ℕ) → AreDigits ds → int_of ds ≡ from_zero ds
from_digits [] h = absurd h
from_digits (b ∷ ds) h = rw (no_minus b h.0)

digits_int : (ds : List ℕ) → AreDigits ds → IsInt ds
digits_int [] h = absurd h
digits_int (b ∷ ds) h = inl h

-- 64 signed bits
abbrev pub IsWide : ℤ → Type 0
IsWide z = mag z < 2 ^ 63

pub decimal_int : (z : ℤ) → IsWide z → IsInt (signed_decimal z) × (int_of (signed_decimal z) ≡ Some z)
unfolding IsNumber
decimal_int (pos n) h =
    let d = number_is n (omega arith) in (
      digits_int (decimal n) d.0,
      from_digits (decimal n) d.0 ∙ ap (λ k. option_map pos (at_most (2 ^ 63 - 1) k)) d.1 ∙ ap (option_map pos) (at_most-in (2 ^ 63 - 1) n (omega arith)),
    )
decimal_int (negsuc n) h =
    let d = number_is (suc n) (omega arith) in (
      inr (refl, d.0),
      ap (λ k. option_map (λ n. neg_ℤ (pos n)) (at_most (2 ^ 63) k)) d.1 ∙ ap (option_map (λ n. neg_ℤ (pos n))) (at_most-in (2 ^ 63) (suc n) (omega arith)),
    )

-- an integer that is read has 64 signed bits
wide_neg : (n : ℕ) → n ≤ 2 ^ 63 → IsWide (neg_ℤ (pos n))
wide_neg zero h = omega arith
wide_neg (suc n) h = omega arith

wide_pos : (n : ℕ) → n ≤ 2 ^ 63 - 1 → IsWide (pos n)
wide_pos n h = omega arith

wide_by : (most n : ℕ) (f : ℕ → ℤ) (z : ℤ) → ((k : ℕ) → k ≤ most → IsWide (f k)) → option_map f (at_most most n) ≡ Some z → IsWide z
wide_by most n f z wide e =
    let P : Option ℕ → Type 0 = λ o. option_map f o ≡ Some z → IsWide z in
    cond_both (leb n most) (Some n) None P
    (λ in_range h. let same : f n ≡ z = cc in subst IsWide same (wide n (leb-true n most in_range)))
    (λ out h. cc) e

pub int_wide : (bytes : List ℕ) (z : ℤ) → int_of bytes ≡ Some z → IsWide z
int_wide bytes z e =
    let P : Option ℤ → Type 0 = λ o. o ≡ Some z → IsWide z in
    cond_both (eqb (get_or bytes 0 0) 45) (below_zero (drop 1 bytes)) (from_zero bytes) P
    (λ minus h. wide_by (2 ^ 63) (number_of (drop 1 bytes)) (λ n. neg_ℤ (pos n)) z wide_neg h)
    (λ plus h. wide_by (2 ^ 63 - 1) (number_of bytes) pos z wide_pos h) e
