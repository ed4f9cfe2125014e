-- The number that a few digits write.
use Rattle.std.proofs.lemmas.Grind.{common_steps}
use Rattle.std.proofs.lemmas.Bool.Decides.{nat_tests}
use Rattle.std.proofs.Math.Seq.{drop-cons}
use Rattle.std.specs.List.{list_all}
use Rattle.cv_words.specs.Numbers.{is_digit}
use Rattle.std.proofs.Common.{◌≡◌, ℕ, ◌+◌, ◌-◌, ◌*◌, ◌^◌, ◌<◌, ◌≤◌, List, ◌∷◌, length, drop, get_or, true, subst, arith, add-one, lit<}
use Rattle.std.proofs.Math.Nat.{pow-suc, pow-le-pow_right}

-- one digit more keeps a number of at most 9 digits below its power of ten, and within 32 bits
pub digits_grow : (n i d : ℕ) → n < 10 ^ i → i < 9 → d < 10 → (n * 10 + d < 10 ^ (i + 1)) × (n * 10 + d < 2 ^ 32)
digits_grow n i d low few digit =
    let more : 10 ^ (i + 1) ≡ 10 ^ i * 10 = rw add-one (pow-suc 10 i) in
    let most : 10 ^ i ≤ 10 ^ 8 = pow-le-pow_right {n = 10} (lit< tt) {i = i} {j = 8} (omega arith) in
    (omega (arith, more), omega (arith, most))

-- of digits from a place on, the first is a digit, and so are those after it
pub digits_rest : (xs : List ℕ) (i : ℕ) → i < length xs → list_all is_digit (drop i xs) ≡ true → (get_or xs i 0 - 48 < 10) × (list_all is_digit (drop (i + 1) xs) ≡ true)
digits_rest xs i within digits =
    let split : list_all is_digit (get_or xs i 0 ∷ drop (i + 1) xs) ≡ true = rw add-one (subst (λ (ys : List ℕ). list_all is_digit ys ≡ true) (drop-cons xs i 0 within) digits) in
    (grind (arith, nat_tests, common_steps), grind (arith, nat_tests, common_steps))
