-- Digits behind a number make it no smaller.
use Rattle.std.proofs.Common.{◌≡◌, ℕ, ◌+◌, ◌-◌, ◌*◌, ◌<◌, ◌≤◌, List, [], ◌∷◌, length, get_or, drop, None, add-one, drop-cons, arith}
use Rattle.std.proofs.lemmas.Bool.{lt-leb}
use Rattle.cv_lex.specs.Numbers.{value_after, at_most}

pub value_after-le : (n : ℕ) (ds : List ℕ) → n ≤ value_after n ds
value_after-le n [] = omega arith
value_after-le n (d ∷ ds) = omega (arith, value_after-le (n * 10 + (d - 48)) ds)

-- one digit more
pub value_after-drop : (n : ℕ) (ds : List ℕ) (i : ℕ) → i < length ds → value_after n (drop i ds) ≡ value_after (n * 10 + (get_or ds i 0 - 48)) (drop (i + 1) ds)
value_after-drop n ds i h = rw (add-one, drop-cons ds i 0 h)

-- a number above the bound is not given
pub at_most-above : (most n : ℕ) → most < n → None ≡ at_most most n
at_most-above most n h = rw (lt-leb n most h)
