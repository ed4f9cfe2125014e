-- Runs of bytes that pass a test.
use Rattle.std.proofs.Common.{◌≡◌, ℕ, zero, suc, ◌+◌, ◌<◌, ◌≤◌, Bool, false, List, [], ◌∷◌, ◌++◌, length, take, refl, subst, arith}
use Rattle.std.specs.List.{prefix_len}
use Rattle.std.proofs.lemmas.Bool.{cond_both}
use Rattle.cv_lex.specs.Bytes.{is_digit}
use Rattle.cv_lex.specs.Shapes.{Each, AreDigits}

-- the run passes
pub each_run : (p : ℕ → Bool) (bytes : List ℕ) → Each p (take (prefix_len p bytes) bytes)
each_run p [] = tt
each_run p (b ∷ bytes) =
    let count : suc (prefix_len p bytes) ≡ 1 + prefix_len p bytes = omega arith in
    let P : ℕ → Type 0 = λ n. Each p (take n (b ∷ bytes)) in
    cond_both (p b) (1 + prefix_len p bytes) 0 P (λ h. subst P count (h, each_run p bytes)) (λ _. tt)

-- bytes that pass are in the run
pub run_over : (p : ℕ → Bool) (xs ys : List ℕ) → Each p xs → length xs ≤ prefix_len p (xs ++ ys)
run_over p [] ys h = omega arith
run_over p (x ∷ xs) ys h = rw h.0 (omega (arith, run_over p xs ys h.1))

-- the run ends at a byte that does not pass
pub run_stops : (p : ℕ → Bool) (xs : List ℕ) (y : ℕ) (ys : List ℕ) → Each p xs → p y ≡ false → prefix_len p (xs ++ y ∷ ys) ≡ length xs
run_stops p [] y ys h s = rw s refl
run_stops p (x ∷ xs) y ys h s = rw h.0 (omega (arith, run_stops p xs y ys h.1 s))

-- some digits
pub digits_from : (n : ℕ) (bytes : List ℕ) → 0 < n → n ≤ length bytes → Each is_digit (take n bytes) → AreDigits (take n bytes)
digits_from zero bytes h k e = absurd (omega arith)
digits_from (suc n) [] h k e = absurd (omega arith)
digits_from (suc n) (b ∷ bytes) h k e = e
