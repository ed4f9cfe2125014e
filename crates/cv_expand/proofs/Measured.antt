-- A part of a list weighs no more than the list, so that copies of expressions end.
use Rattle.std.proofs.Common.{◌≡◌, ℕ, zero, suc, ◌+◌, ◌<◌, ◌≤◌, List, [], ◌∷◌, length, map, get_or, sym, subst, arith}
use Rattle.cv_syntax.proofs.Weights.{total}

pub part_within : {X : Type 0} (f : X → ℕ) (xs : List X) (i : ℕ) (x : X) → i < length xs → x ≡ get_or xs i x → f x ≤ total (map f xs)
part_within f [] i x low is = absurd (omega arith)
part_within f (y ∷ xs) zero x low is = subst (λ z. f z ≤ f y + total (map f xs)) (sym is) (omega arith)
part_within f (y ∷ xs) (suc i) x low is = omega (arith, part_within f xs i x (omega arith) is)
