-- Two parts are paid out of a room one after the other.
use Rattle.std.proofs.Common.{◌≡◌, ℕ, ◌+◌, Option, Some, None, arith}
use Rattle.std.proofs.lemmas.Bool.Decides.{nat_tests}
use Rattle.std.specs.Option.{OnSome}
use Rattle.cv_token.specs.Bounds.{left}

pub pays_both : (room a b r : ℕ) → Some r ≡ left room a → left room (a + b) ≡ left r b
pays_both room a b r e = grind (arith, nat_tests)

pub pays_none : (room a b : ℕ) → None ≡ left room a → None ≡ left room (a + b)
pays_none room a b e = grind (arith, nat_tests)

pub on_some : {A P : Type 0} → (o : Option A) → P → OnSome o P
on_some None h = tt
on_some (Some x) h = h

pub on_some_map : {A P Q : Type 0} → (o : Option A) → (P → Q) → OnSome o P → OnSome o Q
on_some_map None f h = tt
on_some_map (Some x) f h = f h
