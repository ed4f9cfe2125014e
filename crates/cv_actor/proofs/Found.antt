-- Readers one after another.
use Rattle.std.proofs.Common.{◌≡◌, ℕ, zero, suc, ◌+◌, ◌∷◌, ◌++◌, [], Bool, true, false, if◌then◌else◌, List, drop, take, slice_get, slice_set, Option, Some, None, refl, ap, sym, ◌∙◌, subst, inl, inr, arith}
use Rattle.cv_token.specs.declared.identifiers.ActorId.{ActorId}
use Rattle.cv_token.specs.declared.identifiers.ConnId.{ConnId}
use Rattle.cv_table.specs.Order.{same_actor, same_conn}
use Rattle.cv_queue.specs.declared.reader.Reader.{Reader}
use Rattle.cv_protocol.specs.Rows.{any_reads, reader_of}

-- a list from the place of an element on
pub drop_at : {X : Type 0} (n : ℕ) (xs : List X) (x : X) → slice_get xs n ≡ Some x → drop n xs ≡ x ∷ drop (n + 1) xs
drop_at n [] x is = absurd (cc)
drop_at zero (y ∷ xs) x is = let same : y ≡ x = cc in ap (λ z. z ∷ xs) same
drop_at (suc n) (y ∷ xs) x is =
    let next : suc (n + 1) ≡ suc n + 1 = omega arith in
    drop_at n xs x is ∙ ap (λ (k : ℕ). x ∷ drop k (y ∷ xs)) next

-- and up to it
pub take_at : {X : Type 0} (n : ℕ) (xs : List X) (x : X) → slice_get xs n ≡ Some x → take (n + 1) xs ≡ take n xs ++ x ∷ []
take_at n [] x is = absurd (cc)
take_at zero (y ∷ xs) x is = let same : y ≡ x = cc in ap (λ z. z ∷ []) same
take_at (suc n) (y ∷ xs) x is =
    let next : suc n + 1 ≡ suc (n + 1) = omega arith in
    ap (λ (k : ℕ). take k (y ∷ xs)) next ∙ ap (λ zs. y ∷ zs) (take_at n xs x is)

pub found_here : (conn : ConnId) (number : ℕ) (rs : List Reader) (r : Reader) → slice_get rs number ≡ Some r → same_conn r.conn conn ≡ true → reader_of conn number (drop number rs) ≡ Some (number, r)
found_here conn number rs r is here = rw (drop_at number rs r is, here) refl

pub not_here : (conn : ConnId) (number : ℕ) (rs : List Reader) (r : Reader) → slice_get rs number ≡ Some r → same_conn r.conn conn ≡ false → reader_of conn (number + 1) (drop (number + 1) rs) ≡ reader_of conn number (drop number rs)
not_here conn number rs r is not =
    let next : suc number ≡ number + 1 = omega arith in
    rw (drop_at number rs r is, not) (ap (λ (n : ℕ). reader_of conn n (drop (number + 1) rs)) (sym next))

-- an actor among readers
pub read_here : (a : ActorId) (number : ℕ) (rs : List Reader) (r : Reader) → slice_get rs number ≡ Some r → same_actor r.consumer a ≡ true → any_reads a (drop number rs) ≡ true
read_here a number rs r is here = rw (drop_at number rs r is, here) refl

pub unread_here : (a : ActorId) (number : ℕ) (rs : List Reader) (r : Reader) → slice_get rs number ≡ Some r → same_actor r.consumer a ≡ false → any_reads a (drop (number + 1) rs) ≡ any_reads a (drop number rs)
unread_here a number rs r is not = rw (drop_at number rs r is, not) refl

-- an element that is put back where it stood changes nothing
pub put_back : {X : Type 0} (xs : List X) (n : ℕ) (x : X) → slice_get xs n ≡ Some x → slice_set xs n x ≡ xs
put_back [] n x is = refl
put_back (y ∷ xs) zero x is = let same : y ≡ x = cc in ap (λ z. z ∷ xs) (sym same)
put_back (y ∷ xs) (suc n) x is = ap (λ zs. y ∷ zs) (put_back xs n x is)
