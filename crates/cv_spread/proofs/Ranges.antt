-- Numbers from one on, and what is among them.
use Rattle.std.proofs.Common.{◌≡◌, ℕ, zero, suc, ◌+◌, ◌-◌, ◌<◌, ◌≤◌, List, ◌∷◌, map, Contains, refl, sym, ◌∙◌, arith}
use Rattle.std.specs.List.{range_with_len}
use Rattle.std.proofs.lemmas.List.FromFn.{length-range_with_len, get_or-range_with_len}
use Rattle.cv_mesh.proofs.Listing.{contains_at, mapped_at, place_of}

pub in_range : (from count k : ℕ) → from ≤ k → k < from + count → Contains (range_with_len from count) k
in_range from count k low high =
    let place : k - from < count = omega (arith, low, high) in
    let is : from + (k - from) ≡ k = omega (arith, low) in
    (k - from, omega (arith, place, length-range_with_len from count), get_or-range_with_len from count (k - from) k place ∙ is)

pub from_range : (from count k : ℕ) → Contains (range_with_len from count) k → (from ≤ k) × (k < from + count)
from_range from count k c =
    let place : c.0 < count = omega (arith, c.1, length-range_with_len from count) in
    let is : from + c.0 ≡ k = sym (get_or-range_with_len from count c.0 k place) ∙ c.2 in
    (omega (arith, is), omega (arith, is, place))

-- an element of a mapped list is that of one that was mapped
pub mapped_in : {X Y : Type 0} (f : X → Y) (xs : List X) (y : Y) → Contains (map f xs) y → (x : X) × Contains xs x × (f x ≡ y)
mapped_in f xs y c =
    let p = place_of (map f xs) y c in
    let x = mapped_at f xs p.0 y p.1 in (x.0, contains_at xs p.0 x.0 x.1, x.2)

pub contains_first : {X : Type 0} (x : X) (xs : List X) → Contains (x ∷ xs) x
contains_first x xs = (zero, omega arith, refl)

pub contains_later : {X : Type 0} (y : X) (xs : List X) (x : X) → Contains xs x → Contains (y ∷ xs) x
contains_later y xs x c = (suc c.0, omega (arith, c.1), c.2)
