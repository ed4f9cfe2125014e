-- Rising keys, as a test.
use Rattle.std.proofs.Common.{◌≡◌, ℕ, List, [], ◌∷◌, true, ◌&&◌, Ordering, Less, Equal, Greater, nat_cmp, refl, ap, ap₂}
use Rattle.std.proofs.lemmas.Bool.{and_parts}
use Rattle.std.specs.Cmp.Lexicographic.{slice_cmp}
use Rattle.std.specs.List.{AllByRecursion}
use Rattle.std.specs.List.Sorted.{IsStrictlySortedBy}
use Rattle.std.specs.Ordering.{is_lt}
use Rattle.cv_token.specs.declared.pairs.Pair.{Pair}
use Rattle.cv_token.specs.Rising.{keys, AreRising}
use Rattle.cv_token.specs.Forms.{on_values}
use Rattle.cv_token.specs.Shape.{is_below_all, are_rising}

below_all : {X Y : Type 0} → (f : X → Y) (k : List ℕ) (ps : List (Pair X)) → AllByRecursion (λ y. slice_cmp nat_cmp k y ≡ Less) (keys ps) → is_below_all k (on_values f ps) ≡ true
below_all f k [] h = refl
below_all f k (p ∷ ps) h = ap₂ ◌&&◌ (ap is_lt h.0) (below_all f k ps h.1)

pub are_rising-from_keys : {X Y : Type 0} → (f : X → Y) (ps : List (Pair X)) → AreRising ps → are_rising (on_values f ps) ≡ true
unfolding IsStrictlySortedBy
are_rising-from_keys f [] h = refl
are_rising-from_keys f (p ∷ ps) h = ap₂ ◌&&◌ (below_all f p.key ps h.0) (are_rising-from_keys f ps h.1)

less : (o : Ordering) → is_lt o ≡ true → o ≡ Less
less Less e = refl
less Equal e = cc
less Greater e = cc

all_below : {X : Type 0} → (k : List ℕ) (ps : List (Pair X)) → is_below_all k ps ≡ true → AllByRecursion (λ y. slice_cmp nat_cmp k y ≡ Less) (keys ps)
all_below k [] e = tt
all_below k (p ∷ ps) e = let h = and_parts _ _ e in (less _ h.0, all_below k ps h.1)

pub AreRising-from_test : {X : Type 0} → (ps : List (Pair X)) → are_rising ps ≡ true → AreRising ps
unfolding IsStrictlySortedBy
AreRising-from_test [] e = tt
AreRising-from_test (p ∷ ps) e = let h = and_parts _ _ e in (all_below p.key ps h.0, AreRising-from_test ps h.1)
