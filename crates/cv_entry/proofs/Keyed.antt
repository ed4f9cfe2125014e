-- The keys of attributes and of their trees are the same.
use Rattle.std.proofs.Common.{◌≡◌, ℕ, zero, suc, ◌+◌, ◌<◌, List, [], ◌∷◌, ◌++◌, length, get_or, map, take, Less, nat_cmp, refl, sym, ap, ap₂, subst, ◌∙◌}
use Rattle.std.proofs.lemmas.List.{map-append, take_more}
use Rattle.std.specs.Cmp.Lexicographic.{slice_cmp}
use Rattle.std.specs.List.{AllByRecursion}
use Rattle.std.specs.List.Sorted.{IsStrictlySortedBy}
use Rattle.cv_token.specs.declared.pairs.Pair.{Pair}
use Rattle.cv_token.specs.declared.token.Token.{Token}
use Rattle.cv_token.specs.Rising.{keys, Rise, AreRising}
use Rattle.cv_entry.specs.Trees.{attr_member}

pub same_keys : (attrs : List (Pair (List ℕ))) → keys (map attr_member attrs) ≡ keys attrs
same_keys [] = refl
same_keys (a ∷ attrs) = ap (λ ks. a.key ∷ ks) (same_keys attrs)

-- rising attributes have a tree whose keys rise
pub members_rise : (attrs : List (Pair (List ℕ))) → AreRising attrs → AreRising (map attr_member attrs)
members_rise attrs h = subst Rise (sym (same_keys attrs)) h

front_below : {X : Type 0} (k : List ℕ) (ps : List (Pair X)) (n : ℕ) → AllByRecursion (λ y. slice_cmp nat_cmp k y ≡ Less) (keys ps) → AllByRecursion (λ y. slice_cmp nat_cmp k y ≡ Less) (keys (take n ps))
front_below k ps zero h = tt
front_below k [] (suc n) h = tt
front_below k (p ∷ ps) (suc n) h = (h.0, front_below k ps n h.1)

-- the keys of a front of rising pairs rise
pub front_rises : {X : Type 0} (ps : List (Pair X)) (n : ℕ) → AreRising ps → AreRising (take n ps)
unfolding IsStrictlySortedBy
front_rises ps zero h = tt
front_rises [] (suc n) h = tt
front_rises (p ∷ ps) (suc n) h = (front_below p.key ps n h.0, front_rises ps n h.1)

-- attributes whose trees are a front of rising pairs rise
pub rising_front : (attrs : List (Pair (List ℕ))) (ps : List (Pair Token)) (n : ℕ) → AreRising ps → map attr_member attrs ≡ take n ps → AreRising attrs
rising_front attrs ps n h e = subst Rise (sym (ap keys e) ∙ same_keys attrs) (front_rises ps n h)

-- the tree of one attribute more
pub more_members : (attrs : List (Pair (List ℕ))) (a : Pair (List ℕ)) (ps : List (Pair Token)) (i : ℕ) (p : Pair Token) → map attr_member attrs ≡ take i ps → i < length ps → p ≡ get_or ps i p → p ≡ attr_member a
    → map attr_member (attrs ++ a ∷ []) ≡ take (i + 1) ps
more_members attrs a ps i p e within at is =
    map-append attr_member attrs (a ∷ []) ∙ ap₂ (λ (xs : List (Pair Token)) (x : Pair Token). xs ++ x ∷ []) e (sym is ∙ at) ∙ sym (take_more ps i p within)
