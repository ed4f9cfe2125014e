-- A member whose key is above those before it goes last.
use Rattle.std.proofs.Common.{◌≡◌, ℕ, List, [], ◌∷◌, ◌++◌, Less, Greater, nat_cmp, refl, sym, ap, ◌∙◌}
use Rattle.std.proofs.lemmas.Cmp.{nat_list_cmp_total}
use Rattle.std.specs.Cmp.Lexicographic.{slice_cmp}
use Rattle.std.specs.List.{AllByRecursion}
use Rattle.std.specs.List.Sorted.{IsStrictlySortedBy}
use Rattle.std.specs.Ordering.{ordering_reverse}
use Rattle.serde_json.specs.Data.{Data, member, put}
use Rattle.cv_token.specs.declared.pairs.Pair.{Pair}
use Rattle.cv_token.specs.Rising.{keys, AreRising}
use Rattle.cv_token.specs.Forms.{on_values, members_from}

below_middle : {X : Type 0} → (k : List ℕ) (done : List (Pair X)) (p : Pair X) (more : List (Pair X)) → AllByRecursion (λ y. slice_cmp nat_cmp k y ≡ Less) (keys (done ++ p ∷ more)) → slice_cmp nat_cmp k p.key ≡ Less
below_middle k [] p more h = h.0
below_middle k (x ∷ done) p more h = below_middle k done p more h.1

pub put_last : {X : Type 0} → (f : X → Data) (done : List (Pair X)) (p : Pair X) (more : List (Pair X)) → AreRising (done ++ p ∷ more)
    → put p.key (f p.value) (members_from (on_values f done)) ≡ members_from (on_values f (done ++ p ∷ []))
unfolding IsStrictlySortedBy
put_last f [] p more h = refl
put_last f (x ∷ done) p more h =
    let above : slice_cmp nat_cmp p.key x.key ≡ Greater =
    nat_list_cmp_total.antisymm p.key x.key ∙ ap ordering_reverse (below_middle x.key done p more h.0) in
    rw above (ap (member x.key (f x.value)) (put_last f done p more h.1))

on_values_same : (ps : List (Pair Data)) → on_values (λ d. d) ps ≡ ps
on_values_same [] = refl
on_values_same (p ∷ ps) = ap (λ qs. p ∷ qs) (on_values_same ps)

pub put_last_value : (done : List (Pair Data)) (p : Pair Data) (more : List (Pair Data)) → AreRising (done ++ p ∷ more) → put p.key p.value (members_from done) ≡ members_from (done ++ p ∷ [])
put_last_value done p more h =
    ap (λ qs. put p.key p.value (members_from qs)) (sym (on_values_same done)) ∙ put_last (λ d. d) done p more h ∙ ap members_from (on_values_same (done ++ p ∷ []))
