-- What becomes of the entries when every value is changed, and when some go.
use Rattle.std.proofs.Common.{◌≡◌, ℕ, zero, suc, ◌+◌, Bool, true, false, cond, filter, List, [], ◌∷◌, length, None, Some, refl, sym, ap, subst, ◌∙◌, arith, slice_get}
use Rattle.std.specs.declared.cmp.Ordering.{Ordering}
use Rattle.std.specs.Option.{unwrap_or}
use Rattle.std.specs.Ordering.{eq_by_cmp}
use Rattle.std.specs.Cmp.{IsTotalOrder}
use Rattle.std.specs.List.Sorted.{IsStrictlySortedBy}
use Rattle.std.proofs.lemmas.List.Kept.{IsStrictlySortedBy-filter}
use Rattle.std.specs.Map.{keys_of, values_of}
use Rattle.std.specs.FinMap as fin
use Rattle.std.specs.FinMap.{IsAntisymmetric, from_entries, get-retain_keys, same_map}
use Rattle.std.proofs.lemmas.Map.Entries.{lookup-filter-keys}
use Rattle.indexmap.specs.IndexMap.{set_value_at}
use Rattle.cv_table.specs.Held.{change_entries, change_entry}
use Rattle.cv_table.proofs.Maps.{get_looks_up}

some_value : {V : Type 0} (v w : V) → Some v ≡ Some w → v ≡ w
some_value v w e = ap (λ o. unwrap_or o v) e

pub changed_there : {K V : Type 0} (f : V → V) (es : List (K × V)) (n : ℕ) (v : V) → slice_get (values_of es) n ≡ Some v → set_value_at es n (f v) ≡ change_entry f n es
changed_there f [] n v is = refl
changed_there f (e ∷ es) zero v is = ap (λ w. (e.0, f w) ∷ es) (sym (some_value _ _ is))
changed_there f (e ∷ es) (suc n) v is = ap (λ r. e ∷ r) (changed_there f es n v is)

pub changed_nowhere : {K V : Type 0} (f : V → V) (es : List (K × V)) (n : ℕ) → slice_get (values_of es) n ≡ None → change_entry f n es ≡ es
changed_nowhere f [] n is = refl
changed_nowhere f (e ∷ es) zero is = absurd (cc)
changed_nowhere f (e ∷ es) (suc n) is = ap (λ r. e ∷ r) (changed_nowhere f es n is)

-- the entries of which the first n are changed
abbrev pub change_first : {K V : Type 0} → (V → V) → ℕ → List (K × V) → List (K × V)
change_first f zero es = es
change_first f (suc n) [] = []
change_first f (suc n) (e ∷ es) = (e.0, f e.1) ∷ change_first f n es

change_next : {K V : Type 0} (f : V → V) (es : List (K × V)) (n : ℕ) → change_entry f n (change_first f n es) ≡ change_first f (suc n) es
change_next f [] zero = refl
change_next f [] (suc n) = refl
change_next f (e ∷ es) zero = refl
change_next f (e ∷ es) (suc n) = ap (λ r. (e.0, f e.1) ∷ r) (change_next f es n)

-- one more value is changed
pub change_step : {K V : Type 0} (f : V → V) (es old new : List (K × V)) (n : ℕ) → old ≡ change_first f n es → new ≡ change_entry f n old → new ≡ change_first f (n + 1) es
change_step f es old new n before does =
    let next : suc n ≡ n + 1 = omega arith in
    does ∙ ap (change_entry f n) before ∙ change_next f es n ∙ ap (λ k. change_first f k es) next

pub change_whole : {K V : Type 0} (f : V → V) (es : List (K × V)) → change_first f (length es) es ≡ change_entries f es
change_whole f [] = refl
change_whole f (e ∷ es) = ap (λ r. (e.0, f e.1) ∷ r) (change_whole f es)

pub keys_stay : {K V : Type 0} (f : V → V) (es : List (K × V)) (n : ℕ) → keys_of (change_first f n es) ≡ keys_of es
keys_stay f es zero = refl
keys_stay f [] (suc n) = refl
keys_stay f (e ∷ es) (suc n) = ap (λ r. e.0 ∷ r) (keys_stay f es n)

-- the map that is left where the keys that fail the test go
pub is_retain : {K X : Type 0} {R : K → K → Ordering} (o : IsTotalOrder R) (same : IsAntisymmetric R) (eq : K → K → Bool) (ties : (x y : K) → eq x y ≡ eq_by_cmp R x y) (is_one : (x y : K) → eq x y ≡ true → y ≡ x) (es : List (K × X)) (p : K → Bool) → from_entries {R = R} (filter (λ e. p e.0) es) ≡ fin.retain_keys (from_entries es) p
is_retain {K} {X} {R} o same eq ties is_one es p =
    same_map o same _ _ (λ q. get_looks_up o eq ties q _
    ∙ lookup-filter-keys (eq q) p (p q) (λ k is. ap p (is_one q k is)) es
    ∙ ap (λ r. cond (p q) r None) (sym (get_looks_up o eq ties q es))
    ∙ sym (get-retain_keys (from_entries es) p q (λ x is. ap p (sym (same q x is)))))

keys-filter : {K X : Type 0} (p : K → Bool) (es : List (K × X)) → keys_of (filter (λ e. p e.0) es) ≡ filter p (keys_of es)
keys-filter p [] = refl
keys-filter {K} {X} p (e ∷ es) =
    elim (p e.0) as (λ b. keys_of (cond b (e ∷ filter (λ (e : K × X). p e.0) es) (filter (λ e. p e.0) es)) ≡ cond b (e.0 ∷ filter p (keys_of es)) (filter p (keys_of es))) [ true ↦ ap (λ r. e.0 ∷ r) (keys-filter p es) | false ↦ keys-filter p es ]

pub sorted_filter : {K X : Type 0} (R : K → K → Ordering) (p : K → Bool) (es : List (K × X)) → IsStrictlySortedBy R (keys_of es) → IsStrictlySortedBy R (keys_of (filter (λ e. p e.0) es))
sorted_filter R p es sorted = subst (IsStrictlySortedBy R) (sym (keys-filter p es)) (IsStrictlySortedBy-filter R p (keys_of es) sorted)
