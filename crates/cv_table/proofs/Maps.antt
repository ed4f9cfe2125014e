-- A list of entries in the order of their keys, read as a finite map.
use Rattle.std.proofs.Common.{◌≡◌, ◌+◌, Bool, true, false, cond, List, [], ◌∷◌, length, None, Some, refl, sym, ap, ◌∙◌, arith}
use Rattle.std.proofs.lemmas.Map.Keys.{Less-from_sorted}
use Rattle.std.specs.declared.cmp.Ordering.{Ordering}
use Rattle.std.specs.declared.cmp.Ordering.TheVariants.{Less, Equal, Greater}
use Rattle.std.specs.Ordering.{eq_by_cmp, is_lt, is_eq, ordering_reverse}
use Rattle.std.specs.Cmp.{IsTotalOrder, eq_by_cmp_equiv}
use Rattle.std.specs.List.{AllByRecursion, IsDistinct}
use Rattle.std.specs.List.Sorted.{IsStrictlySortedBy, IsSorted}
use Rattle.std.specs.Map.{lookup, keys_of, remove_entry}
use Rattle.std.specs.FinMap.Entries.{put, by_order}
use Rattle.std.specs.FinMap as fin
use Rattle.std.specs.FinMap.{IsAntisymmetric, find, from_entries, entries, get-from_entries, get-insert, get-remove, entries-insert, len-entries, same_map, len-empty}
use Rattle.std.proofs.lemmas.Map.Keys.{sorted_head, sorted_tail, sorted_from_all_adjacent, apart_from_distinct}

module _ {K : Type 0} {R : K → K → Ordering} (o : IsTotalOrder R) (eq : K → K → Bool) (ties : (x y : K) → eq x y ≡ eq_by_cmp R x y) where
  turned : (k q : K) → eq k q ≡ eq_by_cmp R q k
  turned k q = ties k q ∙ (eq_by_cmp_equiv o).symm k q

  module _ {X : Type 0} where
    find_looks_up : (q : K) (es : List (K × X)) → find R q es ≡ lookup (eq q) es
    find_looks_up q [] = refl
    find_looks_up q (e ∷ es) = λ i. cond (sym (ties q e.0) i) (Some e.1) (find_looks_up q es i)

    pub get_looks_up : (q : K) (es : List (K × X)) → fin.get (from_entries {R = R} es) q ≡ lookup (eq q) es
    get_looks_up q es = get-from_entries o es q ∙ find_looks_up q es

    module _ (same : IsAntisymmetric R) (es fs : List (K × X)) (k : K) where
      -- the list of a map with the value v at k
      pub is_insert : (v : X) → ((q : K) → lookup (eq q) fs ≡ cond (eq k q) (Some v) (lookup (eq q) es)) → from_entries {R = R} fs ≡ fin.insert (from_entries es) k v
      is_insert v is =
          same_map o same _ _ (λ q. get_looks_up q fs ∙ is q ∙ (λ i. cond (turned k q i) (Some v) (sym (get_looks_up q es) i)) ∙ sym (get-insert o (from_entries es) k v q))

      -- the list of a map without the key k
      pub is_remove : ((q : K) → lookup (eq q) fs ≡ cond (eq k q) None (lookup (eq q) es)) → from_entries {R = R} fs ≡ fin.remove (from_entries es) k
      is_remove is =
          same_map o same _ _ (λ q. get_looks_up q fs ∙ is q ∙ (λ i. cond (turned k q i) None (sym (get_looks_up q es) i)) ∙ sym (get-remove o (from_entries es) k q))

  -- keys that do not fall and differ rise
  less : (r s : Ordering) → is_lt s ≡ false → is_eq r ≡ false → r ≡ ordering_reverse s → r ≡ Less
  less Less s not_less differ turn = refl
  less Equal s not_less differ turn = cc
  less Greater Less not_less differ turn = cc
  less Greater Equal not_less differ turn = cc
  less Greater Greater not_less differ turn = cc

  pub strictly_sorted : (ks : List K) (d : K) → IsSorted R ks → IsDistinct eq ks → IsStrictlySortedBy R ks
  strictly_sorted ks d sorted distinct =
      sorted_from_all_adjacent o ks d (λ k within. less _ _ (sorted k d (omega arith) within) (sym (ties _ _) ∙ apart_from_distinct eq ks k (k + 1) d distinct (omega arith) within) (o.antisymm _ _))

nothing : {A : Type 0} (xs : List A) → length xs ≡ 0 → xs ≡ []
nothing [] e = refl
nothing (x ∷ xs) e = absurd (omega arith)

module _ {K X : Type 0} {R : K → K → Ordering} (o : IsTotalOrder R) where
  put_first : (e : K × X) (es : List (K × X)) → AllByRecursion (λ y. R e.0 y ≡ Less) (keys_of es) → put R e.0 e.1 es ≡ e ∷ es
  put_first e [] first = refl
  put_first e (f ∷ fs) first = ap (λ r. by_order r (e ∷ f ∷ fs) ((f.0, e.1) ∷ fs) (f ∷ put R e.0 e.1 fs)) first.0

  no_entries : entries (fin.empty {X = X} {R = R}) ≡ []
  no_entries = nothing _ (sym (len-entries (fin.empty {X = X} {R = R})) ∙ len-empty R X)

  pub entries_of_sorted : (es : List (K × X)) → IsStrictlySortedBy R (keys_of es) → entries (from_entries {R = R} es) ≡ es
  entries_of_sorted [] sorted = no_entries
  entries_of_sorted (e ∷ es) sorted =
      entries-insert o (from_entries es) e.0 e.1 ∙ ap (put R e.0 e.1) (entries_of_sorted es (sorted_tail R e.0 (keys_of es) sorted)) ∙ put_first e es (sorted_head R e.0 (keys_of es) sorted)

  pub keys_of_sorted : (es : List (K × X)) → IsStrictlySortedBy R (keys_of es) → fin.keys (from_entries {R = R} es) ≡ keys_of es
  keys_of_sorted es sorted = ap keys_of (entries_of_sorted es sorted)

  pub len_of_sorted : (es : List (K × X)) → IsStrictlySortedBy R (keys_of es) → fin.len (from_entries {R = R} es) ≡ length es
  len_of_sorted es sorted = len-entries (from_entries es) ∙ ap length (entries_of_sorted es sorted)

pub sorted_none : {K : Type 0} (R : K → K → Ordering) → IsStrictlySortedBy R []
unfolding IsStrictlySortedBy
sorted_none R = tt

-- what is below all keys is below those that are left
below_left : {K X : Type 0} (P : K → Type 0) (test : K → Bool) (es : List (K × X)) → AllByRecursion P (keys_of es) → AllByRecursion P (keys_of (remove_entry test es))
below_left P test [] all = tt
below_left {K} {X} P test (e ∷ es) all =
    elim (test e.0) as (λ b. AllByRecursion P (keys_of (cond b es (e ∷ remove_entry test es)))) [ true ↦ all.1 | false ↦ (all.0, below_left P test es all.1) ]

pub sorted_after_removal : {K X : Type 0} (R : K → K → Ordering) (test : K → Bool) (es : List (K × X)) → IsStrictlySortedBy R (keys_of es) → IsStrictlySortedBy R (keys_of (remove_entry test es))
unfolding IsStrictlySortedBy
sorted_after_removal R test [] sorted = tt
sorted_after_removal R test (e ∷ es) sorted =
    elim (test e.0) as (λ b. IsStrictlySortedBy R (keys_of (cond b es (e ∷ remove_entry test es)))) [
      | true ↦ sorted.1
      | false ↦ (below_left (λ y. R e.0 y ≡ Less) test es sorted.0, sorted_after_removal R test es sorted.1)
    ]

-- keys that rise do not fall
pub sorted_weakly : {K : Type 0} {R : K → K → Ordering} → IsTotalOrder R → (ks : List K) → IsStrictlySortedBy R ks → IsSorted R ks
sorted_weakly {K} {R} o ks sorted k d low within =
    ap is_lt (o.antisymm _ _ ∙ ap ordering_reverse (Less-from_sorted R ks k (k + 1) d sorted (omega arith) within))
