-- The entries of a table by their places, and by their actors.
use Rattle.std.proofs.Common.{◌≡◌, ℕ, zero, suc, ◌&&◌, Bool, true, false, cond, T, List, [], ◌∷◌, slice_get, Option, Some, None, refl, ap, sym, ◌∙◌, subst}
use Rattle.std.specs.declared.cmp.Ordering.{Ordering}
use Rattle.std.specs.declared.cmp.Ordering.TheVariants.{Less, Equal, Greater}
use Rattle.std.specs.Ordering.{eq_by_cmp, is_eq, is_lt, ordering_reverse}
use Rattle.std.specs.Option.{option_map}
use Rattle.std.proofs.lemmas.Option.{slice_get-map}
use Rattle.std.specs.Cmp.{IsTotalOrder, Equal-is, tied_itself}
use Rattle.std.specs.FinMap as fin
use Rattle.std.specs.FinMap.{FinMap, entries, entries_sorted, get-entries, IsAntisymmetric}
use Rattle.std.specs.FinMap.Entries.{below_all, find, is_sorted}
use Rattle.cv_token.specs.declared.identifiers.ActorId.{ActorId}
use Rattle.cv_table.specs.Order.{actor_cmp}
use Rattle.cv_table.proofs.Orders.{actor_cmp_total, actor_cmp-IsAntisymmetric}

-- 1. By their places

front : (a b : Bool) → T (a && b) → T a
front true b h = tt
front false b h = h

back : (a b : Bool) → T (a && b) → T b
back true b h = h
back false b h = absurd h

is_below : (r : Ordering) → T (is_lt r) → r ≡ Less
is_below Less h = refl
is_below Equal h = absurd h
is_below Greater h = absurd h

module _ {K X : Type 0} {R : K → K → Ordering} (o : IsTotalOrder R) where
  below_at : (k : K) (es : List (K × X)) (n : ℕ) (e : K × X) → T (below_all R k es) → slice_get es n ≡ Some e → R k e.0 ≡ Less
  below_at k [] n e below is = absurd (cc)
  below_at k (x ∷ es) zero e below is =
      let same : x ≡ e = cc in
      ap (λ (y : K × X). R k y.0) (sym same) ∙ is_below (R k x.0) (front _ _ below)
  below_at k (x ∷ es) (suc n) e below is = below_at k es n e (back _ _ below) is

  find_at : (es : List (K × X)) (n : ℕ) (e : K × X) → T (is_sorted R es) → slice_get es n ≡ Some e → find R e.0 es ≡ Some e.1
  find_at [] n e sorted is = absurd (cc)
  find_at (x ∷ es) zero e sorted is =
      let same : x ≡ e = cc in
      subst (λ (y : K × X). find R y.0 (x ∷ es) ≡ Some y.1) same (ap (λ b. cond b (Some x.1) (find R x.0 es)) ((Equal-is (R x.0 x.0)).1 (tied_itself o x.0)))
  find_at (x ∷ es) (suc n) e sorted is =
      let above : R e.0 x.0 ≡ Greater = o.antisymm e.0 x.0 ∙ ap ordering_reverse (below_at x.0 es n e (front _ _ sorted) is) in
      ap (λ r. cond (is_eq r) (Some x.1) (find R e.0 es)) above ∙ find_at es n e (back _ _ sorted) is

  -- the value of the entry at that place
  get_at : (m : FinMap R X) (n : ℕ) (e : K × X) → slice_get (entries m) n ≡ Some e → fin.get m e.0 ≡ Some e.1
  get_at m n e is = get-entries m e.0 ∙ find_at (entries m) n e (entries_sorted m) is

  found_next : (q : K) (v : X) (e : K × X) (es : List (K × X)) → ((n : ℕ) × (slice_get es n ≡ Some (q, v))) → (n : ℕ) × (slice_get (e ∷ es) n ≡ Some (q, v))
  found_next q v e es later = (suc later.0, later.1)

  found_first : IsAntisymmetric R → (q : K) (v : X) (e : K × X) (es : List (K × X)) (b : Bool) → eq_by_cmp R q e.0 ≡ b → cond b (Some e.1) (find R q es) ≡ Some v → (find R q es ≡ Some v → (n : ℕ) × (slice_get es n ≡ Some (q, v))) → (n : ℕ) × (slice_get (e ∷ es) n ≡ Some (q, v))
  found_first alike q v e es true tie is later =
      let key : e.0 ≡ q = sym (alike q e.0 ((Equal-is (R q e.0)).0 tie)) in
      let value : e.1 ≡ v = cc in
      (0, λ i. Some (key i, value i))
  found_first alike q v e es false tie is later = found_next q v e es (later is)

  -- the place of a key
  found_at : IsAntisymmetric R → (q : K) (v : X) (es : List (K × X)) → find R q es ≡ Some v → (n : ℕ) × (slice_get es n ≡ Some (q, v))
  found_at alike q v [] is = absurd (cc)
  found_at alike q v (e ∷ es) is =
      found_first alike q v e es (eq_by_cmp R q e.0) refl is (λ h. found_at alike q v es h)

-- 2. By their actors

-- what the code found at a place
key_found : {X : Type 0} (m : FinMap actor_cmp X) (n : ℕ) (k : ActorId) (e : Option (ActorId × X)) → slice_get (entries m) n ≡ e → Some k ≡ option_map (λ (e : ActorId × X). e.0) e → (h : X) → Some h ≡ fin.get m k → slice_get (entries m) n ≡ Some (k, h)
key_found m n k None is key h value = absurd (cc)
key_found m n k (Some e) is key h value =
    let same : k ≡ e.0 = cc in
    let got : Some h ≡ Some e.1 = value ∙ ap (fin.get m) same ∙ get_at actor_cmp_total m n e is in
    let alike : h ≡ e.1 = cc in
    is ∙ (λ i. Some (sym same i, sym alike i))

keys_at : {X : Type 0} (m : FinMap actor_cmp X) (n : ℕ) → slice_get (fin.keys m) n ≡ option_map (λ (e : ActorId × X). e.0) (slice_get (entries m) n)
keys_at {X} m n = slice_get-map (λ (e : ActorId × X). e.0) (entries m) n

pub entry_found : {X : Type 0} (m : FinMap actor_cmp X) (n : ℕ) (k : ActorId) (h : X) → Some k ≡ slice_get (fin.keys m) n → Some h ≡ fin.get m k → slice_get (entries m) n ≡ Some (k, h)
entry_found m n k h key value = key_found m n k (slice_get (entries m) n) refl (key ∙ keys_at m n) h value

valued : {X : Type 0} (m : FinMap actor_cmp X) (n : ℕ) (k : ActorId) (e : Option (ActorId × X)) → slice_get (entries m) n ≡ e → Some k ≡ option_map (λ (e : ActorId × X). e.0) e → None ≡ fin.get m k → ⊥
valued m n k None is key none = absurd (cc)
valued m n k (Some e) is key none =
    let same : k ≡ e.0 = cc in
    let got : None ≡ Some e.1 = none ∙ ap (fin.get m) same ∙ get_at actor_cmp_total m n e is in
    absurd (cc)

-- a key has its value
pub has_value : {X : Type 0} (m : FinMap actor_cmp X) (n : ℕ) (k : ActorId) → Some k ≡ slice_get (fin.keys m) n → None ≡ fin.get m k → ⊥
has_value m n k key none = valued m n k (slice_get (entries m) n) refl (key ∙ keys_at m n) none

-- the place of an actor's value
pub place_of : {X : Type 0} (m : FinMap actor_cmp X) (k : ActorId) (h : X) → fin.get m k ≡ Some h → (n : ℕ) × (slice_get (entries m) n ≡ Some (k, h))
place_of m k h is = found_at actor_cmp_total actor_cmp-IsAntisymmetric k h (entries m) (sym (get-entries m k) ∙ is)

pub value_at : {X : Type 0} (m : FinMap actor_cmp X) (n : ℕ) (e : ActorId × X) → slice_get (entries m) n ≡ Some e → fin.get m e.0 ≡ Some e.1
value_at m n e is = get_at actor_cmp_total m n e is
