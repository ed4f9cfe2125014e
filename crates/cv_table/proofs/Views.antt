-- What callers cite of a table's map: look-ups after each change, and changes that change nothing.
use Rattle.std.proofs.Common.{◌≡◌, ◌⊎◌, inl, inr, Bool, true, false, cond, List, [], ◌∷◌, None, Some, refl, sym, ap, ◌∙◌, true≢false}
use Rattle.std.specs.declared.cmp.Ordering.{Ordering}
use Rattle.std.specs.Option.{option_map}
use Rattle.std.specs.Ordering.{eq_by_cmp}
use Rattle.std.specs.Cmp.{IsTotalOrder, Equal-is, tied_itself, tied_back}
use Rattle.std.specs.FinMap as fin
use Rattle.std.specs.FinMap.{FinMap, IsAntisymmetric, find, entries, get-entries, get-insert, get-remove, get-retain_keys, get-from_entries, same_map}
use Rattle.cv_token.specs.declared.identifiers.AppId.{AppId}
use Rattle.cv_token.specs.declared.identifiers.ActorId.{ActorId}
use Rattle.cv_token.specs.declared.identifiers.ConnId.{ConnId}
use Rattle.cv_table.specs.Order.{app_cmp, actor_cmp, conn_cmp, same_app, same_actor, same_conn}
use Rattle.cv_table.specs.Held.{change_entries, map_values}
use Rattle.cv_table.proofs.Orders.{app_cmp_total, actor_cmp_total, conn_cmp_total, app_cmp-IsAntisymmetric, actor_cmp-IsAntisymmetric, conn_cmp-IsAntisymmetric, same_app-ties, same_actor-ties, same_conn-ties}

module _ {K : Type 0} {R : K → K → Ordering} (o : IsTotalOrder R) where
  put_back : {V : Type 0} (m : FinMap R V) (k : K) (v : V) → fin.get m k ≡ Some v → (q : K) (b : Bool) → eq_by_cmp R q k ≡ b → cond b (Some v) (fin.get m q) ≡ fin.get m q
  put_back m k v is q true tie = sym (fin.get_tied o m k q (tied_back o q k ((Equal-is (R q k)).0 tie)) ∙ is)
  put_back m k v is q false tie = refl

  -- a value that is put back where it stood changes nothing
  pub insert_again : {V : Type 0} → IsAntisymmetric R → (m : FinMap R V) (k : K) (v : V) → fin.get m k ≡ Some v → fin.insert m k v ≡ m
  insert_again same m k v is = same_map o same _ _ (λ q. get-insert o m k v q ∙ put_back m k v is q (eq_by_cmp R q k) refl)

  find_changed : {V W : Type 0} (f : V → W) (q : K) (es : List (K × V)) → find R q (change_entries f es) ≡ option_map f (find R q es)
  find_changed f q [] = refl
  find_changed {V} {W} f q (e ∷ es) =
      elim (eq_by_cmp R q e.0) as (λ b. cond b (Some (f e.1)) (find R q (change_entries f es)) ≡ option_map f (cond b (Some e.1) (find R q es))) [ true ↦ refl | false ↦ find_changed f q es ]

  -- every value of the map is changed
  pub get-map_values : {V W : Type 0} (f : V → W) (m : FinMap R V) (q : K) → fin.get (map_values f m) q ≡ option_map f (fin.get m q)
  get-map_values f m q = get-from_entries o (change_entries f (entries m)) q ∙ find_changed f q (entries m) ∙ ap (option_map f) (sym (get-entries m q))

  tests_apart : (a b : Bool) → a ≡ b → (a ≡ true) ⊎ (a ≡ false)
  tests_apart true b is = inl refl
  tests_apart false b is = inr refl

  -- two keys that tie are one, and two that don't are two
  pub cases : IsAntisymmetric R → (same : K → K → Bool) → ((x y : K) → same x y ≡ eq_by_cmp R x y) → (a b : K) → ((same a b ≡ true) × (a ≡ b)) ⊎ ((same a b ≡ false) × ((a ≡ b) → ⊥))
  cases alike same ties a b =
      elim (tests_apart (same a b) _ refl) [
        | inl is ↦ inl (is, alike a b ((Equal-is (R a b)).0 (sym (ties a b) ∙ is)))
        | inr is ↦ inr (is, λ e. true≢false (sym (ties a b ∙ ap (λ c. eq_by_cmp R a c) (sym e) ∙ (Equal-is (R a a)).1 (tied_itself o a)) ∙ is))
      ]

-- by actor

pub same_actor-cases : (a b : ActorId) → ((same_actor a b ≡ true) × (a ≡ b)) ⊎ ((same_actor a b ≡ false) × ((a ≡ b) → ⊥))
same_actor-cases a b = cases actor_cmp_total actor_cmp-IsAntisymmetric same_actor same_actor-ties a b

module _ {V : Type 0} (m : FinMap actor_cmp V) where
  pub insert_same : (k : ActorId) (v : V) → fin.get m k ≡ Some v → fin.insert m k v ≡ m
  insert_same k v is = insert_again actor_cmp_total actor_cmp-IsAntisymmetric m k v is

  pub get_inserted : (k : ActorId) (v : V) (q : ActorId) → fin.get (fin.insert m k v) q ≡ cond (same_actor q k) (Some v) (fin.get m q)
  get_inserted k v q = get-insert actor_cmp_total m k v q ∙ ap (λ b. cond b (Some v) (fin.get m q)) (sym (same_actor-ties q k))

  pub get_removed : (k q : ActorId) → fin.get (fin.remove m k) q ≡ cond (same_actor q k) None (fin.get m q)
  get_removed k q = get-remove actor_cmp_total m k q ∙ ap (λ b. cond b None (fin.get m q)) (sym (same_actor-ties q k))

  pub get_retained : (p : ActorId → Bool) (q : ActorId) → fin.get (fin.retain_keys m p) q ≡ cond (p q) (fin.get m q) None
  get_retained p q = get-retain_keys m p q (λ x is. ap p (sym (actor_cmp-IsAntisymmetric q x is)))

  pub get_changed : {W : Type 0} (f : V → W) (q : ActorId) → fin.get (map_values f m) q ≡ option_map f (fin.get m q)
  get_changed f q = get-map_values actor_cmp_total f m q

-- by application

pub same_app-cases : (a b : AppId) → ((same_app a b ≡ true) × (a ≡ b)) ⊎ ((same_app a b ≡ false) × ((a ≡ b) → ⊥))
same_app-cases a b = cases app_cmp_total app_cmp-IsAntisymmetric same_app same_app-ties a b

pub get_app_inserted : {V : Type 0} (m : FinMap app_cmp V) (k : AppId) (v : V) (q : AppId) → fin.get (fin.insert m k v) q ≡ cond (same_app q k) (Some v) (fin.get m q)
get_app_inserted m k v q = get-insert app_cmp_total m k v q ∙ ap (λ b. cond b (Some v) (fin.get m q)) (sym (same_app-ties q k))

-- by connection

pub same_conn-cases : (a b : ConnId) → ((same_conn a b ≡ true) × (a ≡ b)) ⊎ ((same_conn a b ≡ false) × ((a ≡ b) → ⊥))
same_conn-cases a b = cases conn_cmp_total conn_cmp-IsAntisymmetric same_conn same_conn-ties a b

pub get_conn_inserted : {V : Type 0} (m : FinMap conn_cmp V) (k : ConnId) (v : V) (q : ConnId) → fin.get (fin.insert m k v) q ≡ cond (same_conn q k) (Some v) (fin.get m q)
get_conn_inserted m k v q = get-insert conn_cmp_total m k v q ∙ ap (λ b. cond b (Some v) (fin.get m q)) (sym (same_conn-ties q k))
