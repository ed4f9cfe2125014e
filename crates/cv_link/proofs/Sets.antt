-- Sets of numbers that are made from lists.
use Rattle.std.proofs.Common.{◌≡◌, ℕ, ◌≤◌, ◌<◌, Bool, true, false, ◌||◌, cond, List, [], ◌∷◌, Option, None, Some, is_some, IsTrue, ◌↔◌, Bor, refl, sym, ◌∙◌, ap, subst, arith}
use Rattle.std.specs.declared.cmp.Ordering.TheVariants.{Less, Equal, Greater}
use Rattle.std.specs.declared.ops.Bound.TheVariants.{Included}
use Rattle.std.specs.Prelude.{MatchOption}
use Rattle.std.specs.Ordering.{nat_cmp, eq_by_cmp, is_gt, MatchOrdering}
use Rattle.std.specs.Cmp.{unsigned_tied, nat_cmp_total, ranks}
use Rattle.std.proofs.lemmas.Cmp.{nat_eq_equiv}
use Rattle.std.proofs.lemmas.Map.Keys.{le_from_not_gt}
use Rattle.std.specs.List.{list_any}
use Rattle.std.specs.BTreeSet.{BTreeSet, IsKeyRangeOf}
use Rattle.std.specs.FinSet as set
use Rattle.cv_link.specs.Items.{HasWithin}

cond_or : (a b : Bool) → cond a true b ≡ (a || b)
cond_or true b = refl
cond_or false b = refl

tied_back : (n q : ℕ) → eq_by_cmp nat_cmp n q ≡ eq_by_cmp nat_cmp q n
tied_back n q = unsigned_tied n q ∙ nat_eq_equiv.symm n q ∙ sym (unsigned_tied q n)

-- a list that has n beside what another list has makes the other's set with n
pub from_list_added : (old new : List ℕ) (n : ℕ) → ((q : ℕ) → list_any (eq_by_cmp nat_cmp q) new ≡ cond (eq_by_cmp nat_cmp n q) true (list_any (eq_by_cmp nat_cmp q) old)) → set.from_list {R = nat_cmp} new ≡ set.insert (set.from_list old) n
from_list_added old new n has =
    set.same_set nat_cmp_total set.nat_cmp-IsAntisymmetric _ _ (λ q.
    set.contains-from_list nat_cmp_total new q
    ∙ has q
    ∙ cond_or (eq_by_cmp nat_cmp n q) _
    ∙ ap (λ b. b || list_any (eq_by_cmp nat_cmp q) old) (tied_back n q)
    ∙ sym (set.contains-insert nat_cmp_total (set.from_list old) n q ∙ ap (λ b. eq_by_cmp nat_cmp q n || b) (set.contains-from_list nat_cmp_total old q)))

not_above : (a b : ℕ) → a ≤ b → is_gt (nat_cmp a b) ≡ false
not_above a b h =
    elim (nat_cmp a b) as (λ r. MatchOrdering r (a < b) (a ≡ b) (b < a) → is_gt r ≡ false) [
      | Less ↦ λ _. refl
      | Equal ↦ λ _. refl
      | Greater ↦ λ l. absurd (omega arith)
    ] (ranks a b)

-- the first number of a range of a set tells whether the set has a number there
pub has_within_first : (s : BTreeSet ℕ) (from to : ℕ) (r left : List ℕ) (o : Option (Bor ℕ)) → IsKeyRangeOf nat_cmp (Included from) (Included to) s r → MatchOption o ((r ≡ []) × (left ≡ [])) (λ x. r ≡ x.now ∷ left) → IsTrue (is_some o) ↔ HasWithin (set.from_list s.keys) from to
has_within_first s from to r left None range none = (
  λ t. absurd (cc t),
  λ h. let out = range.5 none.0 h.0 (not_above from h.0 h.2, not_above h.0 to h.3) in
      absurd (cc (out, h.1, set.contains-from_list nat_cmp_total s.keys h.0)),
)
has_within_first s from to r left (Some x) range first = (
  λ _. let found = subst (λ (l : List ℕ). IsKeyRangeOf nat_cmp (Included from) (Included to) s l) first range in
      (x.now, set.contains-from_list nat_cmp_total s.keys x.now ∙ found.1.1, le_from_not_gt from x.now found.1.0.0, le_from_not_gt x.now to found.1.0.1),
  λ _. refl,
)
