-- The numbers of a link are those of the items of the words.
use Rattle.std.proofs.Common.{◌≡◌, ℕ, zero, suc, ◌<◌, Bool, true, false, ◌||◌, ◌==◌, ◌⊎◌, inl, inr, List, [], ◌∷◌, length, fold, slice_index_or, Contains, IsTrue, ◌↔◌, refl, sym, ◌∙◌, ap, subst, arith}
use Rattle.std.specs.Ordering.{nat_cmp}
use Rattle.std.specs.Cmp.{unsigned_tied, nat_cmp_total}
use Rattle.std.specs.FinSet as set
use Rattle.std.proofs.lemmas.Bool.Decides.{nat_tests}
use Rattle.cv_protocol.specs.declared.frame.Frame.{Frame}
use Rattle.cv_link.specs.declared.items.Item.{Item}
use Rattle.cv_link.specs.declared.items.Item.TheVariants.{Move, Lose, Twice, Cut}
use Rattle.cv_link.specs.declared.plan.Taken.{Taken}
use Rattle.cv_link.specs.declared.plan.Taken.TheVariants as told
use Rattle.cv_link.specs.Items.{Numbers, LinkView, is_between, no_items, number_added, with_item, link_of}
use Rattle.cv_link.specs.Plan.{IsLost, IsJudged}
use Rattle.cv_link.specs.Planned.{PlansLoss, IsAsPlanned}

or_cases : (a b : Bool) → (a || b) ≡ true → (a ≡ true) ⊎ (b ≡ true)
or_cases true b e = inl refl
or_cases false b e = inr e

or_right : (a b : Bool) → b ≡ true → (a || b) ≡ true
or_right true b e = refl
or_right false b e = e

same_number : (n k : ℕ) → (k == n) ≡ true → n ≡ k
same_number n k e = grind (arith, nat_tests, e)

number_itself : (n k : ℕ) → n ≡ k → (k == n) ≡ true
number_itself n k e = grind (arith, nat_tests, e)

between_same : (l : LinkView) (from to : ℕ) → is_between l from to ≡ true → (from ≡ l.from) × (to ≡ l.to)
between_same l from to e = grind (arith, nat_tests, e)

between_its : (l : LinkView) (from to : ℕ) → from ≡ l.from → to ≡ l.to → is_between l from to ≡ true
between_its l from to f t = grind (arith, nat_tests, f, t)

-- which numbers are there once one was added
has_added : (asked : Bool) (ns : Numbers) (n k : ℕ) → IsTrue (set.contains (number_added asked ns n) k) ↔ (IsTrue (set.contains ns k) ⊎ ((asked ≡ true) × (n ≡ k)))
has_added false ns n k = (λ h. inl h, λ h. elim h [ inl c ↦ c | inr p ↦ absurd (cc p.0) ])
has_added true ns n k =
    let e : set.contains (set.insert ns n) k ≡ ((k == n) || set.contains ns k) = set.contains-insert nat_cmp_total ns n k ∙ ap (λ b. b || set.contains ns k) (unsigned_tied k n) in (
      λ h. elim (or_cases (k == n) (set.contains ns k) (sym e ∙ h)) [ inl s ↦ inr (refl, same_number n k s) | inr c ↦ inl c ],
      λ h. e ∙ elim h [ inl c ↦ or_right (k == n) _ c | inr p ↦ ap (λ b. b || set.contains ns k) (number_itself n k p.1) ],
    )

-- an item enters numbers where it is of their kind and of the link
abbrev Enters : (LinkView → Numbers) → (ℕ → ℕ → ℕ → Item) → Type 0
Enters of kind = (l : LinkView) (x : Item) (k : ℕ) → IsTrue (set.contains (of (with_item l x)) k) ↔ (IsTrue (set.contains (of l) k) ⊎ (x ≡ kind l.from l.to k))

other_kind : {P Q : Type 0} → ¬ Q → P ↔ (P ⊎ Q)
other_kind never = (λ h. inl h, λ h. elim h [ inl p ↦ p | inr q ↦ absurd (never q) ])

its_kind : (kind : ℕ → ℕ → ℕ → Item) → ((a b c d e f : ℕ) → kind a b c ≡ kind d e f → (a ≡ d) × (b ≡ e) × (c ≡ f)) → (l : LinkView) (ns : Numbers) (from to n k : ℕ) → IsTrue (set.contains (number_added (is_between l from to) ns n) k) ↔ (IsTrue (set.contains ns k) ⊎ (kind from to n ≡ kind l.from l.to k))
its_kind kind parts l ns from to n k =
    let e = has_added (is_between l from to) ns n k in (
      λ h. elim (e.0 h) [ inl c ↦ inl c | inr p ↦ inr (let j = between_same l from to p.0 in cc (j.0, j.1, p.1)) ],
      λ h. e.1 (elim h [ inl c ↦ inl c | inr q ↦ inr (let s = parts from to n l.from l.to k q in (between_its l from to s.0 s.1, s.2)) ]),
    )

lose_enters : Enters (λ l. l.lose) Lose
lose_enters l (Move actor node after) k = other_kind (λ q. cc q)
lose_enters l (Lose from to n) k = its_kind Lose (λ a b c d e f q. (cc q, cc q, cc q)) l l.lose from to n k
lose_enters l (Twice from to n) k = other_kind (λ q. cc q)
lose_enters l (Cut from to n) k = other_kind (λ q. cc q)

twice_enters : Enters (λ l. l.twice) Twice
twice_enters l (Move actor node after) k = other_kind (λ q. cc q)
twice_enters l (Lose from to n) k = other_kind (λ q. cc q)
twice_enters l (Twice from to n) k = its_kind Twice (λ a b c d e f q. (cc q, cc q, cc q)) l l.twice from to n k
twice_enters l (Cut from to n) k = other_kind (λ q. cc q)

cut_enters : Enters (λ l. l.cut) Cut
cut_enters l (Move actor node after) k = other_kind (λ q. cc q)
cut_enters l (Lose from to n) k = other_kind (λ q. cc q)
cut_enters l (Twice from to n) k = other_kind (λ q. cc q)
cut_enters l (Cut from to n) k = its_kind Cut (λ a b c d e f q. (cc q, cc q, cc q)) l l.cut from to n k

from_kept : (l : LinkView) (x : Item) → (with_item l x).from ≡ l.from
from_kept l (Move actor node after) = refl
from_kept l (Lose from to n) = refl
from_kept l (Twice from to n) = refl
from_kept l (Cut from to n) = refl

to_kept : (l : LinkView) (x : Item) → (with_item l x).to ≡ l.to
to_kept l (Move actor node after) = refl
to_kept l (Lose from to n) = refl
to_kept l (Twice from to n) = refl
to_kept l (Cut from to n) = refl

Contains-first : {X : Type 0} (x y : X) (xs : List X) → x ≡ y → Contains (x ∷ xs) y
Contains-first x y xs e = (0, omega arith, e)

Contains-later : {X : Type 0} (x y : X) (xs : List X) → Contains xs y → Contains (x ∷ xs) y
Contains-later x y xs c = (suc c.0, omega (arith, c.1), c.2)

Contains-split : {X : Type 0} (x y : X) (xs : List X) (n : ℕ) → n < length (x ∷ xs) → slice_index_or (x ∷ xs) n y ≡ y → (x ≡ y) ⊎ Contains xs y
Contains-split x y xs zero h e = inl e
Contains-split x y xs (suc n) h e = inr (n, omega arith, e)

-- after all items: what was there, and those of the items that are of the kind and of the link
kind_enters : (of : LinkView → Numbers) (kind : ℕ → ℕ → ℕ → Item) → Enters of kind → (l : LinkView) (items : List Item) (k : ℕ) → IsTrue (set.contains (of (fold with_item l items)) k) ↔ (IsTrue (set.contains (of l) k) ⊎ Contains items (kind l.from l.to k))
kind_enters of kind enters l [] k = (λ h. inl h, λ h. elim h [ inl c ↦ c | inr c ↦ absurd (omega (arith, c.1)) ])
kind_enters of kind enters l (x ∷ xs) k =
    let e = enters l x k in
    let rest = kind_enters of kind enters (with_item l x) xs k in
    let same : kind (with_item l x).from (with_item l x).to k ≡ kind l.from l.to k = ap (λ a. kind a (with_item l x).to k) (from_kept l x) ∙ ap (λ b. kind l.from b k) (to_kept l x) in (
      λ h. elim (rest.0 h) [
        | inl c ↦ elim (e.0 c) [ inl d ↦ inl d | inr q ↦ inr (Contains-first x _ xs q) ]
        | inr c ↦ inr (Contains-later x _ xs (subst (λ (y : Item). Contains xs y) same c))
      ],
      λ h. rest.1 (elim h [
        | inl c ↦ inl (e.1 (inl c))
        | inr c ↦ elim (Contains-split x _ xs c.0 c.1 c.2) [ inl q ↦ inl (e.1 (inr q)) | inr d ↦ inr (subst (λ (y : Item). Contains xs y) (sym same) d) ]
      ]),
    )

-- from no items
kind_of : (of : LinkView → Numbers) (kind : ℕ → ℕ → ℕ → Item) → Enters of kind → (from to : ℕ) → of (no_items from to) ≡ set.empty → (items : List Item) (k : ℕ) → IsTrue (set.contains (of (link_of from to items)) k) ↔ Contains items (kind from to k)
kind_of of kind enters from to none items k =
    let all = kind_enters of kind enters (no_items from to) items k in (
      λ h. elim (all.0 h) [ inl c ↦ absurd (cc (c, ap (λ s. set.contains s k) none, set.contains-empty nat_cmp k)) | inr c ↦ c ],
      λ h. all.1 (inr h),
    )

lost_of : (items : List Item) (from to since k : ℕ) → IsLost (link_of from to items) since k ↔ PlansLoss items from to since k
lost_of items from to since k =
    let lose = kind_of (λ l. l.lose) Lose lose_enters from to refl items in
    let cut = kind_of (λ l. l.cut) Cut cut_enters from to refl items in (
      λ h. elim h [ inl c ↦ inl ((lose k).0 c) | inr w ↦ inr (w.0, (cut w.0).0 w.1, w.2, w.3) ],
      λ h. elim h [ inl c ↦ inl ((lose k).1 c) | inr w ↦ inr (w.0, (cut w.0).1 w.1, w.2, w.3) ],
    )

pub as_planned : (items : List Item) (from to since k : ℕ) (frame : Frame) (t : Taken) → IsJudged (link_of from to items) since k frame t → IsAsPlanned items from to since k frame t
as_planned items from to since k frame (told.Lost f) j = (j.0, (lost_of items from to since k).0 j.1)
as_planned items from to since k frame (told.Twice f) j =
    (j.0, λ h. j.1 ((lost_of items from to since k).1 h), (kind_of (λ l. l.twice) Twice twice_enters from to refl items k).0 j.2)
as_planned items from to since k frame (told.Deliver f) j =
    (j.0, λ h. j.1 ((lost_of items from to since k).1 h), λ h. j.2 ((kind_of (λ l. l.twice) Twice twice_enters from to refl items k).1 h))
