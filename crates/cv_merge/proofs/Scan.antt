-- The scan finds the earliest first entry, and the least node of those with its stamp.
use Rattle.std.proofs.Common.{◌≡◌, ◌⊎◌, inl, inr, ℕ, suc, ◌+◌, ◌<◌, ◌≤◌, Bool, true, false, nat_lt, List, [], ◌∷◌, ◌++◌, length, Option, Some, None, refl, ap, sym, ◌∙◌, subst, arith}
use Rattle.std.proofs.lemmas.Bool.Decides.{nat_tests}
use Rattle.cv_protocol.specs.declared.event.Entry.{Entry}
use Rattle.cv_merge.specs.Choice.{first_stamp, earlier_if, better, least_from}
use Rattle.cv_merge.specs.Lanes.{Lane, NothingLeft}

-- the first entry, where there is one, has a stamp of at least, or above, this one
abbrev pub FirstFrom : ℕ → List Entry → Type 0
FirstFrom t [] = Unit {0}
FirstFrom t (e ∷ es) = t ≤ e.stamp

abbrev pub FirstAbove : ℕ → List Entry → Type 0
FirstAbove t [] = Unit {0}
FirstAbove t (e ∷ es) = t < e.stamp

abbrev pub AllFrom : ℕ → List Lane → Type 0
AllFrom t [] = Unit {0}
AllFrom t (l ∷ ls) = FirstFrom t l.entries × AllFrom t ls

abbrev pub AllAboveStamp : ℕ → List Lane → Type 0
AllAboveStamp t [] = Unit {0}
AllAboveStamp t (l ∷ ls) = FirstAbove t l.entries × AllAboveStamp t ls

-- none of the lanes comes before the best so far
abbrev pub NoneBefore : Option (ℕ × ℕ) → List Lane → Type 0
NoneBefore None ls = NothingLeft ls
NoneBefore (Some b) ls = AllFrom b.1 ls

abbrev pub IsEarlier : ℕ → Option (ℕ × ℕ) → Type 0
IsEarlier t None = Unit {0}
IsEarlier t (Some b) = t < b.1

-- where the earliest stands
pub record Cut (ls : List Lane) (place : ℕ) (r : ℕ × ℕ) : Type 0 where
  pub before : List Lane
  pub lane : Lane
  pub after : List Lane
  pub first : Entry
  pub rest : List Entry
  pub stands : ls ≡ before ++ lane ∷ after
  pub has : lane.entries ≡ first ∷ rest
  pub at : r ≡ (place + length before, first.stamp)
  pub earlier : AllAboveStamp first.stamp before
  pub later : AllFrom first.stamp after

-- what the scan answers: the best so far, or one of the lanes
abbrev pub Found : List Lane → ℕ → Option (ℕ × ℕ) → Option (ℕ × ℕ) → Type 0
Found ls place best r =
    ((r ≡ best) × NoneBefore best ls) ⊎ ((x : ℕ × ℕ) × (c : Cut ls place x) × (r ≡ Some x) × IsEarlier c.first.stamp best)

from_first : (t : ℕ) (es : List Entry) (e : Entry) (rest : List Entry) → es ≡ e ∷ rest → t ≤ e.stamp → FirstFrom t es
from_first t es e rest is low = subst (FirstFrom t) (sym is) low

above_first : (t : ℕ) (es : List Entry) (e : Entry) (rest : List Entry) → es ≡ e ∷ rest → t < e.stamp → FirstAbove t es
above_first t es e rest is low = subst (FirstAbove t) (sym is) low

-- a cut of the lanes behind the first one is a cut of all
abbrev under : (l : Lane) (ls : List Lane) (place : ℕ) (x : ℕ × ℕ) (c : Cut ls (suc place) x) → FirstAbove c.first.stamp l.entries → Cut (l ∷ ls) place x
under l ls place x c above = record {
  before = l ∷ c.before;
  lane = c.lane;
  after = c.after;
  first = c.first;
  rest = c.rest;
  stands = ap (λ (ms : List Lane). l ∷ ms) c.stands;
  has = c.has;
  at = c.at ∙ ap (λ (k : ℕ). (k, c.first.stamp)) (omega arith);
  earlier = (above, c.earlier);
  later = c.later;
}

-- 1. A lane without entries

none_before_more : (l : Lane) (ls : List Lane) (best : Option (ℕ × ℕ)) → l.entries ≡ [] → NoneBefore best ls → NoneBefore best (l ∷ ls)
none_before_more l ls None is h = (is, h)
none_before_more l ls (Some b) is h = (subst (FirstFrom b.1) (sym is) (record {}), h)

skip : (l : Lane) (ls : List Lane) (place : ℕ) (best r : Option (ℕ × ℕ)) → l.entries ≡ [] → Found ls (suc place) best r → Found (l ∷ ls) place best r
skip l ls place best r is (inl h) = inl (h.0, none_before_more l ls best is h.1)
skip l ls place best r is (inr h) =
    inr (h.0, under l ls place h.0 h.1 (subst (FirstAbove h.1.first.stamp) (sym is) (record {})), h.2, h.3)

-- 2. A lane whose first entry is the earliest so far

abbrev start : (l : Lane) (ls : List Lane) (place : ℕ) (e : Entry) (es : List Entry) → l.entries ≡ e ∷ es → AllFrom e.stamp ls → Cut (l ∷ ls) place (place, e.stamp)
start l ls place e es is later = record {
  before = [];
  lane = l;
  after = ls;
  first = e;
  rest = es;
  stands = refl;
  has = is;
  at = ap (λ (k : ℕ). (k, e.stamp)) (omega arith);
  earlier = record {};
  later = later;
}

take : (l : Lane) (ls : List Lane) (place : ℕ) (best r : Option (ℕ × ℕ)) (e : Entry) (es : List Entry) → l.entries ≡ e ∷ es → ((t : ℕ) → t ≤ e.stamp → IsEarlier t best) → Found ls (suc place) (Some (place, e.stamp)) r → Found (l ∷ ls) place best r
take l ls place best r e es is earlier (inl h) =
    inr ((place, e.stamp), start l ls place e es is h.1, h.0, earlier e.stamp (omega arith))
take l ls place best r e es is earlier (inr h) =
    inr (h.0, under l ls place h.0 h.1 (above_first h.1.first.stamp l.entries e es is h.3), h.2, earlier h.1.first.stamp (omega (arith, h.3)))

-- 3. A lane whose first entry is not

keep : (l : Lane) (ls : List Lane) (place : ℕ) (b : ℕ × ℕ) (r : Option (ℕ × ℕ)) (e : Entry) (es : List Entry) → l.entries ≡ e ∷ es → b.1 ≤ e.stamp → Found ls (suc place) (Some b) r → Found (l ∷ ls) place (Some b) r
keep l ls place b r e es is low (inl h) = inl (h.0, (from_first b.1 l.entries e es is low, h.1))
keep l ls place b r e es is low (inr h) =
    inr (h.0, under l ls place h.0 h.1 (above_first h.1.first.stamp l.entries e es is (omega (arith, low, h.3))), h.2, h.3)

-- 4. The scan

keep_or_take : (l : Lane) (ls : List Lane) (place : ℕ) (b : ℕ × ℕ) (e : Entry) (es : List Entry) (earlier : Bool) → nat_lt e.stamp b.1 ≡ earlier → l.entries ≡ e ∷ es → ((best : Option (ℕ × ℕ)) → Found ls (suc place) best (least_from best (suc place) ls)) → Found (l ∷ ls) place (Some b) (least_from (Some (earlier_if earlier (place, e.stamp) b)) (suc place) ls)
keep_or_take l ls place b e es true low is below =
    take l ls place (Some b) _ e es is (λ t h. grind (arith, nat_tests)) (below (Some (place, e.stamp)))
keep_or_take l ls place b e es false low is below =
    keep l ls place b _ e es is (grind (arith, nat_tests)) (below (Some b))

by_best : (l : Lane) (ls : List Lane) (place : ℕ) (best : Option (ℕ × ℕ)) (e : Entry) (es : List Entry) → l.entries ≡ e ∷ es → ((best : Option (ℕ × ℕ)) → Found ls (suc place) best (least_from best (suc place) ls)) → Found (l ∷ ls) place best (least_from (better best place (Some e.stamp)) (suc place) ls)
by_best l ls place None e es is below =
    take l ls place None _ e es is (λ t h. record {}) (below (Some (place, e.stamp)))
by_best l ls place (Some b) e es is below =
    keep_or_take l ls place b e es (nat_lt e.stamp b.1) refl is below

by_entries : (l : Lane) (ls : List Lane) (place : ℕ) (best : Option (ℕ × ℕ)) (es : List Entry) → l.entries ≡ es → ((best : Option (ℕ × ℕ)) → Found ls (suc place) best (least_from best (suc place) ls)) → Found (l ∷ ls) place best (least_from (better best place (first_stamp es)) (suc place) ls)
by_entries l ls place best [] is below = skip l ls place best _ is (below best)
by_entries l ls place best (e ∷ es) is below = by_best l ls place best e es is below

none_left : (best : Option (ℕ × ℕ)) → NoneBefore best []
none_left None = record {}
none_left (Some b) = record {}

pub least_is : (ls : List Lane) (place : ℕ) (best : Option (ℕ × ℕ)) → Found ls place best (least_from best place ls)
least_is [] place best = inl (refl, none_left best)
least_is (l ∷ ls) place best =
    by_entries l ls place best l.entries refl (λ b. least_is ls (suc place) b)
