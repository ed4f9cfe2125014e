-- The firings that are shared out are no more than there are.
use Rattle.std.proofs.Common.{◌≡◌, ℕ, ◌+◌, ◌-◌, ◌<◌, ◌≤◌, ◌||◌, Bool, true, false, List, take, length, slice_set, slice_index_or, refl, sym, ◌∙◌, ap, subst, arith}
use Rattle.std.proofs.lemmas.List.Sums.{sum_by_more}
use Rattle.std.proofs.lemmas.Option.{same_Some}
use Rattle.cv_station.specs.declared.station.Station.{Station}
use Rattle.cv_mesh.specs.Moving.{AllFine, Each, Stays, fired_in, quotas_in}
use Rattle.cv_mesh.proofs.Listing.{each_back, each_set, each_then}
use Rattle.cv_cluster.specs.Rounds.{Cleared, Raised}
use Rattle.cv_cluster.proofs.Lists.{all_more, read_at, sum_none, sum_set}

-- 1. Quotas

pub stays_self : (s : Station) → Stays s s
stays_self s = record { node = refl; peers = refl }

pub stays_then : (s t u : Station) → Stays s t → Stays t u → Stays s u
stays_then s t u first second = record { node = second.node ∙ first.node; peers = second.peers ∙ first.peers }

-- stations that got some firings, where so many are left of those there were
pub record Given (old now : List Station) (most left : ℕ) : Type 0 where
  pub stays : Each Stays old now
  pub sum : quotas_in now + left ≤ quotas_in old + most

pub given_more : (old now : List Station) (most left quota place : ℕ) (s u : Station) → Given old now most left → quota ≤ left → place < length old → s ≡ slice_index_or now place s → Raised quota (slice_index_or now place s) u → Given old (slice_set now place u) most (left - quota)
given_more old now most left quota place s u given few inside here raised =
    let at = read_at now place s (let l = given.stays.long in omega (arith, inside, l)) here in
    let becomes = subst (λ (z : Station). Raised quota z u) (sym here) raised in
    let sum = sum_set (λ (s : Station). s.quota) now place quota s u at becomes.most in
    let before = given.sum in
    record {
      stays = each_then Stays Stays Stays stays_then old now (slice_set now place u) given.stays (each_set Stays stays_self now place u (λ x is. subst (λ (z : Station). Stays z u) (same_Some s x (sym at ∙ is)) becomes.stays));
      sum = omega (arith, sum, before, few);
    }

pub cleared_none : (old now : List Station) → Each Cleared old now → quotas_in now ≡ 0
cleared_none old now each =
    sum_none (λ (s : Station). s.quota) now (λ i u at. (each_back Cleared old now each i u at).2.quota)

-- 2. What stations tell

pub record Tallied (ss : List Station) (fired : ℕ) (failed : Bool) : Type 0 where
  pub count : fired ≡ fired_in ss
  pub fine : failed ≡ false → AllFine ss

or_false : (f g : Bool) → (f || g) ≡ false → (f ≡ false) × (g ≡ false)
or_false true g is = absurd (cc)
or_false false g is = (refl, is)

pub tallied_more : (ss : List Station) (i fired : ℕ) (failed : Bool) (s : Station) → i < length ss → s ≡ slice_index_or ss i s → Tallied (take i ss) fired failed → Tallied (take (i + 1) ss) (fired + s.fired) (failed || s.failed)
tallied_more ss i fired failed s inside here tallied =
    let at = read_at ss i s inside here in record {
      count = (let before = tallied.count in let more = sum_by_more (λ (s : Station). s.fired) ss i s inside in omega (arith, before, more, ap (λ (s : Station). s.fired) here));
      fine = λ fine. let both = or_false failed s.failed fine in all_more (λ (s : Station). s.failed ≡ false) ss i s at (tallied.fine both.0) both.1;
    }
