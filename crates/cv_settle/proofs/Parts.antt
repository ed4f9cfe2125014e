-- Parts of a sweep, one after the other.
use Rattle.std.proofs.Common.{◌≡◌, ℕ, ◌<◌, Bool, true, false, List, length, slice_set, slice_index_or, sym, ◌∙◌, subst}
use Rattle.std.proofs.lemmas.Option.{same_Some}
use Rattle.cv_station.specs.declared.station.Station.{Station}
use Rattle.cv_mesh.specs.Moving.{AreMeshed, Each, Goes, Looks}
use Rattle.cv_mesh.proofs.Composing.{goes_meshed, looks_meshed}
use Rattle.cv_mesh.proofs.Listing.{each_as, each_self, each_set, each_then}
use Rattle.cv_mesh.proofs.Looked.{at_or}
use Rattle.cv_settle.specs.Settling.{Carries, Sweeps}
use Rattle.cv_settle.proofs.Silent.{carries_looks, carries_none, carries_then}

pub sweeps_by : (f : Bool) (ss us : List Station) → AreMeshed ss → Each (Carries f) ss us → Sweeps f ss us
sweeps_by f ss us meshed each = record {
  carries = each;
  meshed = goes_meshed f ss us (each_as (Carries f) (Goes f) (λ s u k. k.settles.goes) ss us each) meshed;
}

pub sweeps_none : (f : Bool) (ss : List Station) → AreMeshed ss → Sweeps f ss ss
sweeps_none f ss meshed = record { carries = each_self (Carries f) (carries_none f) ss; meshed = meshed }

pub sweeps_then : (f : Bool) (ss ts us : List Station) → Sweeps false ss ts → Sweeps f ts us → Sweeps f ss us
sweeps_then f ss ts us first second = record {
  carries = each_then (Carries false) (Carries f) (Carries f) (carries_then f) ss ts us first.carries second.carries;
  meshed = second.meshed;
}

pub sweeps_looks : (f : Bool) (ss us : List Station) → AreMeshed ss → Each Looks ss us → Sweeps f ss us
sweeps_looks f ss us meshed looks = record {
  carries = each_as Looks (Carries f) (carries_looks f) ss us looks;
  meshed = looks_meshed ss us looks meshed;
}

-- one station alone did something
pub sweeps_at : (f : Bool) (ss : List Station) (place : ℕ) (d y : Station) → AreMeshed ss → place < length ss → Carries f (slice_index_or ss place d) y → Sweeps f ss (slice_set ss place y)
sweeps_at f ss place d y meshed inside carries =
    let at = at_or ss place d inside in
    sweeps_by f ss (slice_set ss place y) meshed (each_set (Carries f) (carries_none f) ss place y (λ s at_s. subst (λ (x : Station). Carries f x y) (same_Some (slice_index_or ss place d) s (sym at ∙ at_s)) carries))

-- memory was wanting in the second part
pub sweeps_failed : (b : Bool) (ss ts us : List Station) → b ≡ true → Sweeps false ss ts → Sweeps true ts us → Sweeps b ss us
sweeps_failed b ss ts us is first second =
    subst (λ (x : Bool). Sweeps x ss us) (sym is) (sweeps_then true ss ts us first second)
