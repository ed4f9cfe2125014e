-- Sweeps, after each of which the turns of the links end.
use Rattle.std.proofs.Common.{◌≡◌, ◌||◌, Bool, true, false, List, [], ◌++◌, refl, sym, ◌∙◌, ap, subst, append-nil, append_assoc}
use Rattle.cv_protocol.specs.declared.event.Entry.{Entry}
use Rattle.cv_node.specs.Counts.{firing_count}
use Rattle.cv_node.specs.Journalled.{Journalled}
use Rattle.cv_station.specs.declared.station.Station.{Station}
use Rattle.cv_mesh.specs.Keeping.{Kept}
use Rattle.cv_mesh.specs.Moving.{AllLooked, AreMeshed, Each, Goes, Grows, Looks, Turns}
use Rattle.cv_mesh.proofs.Composing.{calm_sums, goes_grows, looks_meshed, steps_kept, turns_meshed}
use Rattle.cv_mesh.proofs.Kept.{turned_kept}
use Rattle.cv_mesh.proofs.Listing.{each_as, each_self, each_then}
use Rattle.cv_settle.specs.Settling.{Carries, Settled, StaysAtMoment, Sweeps}
use Rattle.cv_settle.proofs.Timeless.{stays_same, stays_then}

-- 1. Journals

grows_as : (s u : Station) → u.node ≡ s.node → Grows s u
grows_as s u same = record {
  based = ap (λ (n : Journalled). n.base) same;
  more = [];
  appends = ap (λ (n : Journalled). n.entries) same ∙ sym (append-nil s.node.entries);
}

grows_then : (s t u : Station) → Grows s t → Grows t u → Grows s u
grows_then s t u first second = record {
  based = second.based ∙ first.based;
  more = first.more ++ second.more;
  appends = second.appends ∙ ap (λ (es : List Entry). es ++ second.more) first.appends ∙ append_assoc s.node.entries first.more second.more;
}

grows_same : (s t u : Station) → Grows s t → u.node ≡ t.node → Grows s u
grows_same s t u grows same = grows_then s t u grows (grows_as t u same)

-- 2. One sweep

module _ (f : Bool) (ss ts us vs : List Station) (sweeps : Sweeps f ss ts) (looks : Each Looks ts us) (looked : AllLooked us) (turns : Each Turns us vs) where
  goes : Each (Goes f) ss ts
  goes = each_as (Carries f) (Goes f) (λ s u k. k.settles.goes) ss ts sweeps.carries

  grown : Each Grows ss vs
  grown =
      each_then Grows Turns Grows (λ s t u g k. grows_same s t u g k.node) ss us vs (each_then Grows Looks Grows (λ s t u g k. grows_same s t u g k.node) ss ts us (each_as (Goes f) Grows (goes_grows f) ss ts goes) looks) turns

  abbrev SameCount : Station → Station → Type 0
  SameCount s u = firing_count u.node.entries ≡ firing_count s.node.entries

  calm : Each SameCount ss vs
  calm =
      each_then SameCount Turns SameCount (λ s t u c k. ap (λ (n : Journalled). firing_count n.entries) k.node ∙ c) ss us vs (each_then SameCount Looks SameCount (λ s t u c k. ap (λ (n : Journalled). firing_count n.entries) k.node ∙ c) ss ts us (each_as (Carries f) SameCount (λ s u k. k.settles.calm) ss ts sweeps.carries) looks) turns

  stays : Each StaysAtMoment ss vs
  stays =
      each_then StaysAtMoment Turns StaysAtMoment (λ s t u c k. stays_same s t u c k.node) ss us vs (each_then StaysAtMoment Looks StaysAtMoment (λ s t u c k. stays_same s t u c k.node) ss ts us (each_as (Carries f) StaysAtMoment (λ s u k. k.stays) ss ts sweeps.carries) looks) turns

  pub swept_settled : Settled f ss vs
  swept_settled = record {
    kept = λ items was k. turned_kept items (was || f) us vs (steps_kept items was f ss ts us k goes looks looked) turns;
    grows = grown;
    calm = calm_sums ss vs calm;
    stays = stays;
    meshed = turns_meshed us vs turns (looks_meshed ts us looks sweeps.meshed);
  }

-- 3. Several sweeps

or_none : (b : Bool) → (b || false) ≡ b
or_none true = refl
or_none false = refl

pub settled_none : (ss : List Station) → AreMeshed ss → Settled false ss ss
settled_none ss meshed = record {
  kept = λ items was k. subst (λ (b : Bool). Kept items b ss) (sym (or_none was)) k;
  grows = each_self Grows (λ s. grows_as s s refl) ss;
  calm = refl;
  stays = each_self StaysAtMoment (λ s. record { same = λ now. refl }) ss;
  meshed = meshed;
}

pub settled_then : (f : Bool) (ss ts us : List Station) → Settled false ss ts → Settled f ts us → Settled f ss us
settled_then f ss ts us first second = record {
  kept = λ items was k. subst (λ (b : Bool). Kept items (b || f) us) (or_none was) (second.kept items (was || false) (first.kept items was k));
  grows = each_then Grows Grows Grows grows_then ss ts us first.grows second.grows;
  calm = second.calm ∙ first.calm;
  stays = each_then StaysAtMoment StaysAtMoment StaysAtMoment stays_then ss ts us first.stays second.stays;
  meshed = second.meshed;
}

-- memory was wanting in the second one
pub settled_failed : (b : Bool) (ss ts us : List Station) → b ≡ true → Settled false ss ts → Settled true ts us → Settled b ss us
settled_failed b ss ts us is first second =
    subst (λ (x : Bool). Settled x ss us) (sym is) (settled_then true ss ts us first second)
