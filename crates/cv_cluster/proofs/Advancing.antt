-- Stations that go on: what they keep, and how their journals grow.
use Rattle.std.proofs.Common.{◌≡◌, ℕ, ◌+◌, ◌<◌, ◌≤◌, ◌||◌, Bool, true, false, if◌then◌else◌, List, [], ◌∷◌, ◌++◌, map, length, slice_index_or, slice_set, refl, sym, ◌∙◌, ap, subst, arith, append_assoc, append-nil, length-append}
use Rattle.std.specs.List.{flat_map}
use Rattle.std.proofs.lemmas.Option.{same_Some}
use Rattle.std.proofs.lemmas.List.Sums.{sum_by-append, sum_by-cons}
use Rattle.cv_protocol.specs.declared.event.Entry.{Entry}
use Rattle.cv_protocol.specs.declared.event.Event.{Event}
use Rattle.cv_protocol.specs.declared.event.Event.TheVariants as event
use Rattle.cv_protocol.specs.NodeState.{NodeState}
use Rattle.cv_state.specs.Steps.{frames_of}
use Rattle.cv_node.specs.Counts.{firing_count, firing_count_of, is_firing, journal_length}
use Rattle.cv_node.specs.Journalled.{Journalled, entry_of_row}
use Rattle.cv_link.specs.declared.items.Item.{Item}
use Rattle.cv_station.specs.declared.station.Station.{Station}
use Rattle.cv_station.specs.Acts.{Does, events_in}
use Rattle.cv_station.specs.Going.{Stepped}
use Rattle.cv_station.proofs.Goes.{does_step}
use Rattle.cv_station.proofs.Runs.{runs_one}
use Rattle.cv_mesh.specs.Moving.{AllFine, AllLooked, AreMeshed, Each, Goes, Looks, Settles, Stays, Turns, Worked, fired_in, firings_in, quotas_in}
use Rattle.cv_mesh.specs.Moving as moving
use Rattle.cv_mesh.proofs.Composing.{calm_sums, goes_grows, goes_meshed, looks_meshed, steps_kept}
use Rattle.cv_mesh.proofs.Going.{goes_then, looks_goes, stays_looks, worked_goes}
use Rattle.cv_mesh.proofs.Growing.{does_longer}
use Rattle.cv_mesh.proofs.Kept.{turned_kept}
use Rattle.cv_mesh.proofs.Listing.{each_as, each_back, each_self, each_set, each_then, same_map, sums_below, sums_up}
use Rattle.cv_mesh.specs.Keeping.{Kept}
use Rattle.cv_bounds.specs.Moments.{IsStart}
use Rattle.cv_settle.specs.Settling.{Settled, StaysAtMoment}
use Rattle.cv_settle.proofs.Timeless.{stays_as, stays_longer, stays_same, stays_then, untimed_acts}
use Rattle.cv_cluster.specs.Cluster.{ClusterView, GoesOn, Grows}
use Rattle.cv_cluster.specs.Holding.{Holds, IsNear, node_of, spec_of}
use Rattle.cv_cluster.specs.Opening.{AllAreForNodes}
use Rattle.cv_cluster.specs.Rounds.{Advances}
use Rattle.cv_cluster.specs.Ticking.{StationTicks}
use Rattle.cv_cluster.proofs.Early.{early_on, early_ticked, together_on, together_ticked}
use Rattle.cv_cluster.proofs.Moments.{ticks_look}
use Rattle.cv_cluster.proofs.Lists.{each_map, read_at, sum_map}

-- 1. Firings

events_count : (more : List Entry) → firing_count more ≡ firing_count_of (map (λ (e : Entry). e.event) more)
events_count [] = refl
events_count (e ∷ more) =
    let rest = events_count more in
    omega (arith, rest, sum_by-cons (λ (e : Entry). if is_firing e.event then 1 else 0) e more, sum_by-cons (λ (x : Event). if is_firing x then 1 else 0) e.event (map (λ (e : Entry). e.event) more))

worked_counts : (s u : Station) → Worked s u → firing_count u.node.entries ≡ firing_count s.node.entries + u.fired
worked_counts s u w =
    let longer = does_longer (flat_map events_in w.acts) s.node w.round.works.frames u.node w.round.works.does in
    let all = ap firing_count longer.appends in
    let split = sum_by-append (λ (e : Entry). if is_firing e.event then 1 else 0) s.node.entries longer.more in
    let new = events_count longer.more ∙ ap firing_count_of longer.events ∙ w.round.counted in
    omega (arith, all, split, new)

worked_stays : (s u : Station) → Worked s u → StaysAtMoment s u
worked_stays s u w =
    stays_longer s u (flat_map events_in w.acts) (does_longer (flat_map events_in w.acts) s.node w.round.works.frames u.node w.round.works.does) (untimed_acts w.acts w.round.works.are_acts w.round.own)

-- the nodes stay
same_firings : (R : Station → Station → Type 0) → ((s u : Station) → R s u → u.node ≡ s.node) → (ss us : List Station) → Each R ss us → firings_in us ≡ firings_in ss
same_firings R same ss us each =
    calm_sums ss us (each_as R (λ s u. firing_count u.node.entries ≡ firing_count s.node.entries) (λ s u k. ap (λ (n : Journalled). firing_count n.entries) (same s u k)) ss us each)

grows_as : (R : Station → Station → Type 0) → ((s u : Station) → R s u → u.node ≡ s.node) → (s t u : Station) → moving.Grows s t → R t u → moving.Grows s u
grows_as R same s t u grows k = record {
  based = ap (λ (n : Journalled). n.base) (same t u k) ∙ grows.based;
  more = grows.more;
  appends = ap (λ (n : Journalled). n.entries) (same t u k) ∙ grows.appends;
}

grows_none : (s : Station) → moving.Grows s s
grows_none s = record { based = refl; more = []; appends = sym (append-nil s.node.entries) }

-- 2. A round

module _ (failed : Bool) (ss ts us vs ws : List Station) (stays : Each Stays ss ts) (worked : Each Worked ts us) (fine : failed ≡ false → AllFine us) (looks : Each Looks us vs) (looked : AllLooked vs) (turns : Each Turns vs ws) where
  go : Each (Goes failed) ss us
  go =
      let quiet = each_as Stays (Goes false) (λ s t k. looks_goes false s t (stays_looks s t k)) ss ts stays in
      let work : Each (Goes failed) ts us = record { long = worked.long; all = λ i t at. let u = worked.all i t at in (u.0, u.1, worked_goes failed t u.0 (λ is. fine is i u.0 u.1) u.2) } in
      each_then (Goes false) (Goes failed) (Goes failed) (goes_then false failed) ss ts us quiet work

  grow : Each moving.Grows ss ws
  grow =
      let now = each_as (Goes failed) moving.Grows (goes_grows failed) ss us go in
      let later = each_then moving.Grows Looks moving.Grows (grows_as Looks (λ s u k. k.node)) ss us vs now looks in
      each_then moving.Grows Turns moving.Grows (grows_as Turns (λ s u k. k.node)) ss vs ws later turns

  counted : firings_in ws ≡ firings_in ss + fired_in us
  counted =
      let before = same_firings Stays (λ s u k. k.node) ss ts stays in
      let here = sums_up (λ (s : Station). firing_count s.node.entries) (λ (s : Station). s.fired) ts us worked.long (λ i t at. let u = worked.all i t at in (u.0, u.1, worked_counts t u.0 u.2)) in
      let looking = same_firings Looks (λ s u k. k.node) us vs looks in
      let turning = same_firings Turns (λ s u k. k.node) vs ws turns in
      omega (arith, before, here, looking, turning)

  same_moment : Each StaysAtMoment ss ws
  same_moment =
      let quiet = each_as Stays StaysAtMoment (λ s t k. stays_as s t k.node) ss ts stays in
      let work = each_then StaysAtMoment StaysAtMoment StaysAtMoment stays_then ss ts us quiet (each_as Worked StaysAtMoment worked_stays ts us worked) in
      let look = each_then StaysAtMoment Looks StaysAtMoment (λ s t u c k. stays_same s t u c k.node) ss us vs work looks in
      each_then StaysAtMoment Turns StaysAtMoment (λ s t u c k. stays_same s t u c k.node) ss vs ws look turns

  pub round_advances : Advances failed (fired_in us) ss ws
  round_advances items was kept = record {
    kept = turned_kept items (was || failed) vs ws (steps_kept items was failed ss us vs kept go looks looked) turns;
    grows = grow;
    count = counted;
    early = early_on ss ws grow same_moment;
    together = together_on ss ws same_moment;
  }

-- they can be looked at after the work
pub worked_meshed : (ss ts us : List Station) → Each Stays ss ts → Each Worked ts us → AreMeshed ss → AreMeshed us
worked_meshed ss ts us stays worked meshed =
    let still = looks_meshed ss ts (each_as Stays Looks stays_looks ss ts stays) meshed in
    goes_meshed true ts us (each_as Worked (Goes true) (λ s u k. worked_goes true s u (λ is. absurd (cc)) k) ts us worked) still

-- no more fired than was shared out
pub fired_below : (ts us : List Station) → Each Worked ts us → fired_in us ≤ quotas_in ts
fired_below ts us worked =
    sums_below (λ (s : Station). s.fired) (λ (s : Station). s.quota) us ts (sym worked.long) (λ i u at. let t = each_back Worked ts us worked i u at in (t.0, t.1, t.2.within))

-- 3. Without firings

pub settles_meshed : (ss us : List Station) → Each (Settles false) ss us → AreMeshed ss → AreMeshed us
settles_meshed ss us settles meshed =
    goes_meshed false ss us (each_as (Settles false) (Goes false) (λ s u k. k.goes) ss us settles) meshed

-- nothing changed
pub settles_same : (s u : Station) → u ≡ s → Settles false s u
settles_same s u same =
    subst (Settles false s) (sym same) (record { goes = looks_goes false s s (stays_looks s s (record { node = refl; peers = refl })); calm = refl })

pub settles_then : (s t u : Station) → Settles false s t → Settles false t u → Settles false s u
settles_then s t u first second = record { goes = goes_then false false s t u first.goes second.goes; calm = second.calm ∙ first.calm }

pub settles_set : (old now : List Station) (k : ℕ) (s u : Station) → Each (Settles false) old now → k < length old → s ≡ slice_index_or now k s → Settles false s u → Each (Settles false) old (slice_set now k u)
settles_set old now k s u before inside here settles =
    let at = read_at now k s (let l = before.long in omega (arith, inside, l)) here in
    each_then (Settles false) (Settles false) (Settles false) settles_then old now (slice_set now k u) before (each_set (Settles false) (λ x. settles_same x x refl) now k u (λ x is. subst (λ (z : Station). Settles false z u) (same_Some s x (sym at ∙ is)) settles))

-- a step of the node to a moment
pub settles_tick : (t : ℕ) (s u : Station) → Stepped s (event.Tick t) u → length s.node.entries < journal_length → Settles false s u
settles_tick t s u did room =
    let does = does_step s.node u.node (event.Tick t) did.sent did.steps in
    let longer = ap length did.steps.appends ∙ length-append s.node.entries (entry_of_row s.node.state (event.Tick t) ∷ []) in
    record {
      goes = record {
        acts = Does (event.Tick t) ∷ [];
        runs = runs_one false s u (Does (event.Tick t)) (frames_of did.sent) refl tt (λ h. tt) does did.peers;
        own = (refl, tt);
        few = λ h. omega (arith, longer, room);
      };
      calm = ap firing_count did.steps.appends ∙ sum_by-append (λ (e : Entry). if is_firing e.event then 1 else 0) s.node.entries (entry_of_row s.node.state (event.Tick t) ∷ []) ∙ omega arith;
    }

pub calm_advances : (t : ℕ) (ss us vs : List Station) → IsNear ss t → Each (StationTicks t) ss us → Each (Settles false) ss us → Each Looks us vs → AllLooked vs → Advances false 0 ss vs
calm_advances t ss us vs near ticks settles looks looked items was kept =
    let go = each_as (Settles false) (Goes false) (λ s u k. k.goes) ss us settles in
    let calm = calm_sums ss us (each_as (Settles false) (λ s u. firing_count u.node.entries ≡ firing_count s.node.entries) (λ s u k. k.calm) ss us settles) in
    let same = same_firings Looks (λ s u k. k.node) us vs looks in
    let ticked = each_then (StationTicks t) Looks (StationTicks t) (ticks_look t) ss us vs ticks looks in
    record {
      kept = steps_kept items was false ss us vs kept go looks looked;
      grows = each_then moving.Grows Looks moving.Grows (grows_as Looks (λ s u k. k.node)) ss us vs (each_as (Goes false) moving.Grows (goes_grows false) ss us go) looks;
      count = omega (arith, calm, same);
      early = λ early. early_ticked t ss vs near ticked;
      together = λ together. together_ticked t ss vs ticked;
    }

-- where nothing went on
pub none_advances : (ss : List Station) → Advances false 0 ss ss
none_advances ss items was kept = record {
  kept = still_kept was kept;
  grows = each_self moving.Grows grows_none ss;
  count = omega arith;
  early = λ early. early;
  together = λ together. together;
}
  where
    still_kept : (was : Bool) → Kept items was ss → Kept items (was || false) ss
    still_kept true k = k
    still_kept false k = k

pub settled_advances : (failed : Bool) (ss us : List Station) → Settled failed ss us → Advances failed 0 ss us
settled_advances failed ss us settled items was kept = record {
  kept = settled.kept items was kept;
  grows = settled.grows;
  count = (let calm = settled.calm in omega (arith, calm));
  early = early_on ss us settled.grows settled.stays;
  together = together_on ss us settled.stays;
}

-- 4. In the words of the cluster

pub holds_on : (items : List Item) (was failed : Bool) (fired : ℕ) (ss us : List Station) → Advances failed fired ss us → Holds items was ss → Holds items (was || failed) us
holds_on items was failed fired ss us advances holds =
    let a = advances items was holds.kept in
    let same = same_map spec_of ss us a.grows.long (λ i s at. let u = a.grows.all i s at in (u.0, u.1, ap (λ (b : NodeState). b.spec) u.2.based)) in
    record {
      kept = a.kept;
      fit = subst AllAreForNodes (sym same) holds.fit;
      started = λ i u at. let s = each_back moving.Grows ss us a.grows i u at in subst IsStart (sym s.2.based) (holds.started i s.0 s.1);
      early = a.early holds.early;
      together = a.together holds.together;
    }

-- memory was wanting in no call more, or in this one
or_none : (items : List Item) (was : Bool) (us : List Station) → Holds items (was || false) us → Holds items was us
or_none items true us holds = holds
or_none items false us holds = holds

or_all : (items : List Item) (was : Bool) (us : List Station) → Holds items (was || true) us → Holds items true us
or_all items true us holds = holds
or_all items false us holds = holds

pub fine_holds : (items : List Item) (was failed : Bool) (fired : ℕ) (ss us : List Station) → failed ≡ false → Advances failed fired ss us → Holds items was ss → Holds items was us
fine_holds items was failed fired ss us fine advances holds =
    or_none items was us (subst (λ (b : Bool). Holds items (was || b) us) fine (holds_on items was failed fired ss us advances holds))

pub failed_holds : (items : List Item) (was failed : Bool) (fired : ℕ) (ss us : List Station) → failed ≡ true → Advances failed fired ss us → Holds items was ss → Holds items true us
failed_holds items was failed fired ss us wanting advances holds =
    or_all items was us (subst (λ (b : Bool). Holds items (was || b) us) wanting (holds_on items was failed fired ss us advances holds))

abbrev pub view_of : List Item → Bool → List Station → ClusterView
view_of items failed ss = record { items = items; nodes = map node_of ss; failed = failed }

pub advances_on : (items : List Item) (was failed now : Bool) (fired : ℕ) (ss us : List Station) → Advances failed fired ss us → Holds items was ss → GoesOn (view_of items was ss) (view_of items now us) fired
advances_on items was failed now fired ss us advances holds =
    let a = advances items was holds.kept in
    let count = a.count in
    record {
      items = refl;
      nodes = each_map node_of moving.Grows Grows (λ s u k. record { based = k.based; more = k.more; appends = k.appends }) ss us a.grows;
      count = omega (arith, count, sum_map (λ (n : Journalled). firing_count n.entries) node_of ss, sum_map (λ (n : Journalled). firing_count n.entries) node_of us);
    }

-- where the lists are read off a vector and written back
pub view_on : (items : List Item) (was failed now : Bool) (fired : ℕ) (xs ss us ws : List Station) → ss ≡ xs → ws ≡ us → Advances failed fired ss us → Holds items was xs → GoesOn (view_of items was xs) (view_of items now ws) fired
view_on items was failed now fired xs ss us ws read written advances holds =
    subst (λ (zs : List Station). GoesOn (view_of items was xs) (view_of items now zs) fired) (sym written) (advances_on items was failed now fired xs us (subst (λ (zs : List Station). Advances failed fired zs us) read advances) holds)

pub fine_written : (items : List Item) (was failed : Bool) (fired : ℕ) (xs ss us ws : List Station) → ss ≡ xs → ws ≡ us → failed ≡ false → Advances failed fired ss us → Holds items was xs → Holds items was ws
fine_written items was failed fired xs ss us ws read written fine advances holds =
    subst (Holds items was) (sym written) (fine_holds items was failed fired xs us fine (subst (λ (zs : List Station). Advances failed fired zs us) read advances) holds)

pub failed_written : (items : List Item) (was failed : Bool) (fired : ℕ) (xs ss us ws : List Station) → ss ≡ xs → ws ≡ us → failed ≡ true → Advances failed fired ss us → Holds items was xs → Holds items true ws
failed_written items was failed fired xs ss us ws read written wanting advances holds =
    subst (Holds items true) (sym written) (failed_holds items was failed fired xs us wanting (subst (λ (zs : List Station). Advances failed fired zs us) read advances) holds)

grows_self : (n : Journalled) → Grows n n
grows_self n = record { based = refl; more = []; appends = sym (append-nil n.entries) }

grows_then : (l m n : Journalled) → Grows l m → Grows m n → Grows l n
grows_then l m n first second = record {
  based = second.based ∙ first.based;
  more = first.more ++ second.more;
  appends = second.appends ∙ ap (λ (es : List Entry). es ++ second.more) first.appends ∙ append_assoc l.entries first.more second.more;
}

pub goes_on_self : (c : ClusterView) → GoesOn c c 0
goes_on_self c = record { items = refl; nodes = each_self Grows grows_self c.nodes; count = omega arith }

pub goes_on_then : (a b c : ClusterView) (n m : ℕ) → GoesOn a b n → GoesOn b c m → GoesOn a c (n + m)
goes_on_then a b c n m first second =
    let x = first.count in
    let y = second.count in
    record {
      items = second.items ∙ first.items;
      nodes = each_then Grows Grows Grows grows_then a.nodes b.nodes c.nodes first.nodes second.nodes;
      count = omega (arith, x, y);
    }
