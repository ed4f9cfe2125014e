-- What one station does in a settle: nothing fires.
use Rattle.std.proofs.Common.{◌≡◌, ◌+◌, ◌<◌, Bool, true, false, if◌then◌else◌, List, [], ◌∷◌, map, length, None, refl, sym, ◌∙◌, ap, subst, arith}
use Rattle.std.specs.List.{flat_map}
use Rattle.std.proofs.lemmas.List.{append-nil}
use Rattle.std.proofs.lemmas.List.Sums.{sum_by-append, sum_by-cons}
use Rattle.cv_protocol.specs.declared.event.Entry.{Entry}
use Rattle.cv_protocol.specs.declared.event.Event.{Event}
use Rattle.cv_protocol.specs.declared.event.Event.TheVariants as event
use Rattle.cv_protocol.specs.declared.event.Sent.{Sent}
use Rattle.cv_protocol.specs.Journals.{got_frame}
use Rattle.cv_state.specs.Steps.{frames_of}
use Rattle.cv_node.specs.Counts.{firing_count, firing_count_of, is_firing, journal_length}
use Rattle.cv_node.specs.Journalled.{Journalled, MakesStep}
use Rattle.cv_station.specs.declared.station.Station.{Station}
use Rattle.cv_station.specs.Acts.{Does, NodeDoes, events_in}
use Rattle.cv_station.specs.Going as station
use Rattle.cv_station.proofs.Runs.{does_length, runs_one}
use Rattle.cv_mesh.specs.Going.{is_of_run}
use Rattle.cv_mesh.specs.Moving.{Looks}
use Rattle.cv_mesh.proofs.Going.{goes_then, looks_goes, looks_self_station, works_of_run}
use Rattle.cv_mesh.proofs.Growing.{Longer, does_longer}
use Rattle.cv_settle.specs.Settling.{Carries, is_carrying}
use Rattle.cv_settle.proofs.Timeless.{stays_as, stays_longer, stays_then, untimed_acts, untimed_carrying}

-- 1. Firings that are counted

-- the firings among entries are those among their events
count_events : (es : List Entry) → firing_count es ≡ firing_count_of (map (λ (e : Entry). e.event) es)
count_events [] = refl
count_events (e ∷ es) =
    sum_by-cons (λ (x : Entry). if is_firing x.event then 1 else 0) e es
    ∙ ap (λ n. (if is_firing e.event then 1 else 0) + n) (count_events es)
    ∙ sym (sum_by-cons (λ (x : Event). if is_firing x then 1 else 0) e.event (map (λ (x : Entry). x.event) es))

calm_by : (es : List Event) (old new : Journalled) → Longer old es new → firing_count_of es ≡ 0 → firing_count new.entries ≡ firing_count old.entries
calm_by es old new l none =
    let all : firing_count new.entries ≡ firing_count old.entries + firing_count l.more = ap firing_count l.appends ∙ sum_by-append (λ (e : Entry). if is_firing e.event then 1 else 0) old.entries l.more in
    let more : firing_count l.more ≡ 0 = count_events l.more ∙ ap firing_count_of l.events ∙ none in
    omega (arith, all, more)

-- 2. One after the other

pub carries_looks : (f : Bool) (s u : Station) → Looks s u → Carries f s u
carries_looks f s u k = record {
  settles = record { goes = looks_goes f s u k; calm = ap (λ (n : Journalled). firing_count n.entries) k.node };
  stays = stays_as s u k.node;
}

pub carries_none : (f : Bool) (s : Station) → Carries f s s
carries_none f s = carries_looks f s s (looks_self_station s)

pub carries_back : (f : Bool) (s u : Station) → u ≡ s → Carries f s u
carries_back f s u same = subst (Carries f s) (sym same) (carries_none f s)

pub carries_then : (f : Bool) (s t u : Station) → Carries false s t → Carries f t u → Carries f s u
carries_then f s t u first second = record {
  settles = record { goes = goes_then false f s t u first.settles.goes second.settles.goes; calm = second.settles.calm ∙ first.settles.calm };
  stays = stays_then s t u first.stays second.stays;
}

-- 3. A step of the node's own

alone : (e : Event) → is_carrying e ≡ true → got_frame e ≡ None
alone (event.Pass conn) is = refl
alone (event.Send conn) is = refl
alone (event.Rewind conn) is = refl
alone (event.Fire a action) is = absurd (cc)
alone (event.Peek a port) is = absurd (cc)
alone (event.Tick now) is = absurd (cc)
alone (event.Meet node attrs) is = absurd (cc)
alone (event.Deploy name net) is = absurd (cc)
alone (event.Freeze a to) is = absurd (cc)
alone (event.Resend a) is = absurd (cc)
alone (event.Withdraw a) is = absurd (cc)
alone (event.Hint a attempt node) is = absurd (cc)
alone (event.Destroy app) is = absurd (cc)
alone (event.Lose f) is = absurd (cc)
alone (event.Deliver f) is = absurd (cc)

of_run : (e : Event) → is_carrying e ≡ true → is_of_run e ≡ true
of_run (event.Pass conn) is = refl
of_run (event.Send conn) is = refl
of_run (event.Rewind conn) is = refl
of_run (event.Fire a action) is = absurd (cc)
of_run (event.Peek a port) is = absurd (cc)
of_run (event.Tick now) is = absurd (cc)
of_run (event.Meet node attrs) is = absurd (cc)
of_run (event.Deploy name net) is = absurd (cc)
of_run (event.Freeze a to) is = absurd (cc)
of_run (event.Resend a) is = absurd (cc)
of_run (event.Withdraw a) is = absurd (cc)
of_run (event.Hint a attempt node) is = absurd (cc)
of_run (event.Destroy app) is = absurd (cc)
of_run (event.Lose f) is = absurd (cc)
of_run (event.Deliver f) is = absurd (cc)

fires_not : (e : Event) → is_carrying e ≡ true → firing_count_of (e ∷ []) ≡ 0
fires_not (event.Pass conn) is = refl
fires_not (event.Send conn) is = refl
fires_not (event.Rewind conn) is = refl
fires_not (event.Fire a action) is = absurd (cc)
fires_not (event.Peek a port) is = absurd (cc)
fires_not (event.Tick now) is = absurd (cc)
fires_not (event.Meet node attrs) is = absurd (cc)
fires_not (event.Deploy name net) is = absurd (cc)
fires_not (event.Freeze a to) is = absurd (cc)
fires_not (event.Resend a) is = absurd (cc)
fires_not (event.Withdraw a) is = absurd (cc)
fires_not (event.Hint a attempt node) is = absurd (cc)
fires_not (event.Destroy app) is = absurd (cc)
fires_not (event.Lose f) is = absurd (cc)
fires_not (event.Deliver f) is = absurd (cc)

one_step : (a b : Journalled) (e : Event) (sent : Sent) → MakesStep a e sent b → NodeDoes a (e ∷ []) (frames_of sent) b
one_step a b e sent steps = record {
  sent = sent;
  middle = b;
  rest = [];
  steps = steps;
  later = (refl, refl);
  all = sym (append-nil (frames_of sent));
}

pub carries_stepped : (s u : Station) (e : Event) → station.Stepped s e u → is_carrying e ≡ true → length s.node.entries < journal_length → Carries false s u
carries_stepped s u e did own room =
    let does = one_step s.node u.node e did.sent did.steps in
    let longer = does_length (e ∷ []) (frames_of did.sent) s.node u.node does in
    let grown = does_longer (e ∷ []) s.node (frames_of did.sent) u.node does in
    record {
      settles = record {
        goes = record {
          acts = Does e ∷ [];
          runs = runs_one false s u (Does e) (frames_of did.sent) (alone e own) tt (λ h. tt) does did.peers;
          own = (of_run e own, tt);
          few = λ h. omega (arith, longer, room);
        };
        calm = calm_by (e ∷ []) s.node u.node grown (fires_not e own);
      };
      stays = stays_longer s u (e ∷ []) grown (untimed_carrying e own, tt);
    }

-- 4. Deliveries

pub carries_delivered : (f : Bool) (s u : Station) → station.Goes journal_length s f u → u.fired ≡ s.fired → Carries f s u
carries_delivered f s u go fired =
    let grown = does_longer (flat_map events_in go.acts) s.node go.runs.frames u.node go.runs.does in
    record {
      settles = record {
        goes = record {
          acts = go.acts;
          runs = go.runs;
          own = works_of_run go.acts go.own;
          few = go.few;
        };
        calm = calm_by (flat_map events_in go.acts) s.node u.node grown (let counted = go.counted in omega (arith, counted, fired));
      };
      stays = stays_longer s u (flat_map events_in go.acts) grown (untimed_acts go.acts go.runs.are_acts go.own);
    }
