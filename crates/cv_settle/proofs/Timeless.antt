-- No time goes on by what a node does in a round or in a settle.
use Rattle.std.proofs.Common.{◌≡◌, ℕ, true, List, [], ◌∷◌, ◌++◌, map, refl, sym, ◌∙◌, ap, subst}
use Rattle.std.specs.List.{flat_map}
use Rattle.cv_protocol.specs.declared.event.Entry.{Entry}
use Rattle.cv_protocol.specs.declared.event.Event.{Event}
use Rattle.cv_protocol.specs.declared.event.Event.TheVariants as event
use Rattle.cv_node.specs.Journalled.{Journalled}
use Rattle.cv_link.specs.declared.plan.Taken.{Taken}
use Rattle.cv_link.specs.declared.plan.Taken.TheVariants as told
use Rattle.cv_station.specs.declared.station.Station.{Station}
use Rattle.cv_station.specs.Acts.{Act, Comes, Does, EachAct, IsAct, IsWork, events_in, events_of, is_work}
use Rattle.cv_bounds.specs.Moments.{moment_after, moment_of}
use Rattle.cv_mesh.proofs.Growing.{Longer}
use Rattle.cv_settle.specs.Settling.{StaysAtMoment, is_carrying}

-- 1. Events

-- the event leads to no other moment
abbrev pub IsUntimed : Event → Type 0
IsUntimed e = (now : ℕ) → moment_after now e ≡ now

abbrev pub AllUntimed : List Event → Type 0
AllUntimed [] = Unit {0}
AllUntimed (e ∷ es) = IsUntimed e × AllUntimed es

pub untimed_carrying : (e : Event) → is_carrying e ≡ true → IsUntimed e
untimed_carrying (event.Pass conn) is now = refl
untimed_carrying (event.Send conn) is now = refl
untimed_carrying (event.Rewind conn) is now = refl
untimed_carrying (event.Tick moment) is now = absurd (cc)
untimed_carrying (event.Fire a action) is now = refl
untimed_carrying (event.Peek a port) is now = refl
untimed_carrying (event.Meet node attrs) is now = refl
untimed_carrying (event.Deploy name net) is now = refl
untimed_carrying (event.Freeze a to) is now = refl
untimed_carrying (event.Resend a) is now = refl
untimed_carrying (event.Withdraw a) is now = refl
untimed_carrying (event.Hint a attempt node) is now = refl
untimed_carrying (event.Destroy app) is now = refl
untimed_carrying (event.Lose f) is now = refl
untimed_carrying (event.Deliver f) is now = refl

untimed_work : (e : Event) → is_work e ≡ true → IsUntimed e
untimed_work (event.Tick moment) is now = absurd (cc)
untimed_work (event.Pass conn) is now = refl
untimed_work (event.Send conn) is now = refl
untimed_work (event.Rewind conn) is now = refl
untimed_work (event.Fire a action) is now = refl
untimed_work (event.Peek a port) is now = refl
untimed_work (event.Meet node attrs) is now = refl
untimed_work (event.Deploy name net) is now = refl
untimed_work (event.Freeze a to) is now = refl
untimed_work (event.Resend a) is now = refl
untimed_work (event.Withdraw a) is now = refl
untimed_work (event.Hint a attempt node) is now = refl
untimed_work (event.Destroy app) is now = refl
untimed_work (event.Lose f) is now = refl
untimed_work (event.Deliver f) is now = refl

untimed_front : (es rest : List Event) → AllUntimed (es ++ rest) → AllUntimed es
untimed_front [] rest all = tt
untimed_front (e ∷ es) rest all = (all.0, untimed_front es rest all.1)

untimed_append : (es fs : List Event) → AllUntimed es → AllUntimed fs → AllUntimed (es ++ fs)
untimed_append [] fs first second = second
untimed_append (e ∷ es) fs first second = (first.0, untimed_append es fs first.1 second)

untimed_told : (t : Taken) → AllUntimed (events_of t)
untimed_told (told.Deliver f) = ((λ now. refl), tt)
untimed_told (told.Twice f) = ((λ now. refl), ((λ now. refl), tt))
untimed_told (told.Lost f) = ((λ now. refl), tt)

untimed_act : (a : Act) → IsAct a → IsWork a → AllUntimed (events_in a)
untimed_act (Does e) is work = (untimed_work e work, tt)
untimed_act (Comes peer t done) is work =
    untimed_front done is.0 (subst AllUntimed is.1 (untimed_told t))

-- those of a worker's acts
pub untimed_acts : (acts : List Act) → EachAct IsAct acts → EachAct IsWork acts → AllUntimed (flat_map events_in acts)
untimed_acts [] are work = tt
untimed_acts (a ∷ acts) are work =
    untimed_append (events_in a) (flat_map events_in acts) (untimed_act a are.0 work.0) (untimed_acts acts are.1 work.1)

-- 2. Journals

pub moment_append : (now : ℕ) (es fs : List Entry) → moment_of now (es ++ fs) ≡ moment_of (moment_of now es) fs
moment_append now [] fs = refl
moment_append now (e ∷ es) fs = moment_append (moment_after now e.event) es fs

moment_stays : (es : List Entry) → AllUntimed (map (λ (e : Entry). e.event) es) → (now : ℕ) → moment_of now es ≡ now
moment_stays [] all now = refl
moment_stays (e ∷ es) all now = moment_stays es all.1 (moment_after now e.event) ∙ all.0 now

pub stays_as : (s u : Station) → u.node ≡ s.node → StaysAtMoment s u
stays_as s u same = record { same = λ now. ap (λ (n : Journalled). moment_of now n.entries) same }

pub stays_then : (s t u : Station) → StaysAtMoment s t → StaysAtMoment t u → StaysAtMoment s u
stays_then s t u first second = record { same = λ now. second.same now ∙ first.same now }

pub stays_same : (s t u : Station) → StaysAtMoment s t → u.node ≡ t.node → StaysAtMoment s u
stays_same s t u stays same = stays_then s t u stays (stays_as t u same)

pub stays_longer : (s u : Station) (es : List Event) → Longer s.node es u.node → AllUntimed es → StaysAtMoment s u
stays_longer s u es l all = record {
  same = λ now.
      ap (moment_of now) l.appends
      ∙ moment_append now s.node.entries l.more
      ∙ moment_stays l.more (subst AllUntimed (sym l.events) all) (moment_of now s.node.entries);
}
