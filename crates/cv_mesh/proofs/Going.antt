-- What becomes of a station, one thing after the other.
use Rattle.std.proofs.Common.{◌≡◌, inl, ℕ, Bool, true, false, ◌||◌, List, [], ◌∷◌, ◌++◌, length, slice_get, Contains, refl, sym, ◌∙◌, ap, subst, arith, append-nil}
use Rattle.std.specs.List.{flat_map}
use Rattle.std.proofs.lemmas.Grind.{flat_map-append}
use Rattle.cv_protocol.specs.declared.event.Event.{Event}
use Rattle.cv_protocol.specs.declared.event.Event.TheVariants as event
use Rattle.cv_protocol.specs.declared.frame.Frame.{Frame}
use Rattle.cv_link.specs.declared.plan.Taken.{Taken}
use Rattle.cv_link.specs.Ring as ends
use Rattle.cv_link.proofs.Ends.{tx_self, rx_self}
use Rattle.cv_station.specs.declared.station.Peer.{Peer}
use Rattle.cv_station.specs.declared.station.Station.{Station}
use Rattle.cv_station.specs.Acts.{Act, Does, Comes, EachAct, IsAct, IsInside, IsWhole, IsWork, events_in, is_work, told_by, taken_by, NodeDoes, PeerWorks, Runs}
use Rattle.cv_station.proofs.Runs.{each_append, does_then, peer_then}
use Rattle.cv_mesh.specs.Going.{is_of_run}
use Rattle.cv_mesh.specs.Moving.{IsOfRun, Goes, Worked, Stays, PeerLooks, Looks}
use Rattle.cv_mesh.proofs.Listing.{each_self}

-- 1. One after the other

pub or_false : (f g : Bool) → (f || g) ≡ false → (f ≡ false) × (g ≡ false)
or_false true g is = absurd (cc)
or_false false g is = (refl, is)

inside_as : (m n : ℕ) (acts : List Act) → m ≡ n → EachAct (IsInside m) acts → EachAct (IsInside n) acts
inside_as m n acts same inside = subst (λ (k : ℕ). EachAct (IsInside k) acts) same inside

runs_on : (f g : Bool) (s t u : Station) (xs ys : List Act) → Runs f s xs t → Runs g t ys u → Runs (f || g) s (xs ++ ys) u
runs_on f g s t u xs ys first second = record {
  are_acts = each_append IsAct xs ys first.are_acts second.are_acts;
  inside = each_append (IsInside (length s.peers.items)) xs ys first.inside (inside_as _ _ ys first.as_many second.inside);
  whole = λ fine. let both = or_false f g fine in each_append IsWhole xs ys (first.whole both.0) (second.whole both.1);
  frames = first.frames ++ second.frames;
  does = subst (λ (es : List Event). NodeDoes s.node es (first.frames ++ second.frames) u.node) (sym (flat_map-append events_in xs ys)) (does_then (flat_map events_in xs) (flat_map events_in ys) first.frames second.frames s.node t.node u.node first.does second.does);
  as_many = second.as_many ∙ first.as_many;
  peers = λ j p at.
      let q = first.peers j p at in
      let r = second.peers j q.0 q.1 in
      (r.0, r.1, subst (λ (fs : List Frame). PeerWorks (first.frames ++ second.frames) fs (flat_map (told_by j) (xs ++ ys)) p r.0) (sym (flat_map-append (taken_by j) xs ys)) (subst (λ (ts : List Taken). PeerWorks (first.frames ++ second.frames) (flat_map (taken_by j) xs ++ flat_map (taken_by j) ys) ts p r.0) (sym (flat_map-append (told_by j) xs ys)) (peer_then first.frames second.frames _ _ _ _ p q.0 r.0 q.2 r.2)));
}

pub goes_then : (f g : Bool) (s t u : Station) → Goes f s t → Goes g t u → Goes (f || g) s u
goes_then f g s t u first second = record {
  acts = first.acts ++ second.acts;
  runs = runs_on f g s t u first.acts second.acts first.runs second.runs;
  own = each_append IsOfRun first.acts second.acts first.own second.own;
  few = λ h. second.few (first.few h);
}

-- 2. Nothing happens to the node

looks_at : (p q : Peer) → PeerLooks p q → PeerWorks [] [] [] p q
looks_at p q k = record {
  number = k.number;
  tx = k.tx;
  rx = k.rx;
  pushed = λ f there. inl (subst (λ (fs : List Frame). Contains fs f) k.pushed there);
  taken = k.taken ∙ sym (append-nil (ends.taken p.rx));
  plan = k.plan;
}

pub looks_goes : (f : Bool) (s u : Station) → Looks s u → Goes f s u
looks_goes f s u k =
    let as_long : length u.node.entries ≡ length s.node.entries = ap (λ (n : _). length n.entries) k.node in record {
      acts = [];
      runs = record {
        are_acts = tt;
        inside = tt;
        whole = λ fine. tt;
        frames = [];
        does = (k.node, refl);
        as_many = k.peers.long;
        peers = λ j p at. let q = k.peers.all j p at in (q.0, q.1, looks_at p q.0 q.2);
      };
      own = tt;
      few = λ h. omega (arith, as_long, h);
    }

pub looks_self : (p : Peer) → PeerLooks p p
looks_self p = record { number = refl; tx = tx_self p.tx; rx = rx_self p.rx; pushed = refl; taken = refl; plan = refl }

pub looks_self_station : (s : Station) → Looks s s
looks_self_station s = record { node = refl; peers = each_self PeerLooks looks_self s.peers.items }

pub stays_looks : (s u : Station) → Stays s u → Looks s u
stays_looks s u k = record {
  node = k.node;
  peers = record {
    long = ap (λ (v : _). length v.items) k.peers;
    all = λ j p at. (p, ap (λ (v : _). slice_get v.items j) k.peers ∙ at, looks_self p);
  };
}

-- 3. A worker's round

work_of_run : (e : Event) → is_work e ≡ true → is_of_run e ≡ true
work_of_run (event.Fire a action) is = refl
work_of_run (event.Peek a port) is = refl
work_of_run (event.Pass conn) is = refl
work_of_run (event.Send conn) is = refl
work_of_run (event.Tick now) is = refl
work_of_run (event.Meet node attrs) is = absurd (cc)
work_of_run (event.Rewind conn) is = refl
work_of_run (event.Lose f) is = refl
work_of_run (event.Deliver f) is = refl
work_of_run (event.Deploy name net) is = absurd (cc)
work_of_run (event.Freeze a to) is = absurd (cc)
work_of_run (event.Resend a) is = absurd (cc)
work_of_run (event.Withdraw a) is = absurd (cc)
work_of_run (event.Hint a attempt node) is = absurd (cc)
work_of_run (event.Destroy app) is = absurd (cc)

pub works_of_run : (acts : List Act) → EachAct IsWork acts → EachAct IsOfRun acts
works_of_run [] own = tt
works_of_run (Does e ∷ acts) own = (work_of_run e own.0, works_of_run acts own.1)
works_of_run (Comes peer t done ∷ acts) own = (tt, works_of_run acts own.1)

runs_as : (f g : Bool) (s u : Station) (acts : List Act) → (g ≡ false → f ≡ false) → Runs f s acts u → Runs g s acts u
runs_as f g s u acts worse k = record {
  are_acts = k.are_acts;
  inside = k.inside;
  whole = λ fine. k.whole (worse fine);
  frames = k.frames;
  does = k.does;
  as_many = k.as_many;
  peers = k.peers;
}

pub worked_goes : (failed : Bool) (s u : Station) → (failed ≡ false → u.failed ≡ false) → Worked s u → Goes failed s u
worked_goes failed s u worse k = record {
  acts = k.acts;
  runs = runs_as u.failed failed s u k.acts worse k.round.works;
  own = works_of_run k.acts k.round.own;
  few = k.few;
}

-- 4. Memory was wanting, or was not

pub goes_as : (f g : Bool) (s u : Station) → (g ≡ false → f ≡ false) → Goes f s u → Goes g s u
goes_as f g s u worse k = record {
  acts = k.acts;
  runs = runs_as f g s u k.acts worse k.runs;
  own = k.own;
  few = k.few;
}

-- then its ends are looked at
pub goes_looks : (f : Bool) (s t u : Station) → Goes f s t → Looks t u → Goes f s u
goes_looks f s t u go looks =
    goes_as (f || false) f s u (λ fine. ap (λ b. b || false) fine) (goes_then f false s t u go (looks_goes false t u looks))
