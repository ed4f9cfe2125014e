-- Parts of a round, one after the other.
use Rattle.std.proofs.Common.{◌≡◌, ℕ, ◌+◌, ◌<◌, ◌≤◌, Bool, true, false, if◌then◌else◌, List, [], ◌∷◌, ◌++◌, length, Some, None, refl, ap, sym, ◌∙◌, subst, arith, length-append}
use Rattle.std.specs.List.{flat_map}
use Rattle.std.proofs.lemmas.List.{append-nil}
use Rattle.std.proofs.lemmas.List.Sums.{sum_by-append}
use Rattle.std.proofs.lemmas.Grind.{flat_map-append}
use Rattle.cv_protocol.specs.declared.event.Event.{Event}
use Rattle.cv_protocol.specs.declared.event.Event.TheVariants as event
use Rattle.cv_protocol.specs.declared.event.Sent.{Sent}
use Rattle.cv_protocol.specs.declared.event.Sent.TheVariants as sent
use Rattle.cv_protocol.specs.declared.frame.Frame.{Frame}
use Rattle.cv_protocol.specs.Journals.{got_frame}
use Rattle.cv_state.specs.Steps.{frames_of}
use Rattle.cv_node.specs.Counts.{firing_count_of, is_firing}
use Rattle.cv_node.specs.Journalled.{Journalled, MakesStep}
use Rattle.cv_node.specs.Polls.{HasPolled}
use Rattle.cv_actor.specs.declared.act.Polled.{Polled}
use Rattle.cv_actor.specs.declared.act.Polled.TheVariants as polled
use Rattle.cv_token.specs.declared.identifiers.ActorId.{ActorId}
use Rattle.cv_link.specs.declared.plan.Taken.{Taken}
use Rattle.cv_link.specs.declared.plan.Taken.TheVariants as told
use Rattle.cv_link.specs.Plan.{frame_of}
use Rattle.cv_station.specs.declared.station.Peer.{Peer}
use Rattle.cv_station.specs.declared.station.Station.{Station}
use Rattle.cv_station.specs.Acts.{Comes, Does, IsWork, NodeDoes, PeerWorks, events_in, events_of, is_work, taken_by, told_by}
use Rattle.cv_station.specs.Going.{EachPeer, Gets, Goes, Pushes, Received, Stepped, Takes, only_at}
use Rattle.cv_station.proofs.Runs.{does_length, does_then, each_append, each_self, each_then, peer_kept, peer_then, runs_none, runs_one, runs_then}

-- 1. One part after the other

pub goes_still : (most : ℕ) (failed : Bool) (s u : Station) → u.node ≡ s.node → u.fired ≡ s.fired → u.quota ≡ s.quota → Pushes [] s.peers.items u.peers.items → Goes most s failed u
goes_still most failed s u node fired quota peers = record {
  acts = [];
  runs = runs_none failed s u node peers;
  own = tt;
  counted = omega (arith, fired);
  quota = quota;
  within = λ h. omega (arith, h, fired, quota);
  grows = omega (arith, ap (λ (j : Journalled). length j.entries) node);
  few = λ h. omega (arith, h, ap (λ (j : Journalled). length j.entries) node);
}

-- nothing changed
pub goes_none : (most : ℕ) (failed : Bool) (s : Station) → Goes most s failed s
goes_none most failed s =
    goes_still most failed s s refl refl refl (each_self (λ j p q. PeerWorks [] [] [] p q) s.peers.items (λ j p. peer_kept [] p))

firings_append : (xs ys : List Event) → firing_count_of (xs ++ ys) ≡ firing_count_of xs + firing_count_of ys
firings_append xs ys = sum_by-append (λ (e : Event). if is_firing e then 1 else 0) xs ys

pub goes_then : (most : ℕ) (failed : Bool) (s t u : Station) → Goes most s false t → Goes most t failed u → Goes most s failed u
goes_then most failed s t u first second = record {
  acts = first.acts ++ second.acts;
  runs = runs_then failed s t u first.acts second.acts first.runs second.runs;
  own = each_append IsWork first.acts second.acts first.own second.own;
  counted =
      let all = ap firing_count_of (flat_map-append events_in first.acts second.acts) ∙ firings_append (flat_map events_in first.acts) (flat_map events_in second.acts) in
      omega (arith, all, first.counted, second.counted);
  quota = second.quota ∙ first.quota;
  within = λ h. second.within (first.within h);
  grows = omega (arith, first.grows, second.grows);
  few = λ h. second.few (first.few h);
}

-- 2. A step of the node's own

works_alone : (e : Event) → is_work e ≡ true → got_frame e ≡ None
works_alone (event.Fire a action) h = refl
works_alone (event.Peek a port) h = refl
works_alone (event.Pass conn) h = refl
works_alone (event.Send conn) h = refl
works_alone (event.Tick now) h = refl
works_alone (event.Meet node attrs) h = refl
works_alone (event.Deploy name net) h = refl
works_alone (event.Rewind conn) h = refl
works_alone (event.Freeze a to) h = refl
works_alone (event.Resend a) h = refl
works_alone (event.Withdraw a) h = refl
works_alone (event.Hint a attempt node) h = refl
works_alone (event.Destroy app) h = refl
works_alone (event.Lose f) h = absurd (cc)
works_alone (event.Deliver f) h = absurd (cc)

-- one step is all
pub does_step : (a b : Journalled) (e : Event) (sent : Sent) → MakesStep a e sent b → NodeDoes a (e ∷ []) (frames_of sent) b
does_step a b e sent steps = record {
  sent = sent;
  middle = b;
  rest = [];
  steps = steps;
  later = (refl, refl);
  all = sym (append-nil (frames_of sent));
}

abbrev pub counts : Event → ℕ
counts e = if is_firing e then 1 else 0

-- one step of the node's own, with what it sends pushed
pub goes_by : (most : ℕ) (s u : Station) (e : Event) (sent : Sent) → MakesStep s.node e sent u.node → is_work e ≡ true → Pushes (frames_of sent) s.peers.items u.peers.items → u.fired ≡ s.fired + counts e → u.quota ≡ s.quota → (s.fired ≤ s.quota → u.fired ≤ u.quota) → length s.node.entries < most → Goes most s false u
goes_by most s u e sent steps work peers fired quota within room =
    let does = does_step s.node u.node e sent steps in
    let longer = does_length (e ∷ []) (frames_of sent) s.node u.node does in
    record {
      acts = Does e ∷ [];
      runs = runs_one false s u (Does e) (frames_of sent) (works_alone e work) tt (λ h. tt) does peers;
      own = (work, tt);
      counted = omega (arith, fired);
      quota = quota;
      within = within;
      grows = omega (arith, longer);
      few = λ h. omega (arith, longer, room);
    }

not_counted : (e : Event) → is_firing e ≡ false → counts e ≡ 0
not_counted e is = ap (λ (b : Bool). if b then 1 else 0) is

pub goes_stepped : (most : ℕ) (s u : Station) (e : Event) → Stepped s e u → is_work e ≡ true → is_firing e ≡ false → length s.node.entries < most → Goes most s false u
goes_stepped most s u e did work none room =
    goes_by most s u e did.sent did.steps work did.peers (omega (arith, did.fired, not_counted e none)) did.quota (λ h. omega (arith, h, did.fired, did.quota)) room

-- a poll of an actor whose outcome is that step
pub goes_polled : (most : ℕ) (s t u : Station) (e : Event) → Goes most s false t → MakesStep t.node e sent.Nothing u.node → is_work e ≡ true → u.peers.items ≡ t.peers.items → u.fired ≡ t.fired + counts e → u.quota ≡ t.quota → (t.fired ≤ t.quota → u.fired ≤ u.quota) → length t.node.entries < most → Goes most s false u
goes_polled most s t u e before steps work peers fired quota within room =
    goes_then most false s t u before (goes_by most t u e sent.Nothing steps work (subst (λ (ps : List Peer). Pushes [] t.peers.items ps) (sym peers) (each_self (λ j p q. PeerWorks [] [] [] p q) t.peers.items (λ j p. peer_kept [] p))) fired quota within room)

pub goes_held : (most : ℕ) (s t u : Station) (a : ActorId) (told : Polled) (port : ℕ) → Goes most s false t → HasPolled t.node a told u.node → told ≡ polled.Held port → u.peers.items ≡ t.peers.items → u.fired ≡ t.fired → u.quota ≡ t.quota → length t.node.entries < most → Goes most s false u
goes_held most s t u a told port before done is peers fired quota room =
    goes_polled most s t u (event.Peek a port) before (subst (λ (p : Polled). HasPolled t.node a p u.node) is done) refl peers (omega (arith, fired)) quota (λ h. omega (arith, h, fired, quota)) room

pub goes_fired : (most : ℕ) (s t u : Station) (a : ActorId) (told : Polled) (action : ℕ) → Goes most s false t → HasPolled t.node a told u.node → told ≡ polled.Fired action → u.peers.items ≡ t.peers.items → u.fired ≡ t.fired + 1 → u.quota ≡ t.quota → t.fired < t.quota → length t.node.entries < most → Goes most s false u
goes_fired most s t u a told action before done is peers fired quota left room =
    goes_polled most s t u (event.Fire a action) before (subst (λ (p : Polled). HasPolled t.node a p u.node) is done) refl peers fired quota (λ h. omega (arith, left, fired, quota)) room

-- nothing changed after all
pub goes_back : (most : ℕ) (failed : Bool) (s u : Station) → u ≡ s → Goes most s failed u
goes_back most failed s u same = subst (λ (x : Station). Goes most s failed x) (sym same) (goes_none most failed s)

-- 3. A frame

-- the steps of a frame are few, and no firings
events_few : (t : Taken) → length (events_of t) ≤ 2
events_few (told.Deliver f) = omega arith
events_few (told.Twice f) = omega arith
events_few (told.Lost f) = omega arith

no_firings : (t : Taken) → firing_count_of (events_of t) ≡ 0
no_firings (told.Deliver f) = refl
no_firings (told.Twice f) = refl
no_firings (told.Lost f) = refl

whole_of : (t : Taken) (done rest : List Event) → events_of t ≡ done ++ rest → rest ≡ [] → done ≡ events_of t
whole_of t done rest all none = sym (all ∙ ap (λ (es : List Event). done ++ es) none ∙ append-nil done)

taken_pushed : (frames ring : List Frame) (what : List Taken) (p q r : Peer) → PeerWorks [] ring what p q → PeerWorks frames [] [] q r → PeerWorks frames ring what p r
taken_pushed frames ring what p q r first second =
    subst (λ (fs : List Frame). PeerWorks frames fs what p r) (append-nil ring)
    (subst (λ (ts : List Taken). PeerWorks frames (ring ++ []) ts p r) (append-nil what) (peer_then [] frames ring [] what [] p q r first second))

-- a frame was taken, and then its steps were done
pub goes_received : (most : ℕ) (failed : Bool) (s t u : Station) (place : ℕ) (what : Taken) → t.node ≡ s.node → t.fired ≡ s.fired → t.quota ≡ s.quota → Takes place (Some what) s.peers.items t.peers.items → Received t what failed u → length s.node.entries + 2 ≤ most → place < length s.peers.items → Goes most s failed u
goes_received most failed s t u place what node fired quota takes did room inside =
    let does : NodeDoes s.node did.done did.frames u.node = subst (λ (j : Journalled). NodeDoes j did.done did.frames u.node) node did.does in
    let longer = does_length did.done did.frames s.node u.node does in
    let few : length did.done ≤ 2 = omega (arith, events_few what, ap length did.all, length-append did.done did.rest) in
    let none : firing_count_of did.done ≡ 0 = omega (arith, no_firings what, ap firing_count_of did.all, firings_append did.done did.rest) in
    let peers : EachPeer (λ j p q. PeerWorks did.frames (taken_by j (Comes place what did.done)) (told_by j (Comes place what did.done)) p q) s.peers.items u.peers.items =
    each_then (λ j p q. PeerWorks [] (only_at place j (frame_of what)) (only_at place j what) p q) (λ j p q. PeerWorks did.frames [] [] p q) (λ j p q. PeerWorks did.frames (only_at place j (frame_of what)) (only_at place j what) p q) s.peers.items t.peers.items u.peers.items (λ j p q r. taken_pushed did.frames (only_at place j (frame_of what)) (only_at place j what) p q r) takes did.peers in
    record {
      acts = Comes place what did.done ∷ [];
      runs = runs_one failed s u (Comes place what did.done) did.frames (did.rest, did.all) inside (λ h. whole_of what did.done did.rest did.all (did.whole h)) does peers;
      own = (tt, tt);
      counted = omega (arith, did.fired, fired, none, ap firing_count_of (append-nil did.done));
      quota = did.quota ∙ quota;
      within = λ h. omega (arith, h, did.fired, fired, did.quota, quota);
      grows = omega (arith, longer);
      few = λ h. omega (arith, longer, few, room);
    }

-- none was taken
pub goes_untaken : (most : ℕ) (s t : Station) (place : ℕ) → t.node ≡ s.node → t.fired ≡ s.fired → t.quota ≡ s.quota → Takes place None s.peers.items t.peers.items → Goes most s false t
goes_untaken most s t place node fired quota takes = goes_still most false s t node fired quota takes

-- 4. The steps of a frame

-- no step
pub received_none : (s : Station) (t : Taken) → Received s t true s
received_none s t = record {
  done = [];
  rest = events_of t;
  all = refl;
  whole = λ h. absurd (cc);
  frames = [];
  does = (refl, refl);
  peers = each_self (λ j p q. PeerWorks [] [] [] p q) s.peers.items (λ j p. peer_kept [] p);
  fired = refl;
  quota = refl;
}

-- one step was done, or nothing changed
pub received_one : (s u : Station) (t : Taken) (e : Event) (failed : Bool) → events_of t ≡ e ∷ [] → Gets s e failed u → Received s t failed u
received_one s u t e false is did = record {
  done = e ∷ [];
  rest = [];
  all = is;
  whole = λ h. refl;
  frames = frames_of did.sent;
  does = does_step s.node u.node e did.sent did.steps;
  peers = did.peers;
  fired = did.fired;
  quota = did.quota;
}
received_one s u t e true is same = subst (λ (x : Station). Received s t true x) (sym same) (received_none s t)

-- nothing changed
pub received_back : (s u : Station) (t : Taken) (failed : Bool) → u ≡ s → failed ≡ true → Received s t failed u
received_back s u t failed same is =
    subst (λ (b : Bool). Received s t b u) (sym is) (subst (λ (x : Station). Received s t true x) (sym same) (received_none s t))

-- the first of two steps
received_first : (s u : Station) (f : Frame) → Stepped s (event.Deliver f) u → Received s (told.Twice f) true u
received_first s u f did = record {
  done = event.Deliver f ∷ [];
  rest = event.Deliver f ∷ [];
  all = refl;
  whole = λ h. absurd (cc);
  frames = frames_of did.sent;
  does = does_step s.node u.node (event.Deliver f) did.sent did.steps;
  peers = did.peers;
  fired = did.fired;
  quota = did.quota;
}

-- both steps, or the first one alone
pub received_twice : (s t u : Station) (f copy : Frame) (failed : Bool) → copy ≡ f → Stepped s (event.Deliver f) t → Gets t (event.Deliver copy) failed u → Received s (told.Twice f) failed u
received_twice s t u f copy true same first second =
    subst (λ (x : Station). Received s (told.Twice f) true x) (sym second) (received_first s t f first)
received_twice s t u f copy false same first second =
    let again : Stepped t (event.Deliver f) u = subst (λ (g : Frame). Stepped t (event.Deliver g) u) same second in
    record {
      done = event.Deliver f ∷ event.Deliver f ∷ [];
      rest = [];
      all = refl;
      whole = λ h. refl;
      frames = frames_of first.sent ++ frames_of again.sent;
      does = does_then (event.Deliver f ∷ []) (event.Deliver f ∷ []) (frames_of first.sent) (frames_of again.sent) s.node t.node u.node (does_step s.node t.node (event.Deliver f) first.sent first.steps) (does_step t.node u.node (event.Deliver f) again.sent again.steps);
      peers = each_then (λ j p q. PeerWorks (frames_of first.sent) [] [] p q) (λ j p q. PeerWorks (frames_of again.sent) [] [] p q) (λ j p q. PeerWorks (frames_of first.sent ++ frames_of again.sent) [] [] p q) s.peers.items t.peers.items u.peers.items (λ j p q r. peer_then (frames_of first.sent) (frames_of again.sent) [] [] [] [] p q r) first.peers again.peers;
      fired = again.fired ∙ first.fired;
      quota = again.quota ∙ first.quota;
    }
