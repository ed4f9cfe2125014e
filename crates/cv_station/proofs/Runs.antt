-- Acts of a station, one after the other.
use Rattle.std.proofs.Common.{◌≡◌, ◌≢◌, ℕ, zero, suc, ◌+◌, ◌⊎◌, inl, inr, Bool, false, List, [], ◌∷◌, ◌++◌, length, slice_get, Some, None, Contains, refl, ap, sym, ◌∙◌, subst, append_assoc, arith, length-append}
use Rattle.std.specs.Prelude.{slice_set}
use Rattle.std.specs.List.{flat_map}
use Rattle.std.proofs.lemmas.List.{append-nil}
use Rattle.std.proofs.lemmas.Grind.{flat_map-append}
use Rattle.std.proofs.lemmas.List.Elements.{Contains-append_left, Contains-append_right}
use Rattle.cv_protocol.specs.declared.event.Event.{Event}
use Rattle.cv_protocol.specs.declared.frame.Frame.{Frame}
use Rattle.cv_state.specs.Steps.{frames_of}
use Rattle.cv_node.specs.Journalled.{Journalled, entry_of_row}
use Rattle.cv_link.specs.declared.plan.Taken.{Taken}
use Rattle.cv_link.specs.Plan.{PlanView, counted}
use Rattle.cv_link.specs.Ring as ends
use Rattle.cv_link.proofs.Ends.{rx_self, rx_stays, tx_self, tx_stays}
use Rattle.cv_station.specs.declared.station.Peer.{Peer}
use Rattle.cv_station.specs.declared.station.Station.{Station}
use Rattle.cv_station.specs.Acts.{Act, EachAct, IsAct, IsInside, IsWhole, FirstDoes, NodeDoes, TellsAll, PeerWorks, Runs, events_in, taken_by, told_by}
use Rattle.cv_station.specs.Going.{EachPeer, Pushes}

-- 1. Lists of acts, of steps and of frames

pub each_append : (P : Act → Type 0) (xs ys : List Act) → EachAct P xs → EachAct P ys → EachAct P (xs ++ ys)
each_append P [] ys x y = y
each_append P (a ∷ xs) ys x y = (x.0, each_append P xs ys x.1 y)

first_then : (es more : List Event) (frames frames' : List Frame) (a b c : Journalled) (e : Event) → ((m : Journalled) (fs : List Frame) → NodeDoes m es fs b → NodeDoes m (es ++ more) (fs ++ frames') c) → FirstDoes (λ m fs. NodeDoes m es fs b) a e frames → FirstDoes (λ m fs. NodeDoes m (es ++ more) fs c) a e (frames ++ frames')
first_then es more frames frames' a b c e below d = record {
  sent = d.sent;
  middle = d.middle;
  rest = d.rest ++ frames';
  steps = d.steps;
  later = below d.middle d.rest d.later;
  all = ap (λ (fs : List Frame). fs ++ frames') d.all ∙ append_assoc (frames_of d.sent) d.rest frames';
}

pub does_then : (es more : List Event) (frames frames' : List Frame) (a b c : Journalled) → NodeDoes a es frames b → NodeDoes b more frames' c → NodeDoes a (es ++ more) (frames ++ frames') c
does_then [] more frames frames' a b c first second =
    subst (λ (fs : List Frame). NodeDoes a more (fs ++ frames') c) (sym first.1) (subst (λ (j : Journalled). NodeDoes j more frames' c) first.0 second)
does_then (e ∷ es) more frames frames' a b c first second =
    first_then es more frames frames' a b c e (λ m fs h. does_then es more fs frames' m b c h second) first

one_longer : (a b : Journalled) (e : Event) (frames : List Frame) (es : List Event) → ((m : Journalled) (fs : List Frame) → NodeDoes m es fs b → length b.entries ≡ length m.entries + length es) → FirstDoes (λ m fs. NodeDoes m es fs b) a e frames → length b.entries ≡ length a.entries + length (e ∷ es)
one_longer a b e frames es below d =
    let here = ap length d.steps.appends ∙ length-append a.entries (entry_of_row a.state e ∷ []) in
    omega (arith, here, below d.middle d.rest d.later)

-- a step is an entry
pub does_length : (es : List Event) (frames : List Frame) (a b : Journalled) → NodeDoes a es frames b → length b.entries ≡ length a.entries + length es
does_length [] frames a b does = omega (arith, ap (λ (j : Journalled). length j.entries) does.0)
does_length (e ∷ es) frames a b does = one_longer a b e frames es (λ m fs h. does_length es fs m b h) does

tells_then : (ts us : List Taken) (p q r : PlanView) → TellsAll p ts q → TellsAll q us r → TellsAll p (ts ++ us) r
tells_then [] us p q r first second = subst (λ (x : PlanView). TellsAll x us r) first second
tells_then (t ∷ ts) us p q r first second = (first.0, tells_then ts us (counted p) q r first.1 second)

-- 2. Peers

pub peer_self : (p : Peer) → PeerWorks [] [] [] p p
peer_self p = record {
  number = refl;
  tx = tx_self p.tx;
  rx = rx_self p.rx;
  pushed = λ f h. inl h;
  taken = sym (append-nil (ends.taken p.rx));
  plan = refl;
}

-- nothing was pushed, whatever was sent
pub peer_kept : (frames : List Frame) (p : Peer) → PeerWorks frames [] [] p p
peer_kept frames p = record {
  number = refl;
  tx = tx_self p.tx;
  rx = rx_self p.rx;
  pushed = λ f h. inl h;
  taken = sym (append-nil (ends.taken p.rx));
  plan = refl;
}

pushed_then : (p q r : Peer) (one two : List Frame) → q.no ≡ p.no → ((f : Frame) → Contains (ends.pushed q.tx) f → Contains (ends.pushed p.tx) f ⊎ (Contains one f × (f.to ≡ p.no))) → ((f : Frame) → Contains (ends.pushed r.tx) f → Contains (ends.pushed q.tx) f ⊎ (Contains two f × (f.to ≡ q.no))) → (f : Frame) → Contains (ends.pushed r.tx) f → Contains (ends.pushed p.tx) f ⊎ (Contains (one ++ two) f × (f.to ≡ p.no))
pushed_then p q r one two same first second f h =
    elim (second f h) [
      | inl before ↦ elim (first f before) [ inl there ↦ inl there | inr sent ↦ inr (Contains-append_left one two f sent.0, sent.1) ]
      | inr sent ↦ inr (Contains-append_right one two f sent.0, sent.1 ∙ same)
    ]

pub peer_then : (one two ring ring' : List Frame) (told told' : List Taken) (p q r : Peer) → PeerWorks one ring told p q → PeerWorks two ring' told' q r → PeerWorks (one ++ two) (ring ++ ring') (told ++ told') p r
peer_then one two ring ring' told told' p q r first second = record {
  number = second.number ∙ first.number;
  tx = tx_stays p.tx q.tx r.tx first.tx second.tx;
  rx = rx_stays p.rx q.rx r.rx first.rx second.rx;
  pushed = pushed_then p q r one two first.number first.pushed second.pushed;
  taken = second.taken ∙ ap (λ (fs : List Frame). fs ++ ring') first.taken ∙ append_assoc (ends.taken p.rx) ring ring';
  plan = tells_then told told' (ends.plan p.rx) (ends.plan q.rx) (ends.plan r.rx) first.plan second.plan;
}

-- of more frames that were sent
pub peer_more : (frames more ring : List Frame) (told : List Taken) (p q : Peer) → ((f : Frame) → Contains frames f → Contains more f) → PeerWorks frames ring told p q → PeerWorks more ring told p q
peer_more frames more ring told p q all w = record {
  number = w.number;
  tx = w.tx;
  rx = w.rx;
  pushed = λ f h. elim (w.pushed f h) [ inl there ↦ inl there | inr sent ↦ inr (all f sent.0, sent.1) ];
  taken = w.taken;
  plan = w.plan;
}

pub each_self : (B : ℕ → Peer → Peer → Type 0) (xs : List Peer) → ((j : ℕ) (p : Peer) → B j p p) → EachPeer B xs xs
each_self B xs self = record { as_many = refl; at = λ j p here. (p, here, self j p) }

pub each_then : (B C D : ℕ → Peer → Peer → Type 0) (xs ys zs : List Peer) → ((j : ℕ) (p q r : Peer) → B j p q → C j q r → D j p r) → EachPeer B xs ys → EachPeer C ys zs → EachPeer D xs zs
each_then B C D xs ys zs join first second = record {
  as_many = second.as_many ∙ first.as_many;
  at = λ j p here.
      let q = first.at j p here in
      let r = second.at j q.0 q.1 in
      (r.0, r.1, join j p q.0 r.0 q.2 r.2);
}

pub each_like : (B C : ℕ → Peer → Peer → Type 0) (xs ys : List Peer) → ((j : ℕ) (p q : Peer) → B j p q → C j p q) → EachPeer B xs ys → EachPeer C xs ys
each_like B C xs ys like first = record {
  as_many = first.as_many;
  at = λ j p here. let q = first.at j p here in (q.0, q.1, like j p q.0 q.2);
}

some_same : {X : Type 0} (x y : X) → Some x ≡ Some y → x ≡ y
some_same x y e = cc

none_some : {X : Type 0} (x : X) → None ≡ Some x → ⊥
none_some x e = cc

changed_at : {X : Type 0} (B : ℕ → X → X → Type 0) (xs : List X) (i : ℕ) (x y : X) → slice_get xs i ≡ Some x → B i x y → ((j : ℕ) (p : X) → j ≢ i → B j p p) → (j : ℕ) (p : X) → slice_get xs j ≡ Some p → (q : X) × (slice_get (slice_set xs i y) j ≡ Some q) × B j p q
changed_at B [] i x y here b self j p at = absurd (none_some x here)
changed_at B (z ∷ zs) zero x y here b self zero p at =
    (y, refl, subst (λ w. B zero w y) (sym (some_same z x here) ∙ some_same z p at) b)
changed_at B (z ∷ zs) zero x y here b self (suc j) p at = (p, at, self (suc j) p (λ e. absurd (omega (arith, e))))
changed_at B (z ∷ zs) (suc i) x y here b self zero p at = (p, at, self zero p (λ e. absurd (omega (arith, e))))
changed_at B (z ∷ zs) (suc i) x y here b self (suc j) p at =
    changed_at (λ k. B (suc k)) zs i x y here b (λ k w other. self (suc k) w (λ e. other (omega (arith, e)))) j p at

length_set : {X : Type 0} (xs : List X) (i : ℕ) (y : X) → length (slice_set xs i y) ≡ length xs
length_set [] i y = refl
length_set (x ∷ xs) zero y = refl
length_set (x ∷ xs) (suc i) y = omega (arith, length_set xs i y)

-- the peer at place i became another, and the others are as they were
pub each_changed : (B : ℕ → Peer → Peer → Type 0) (xs : List Peer) (i : ℕ) (x y : Peer) → slice_get xs i ≡ Some x → B i x y → ((j : ℕ) (p : Peer) → j ≢ i → B j p p) → EachPeer B xs (slice_set xs i y)
each_changed B xs i x y here b self = record { as_many = length_set xs i y; at = changed_at B xs i x y here b self }

-- 3. A station

flat_one : {X : Type 0} (f : Act → List X) (a : Act) → flat_map f (a ∷ []) ≡ f a
flat_one f a = append-nil (f a)

-- no act
pub runs_none : (failed : Bool) (s u : Station) → u.node ≡ s.node → Pushes [] s.peers.items u.peers.items → Runs failed s [] u
runs_none failed s u node peers = record {
  are_acts = tt;
  inside = tt;
  whole = λ h. tt;
  frames = [];
  does = (node, refl);
  as_many = peers.as_many;
  peers = peers.at;
}

-- one act
pub runs_one : (failed : Bool) (s u : Station) (a : Act) (frames : List Frame) → IsAct a → IsInside (length s.peers.items) a → (failed ≡ false → IsWhole a) → NodeDoes s.node (events_in a) frames u.node → EachPeer (λ j p q. PeerWorks frames (taken_by j a) (told_by j a) p q) s.peers.items u.peers.items → Runs failed s (a ∷ []) u
runs_one failed s u a frames is inside whole does peers = record {
  are_acts = (is, tt);
  inside = (inside, tt);
  whole = λ h. (whole h, tt);
  frames = frames;
  does = subst (λ (es : List Event). NodeDoes s.node es frames u.node) (sym (flat_one events_in a)) does;
  as_many = peers.as_many;
  peers = λ j p here.
      let q = peers.at j p here in
      (q.0, q.1, subst (λ (fs : List Frame). PeerWorks frames fs (flat_map (told_by j) (a ∷ [])) p q.0) (sym (flat_one (taken_by j) a)) (subst (λ (ts : List Taken). PeerWorks frames (taken_by j a) ts p q.0) (sym (flat_one (told_by j) a)) q.2));
}

joined : (j : ℕ) (xs ys : List Act) (one two : List Frame) (p q r : Peer) → PeerWorks one (flat_map (taken_by j) xs) (flat_map (told_by j) xs) p q → PeerWorks two (flat_map (taken_by j) ys) (flat_map (told_by j) ys) q r → PeerWorks (one ++ two) (flat_map (taken_by j) (xs ++ ys)) (flat_map (told_by j) (xs ++ ys)) p r
joined j xs ys one two p q r first second =
    subst (λ (fs : List Frame). PeerWorks (one ++ two) fs (flat_map (told_by j) (xs ++ ys)) p r) (sym (flat_map-append (taken_by j) xs ys))
    (subst (λ (ts : List Taken). PeerWorks (one ++ two) (flat_map (taken_by j) xs ++ flat_map (taken_by j) ys) ts p r) (sym (flat_map-append (told_by j) xs ys))
    (peer_then one two (flat_map (taken_by j) xs) (flat_map (taken_by j) ys) (flat_map (told_by j) xs) (flat_map (told_by j) ys) p q r first second))

-- acts, and then others
pub runs_then : (failed : Bool) (s t u : Station) (xs ys : List Act) → Runs false s xs t → Runs failed t ys u → Runs failed s (xs ++ ys) u
runs_then failed s t u xs ys first second = record {
  are_acts = each_append IsAct xs ys first.are_acts second.are_acts;
  inside = each_append (IsInside (length s.peers.items)) xs ys first.inside (subst (λ (n : ℕ). EachAct (IsInside n) ys) first.as_many second.inside);
  whole = λ h. each_append IsWhole xs ys (first.whole refl) (second.whole h);
  frames = first.frames ++ second.frames;
  does = subst (λ (es : List Event). NodeDoes s.node es (first.frames ++ second.frames) u.node) (sym (flat_map-append events_in xs ys)) (does_then (flat_map events_in xs) (flat_map events_in ys) first.frames second.frames s.node t.node u.node first.does second.does);
  as_many = second.as_many ∙ first.as_many;
  peers = λ j p here.
      let q = first.peers j p here in
      let r = second.peers j q.0 q.1 in
      (r.0, r.1, joined j xs ys first.frames second.frames p q.0 r.0 q.2 r.2);
}
