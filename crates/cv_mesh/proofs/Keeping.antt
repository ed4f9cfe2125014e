-- Stations that take steps go on to keep what they kept.
use Rattle.std.proofs.Common.{◌≡◌, ◌⊎◌, inl, inr, ℕ, zero, suc, ◌<◌, ◌≤◌, Bool, true, false, if◌then◌else◌, List, [], ◌∷◌, ◌++◌, map, length, slice_get, slice_index_or, Some, None, option_map, Contains, refl, sym, ◌∙◌, ap, subst, arith}
use Rattle.std.specs.List.{flat_map}
use Rattle.std.proofs.lemmas.Bool.{eq-eqb}
use Rattle.std.proofs.lemmas.List.{length-map}
use Rattle.std.proofs.lemmas.Option.{same_Some, slice_get_within, slice_get-map}
use Rattle.std.proofs.lemmas.List.Elements.{Contains-append_cases, Contains-append_left, Contains-append_right}
use Rattle.cv_protocol.specs.declared.event.Entry.{Entry}
use Rattle.cv_protocol.specs.declared.event.Event.{Event}
use Rattle.cv_protocol.specs.declared.event.Event.TheVariants as event
use Rattle.cv_protocol.specs.declared.frame.Frame.{Frame}
use Rattle.cv_protocol.specs.NodeState.{NodeState}
use Rattle.cv_protocol.specs.Journals.{got_frame}
use Rattle.cv_node.specs.Counts.{journal_length}
use Rattle.cv_merge.specs.Lanes.{Ascends}
use Rattle.cv_link.specs.declared.items.Item.{Item}
use Rattle.cv_link.specs.declared.plan.Taken.{Taken}
use Rattle.cv_link.specs.declared.plan.Taken.TheVariants as told
use Rattle.cv_link.specs.Plan.{frame_of}
use Rattle.cv_link.specs.Ring as ends
use Rattle.cv_link.proofs.Ends.{ends_stay}
use Rattle.cv_station.specs.declared.station.Peer.{Peer}
use Rattle.cv_station.specs.declared.station.Station.{Station}
use Rattle.cv_station.specs.Acts.{Act, Does, Comes, EachAct, IsAct, IsInside, events_of, events_in, told_by, taken_by, PeerWorks}
use Rattle.cv_mesh.specs.Going.{is_of_run}
use Rattle.cv_mesh.specs.Keeping.{StandsSent, number_of, IsSentBySome, Planned, Kept}
use Rattle.cv_mesh.specs.Moving.{CameSent, IsOfRun, Goes, Each, AllLooked}
use Rattle.cv_mesh.proofs.Growing.{Grown, does_grown, sent_stays}
use Rattle.cv_mesh.proofs.Listing.{at_place, same_map, contains_map}
use Rattle.cv_mesh.proofs.Planning.{ComesFrom, planned_on}

-- 1. The events of acts

one_event : (x e : Event) → Contains (x ∷ []) e → x ≡ e
one_event x e (n, h, is) = by_place n h is
  where
    by_place : (n : ℕ) → n < 1 → slice_index_or (x ∷ []) n e ≡ e → x ≡ e
    by_place zero h is = is
    by_place (suc n) h is = absurd (omega (arith, h))

two_events : (x e : Event) → Contains (x ∷ x ∷ []) e → x ≡ e
two_events x e c = elim (Contains-append_cases (x ∷ []) (x ∷ []) e c) [ inl first ↦ one_event x e first | inr second ↦ one_event x e second ]

told_event : (t : Taken) (e : Event) → Contains (events_of t) e → (got_frame e ≡ Some (frame_of t)) × (is_of_run e ≡ true)
told_event (told.Deliver f) e c =
    let same = one_event (event.Deliver f) e c in (ap got_frame (sym same), ap is_of_run (sym same))
told_event (told.Twice f) e c =
    let same = two_events (event.Deliver f) e c in (ap got_frame (sym same), ap is_of_run (sym same))
told_event (told.Lost f) e c =
    let same = one_event (event.Lose f) e c in (ap got_frame (sym same), ap is_of_run (sym same))

done_event : (t : Taken) (done rest : List Event) (e : Event) → events_of t ≡ done ++ rest → Contains done e → (got_frame e ≡ Some (frame_of t)) × (is_of_run e ≡ true)
done_event t done rest e whole c =
    told_event t e (subst (λ (es : List Event). Contains es e) (sym whole) (Contains-append_left done rest e c))

act_of_run : (a : Act) (e : Event) → IsAct a → IsOfRun a → Contains (events_in a) e → is_of_run e ≡ true
act_of_run (Does x) e is own c = ap is_of_run (sym (one_event x e c)) ∙ own
act_of_run (Comes peer t done) e is own c = (done_event t done is.0 e is.1 c).1

acts_of_run : (acts : List Act) (e : Event) → EachAct IsAct acts → EachAct IsOfRun acts → Contains (flat_map events_in acts) e → is_of_run e ≡ true
acts_of_run [] e are own c = absurd (omega (arith, c.1))
acts_of_run (a ∷ acts) e are own c =
    elim (Contains-append_cases (events_in a) (flat_map events_in acts) e c) [
      | inl here ↦ act_of_run a e are.0 own.0 here
      | inr later ↦ acts_of_run acts e are.1 own.1 later
    ]

act_got : (us : List Station) (a : Act) (e : Event) (f : Frame) → IsAct a → CameSent us a → Contains (events_in a) e → got_frame e ≡ Some f → IsSentBySome us f
act_got us (Does x) e f is came c got =
    absurd (let none : got_frame e ≡ None = ap got_frame (sym (one_event x e c)) ∙ is in cc)
act_got us (Comes peer t done) e f is came c got =
    let same : frame_of t ≡ f = same_Some _ _ (sym (done_event t done is.0 e is.1 c).0 ∙ got) in
    record { place = peer; station = came.0; there = came.1; sent = subst (StandsSent came.0.node) same came.2 }

acts_got : (us : List Station) (acts : List Act) (e : Event) (f : Frame) → EachAct IsAct acts → EachAct (CameSent us) acts → Contains (flat_map events_in acts) e → got_frame e ≡ Some f → IsSentBySome us f
acts_got us [] e f are came c got = absurd (omega (arith, c.1))
acts_got us (a ∷ acts) e f are came c got =
    elim (Contains-append_cases (events_in a) (flat_map events_in acts) e c) [
      | inl here ↦ act_got us a e f are.0 came.0 here got
      | inr later ↦ acts_got us acts e f are.1 came.1 later got
    ]

-- 2. What was taken came

-- a frame that came from a place is sent there, where these frames are
abbrev SentFrom : List Station → ℕ → (ℕ → List Frame) → Type 0
SentFrom us many frames =
    (j : ℕ) (f : Frame) → j < many → Contains (frames j) f → (v : Station) × (slice_get us j ≡ Some v) × StandsSent v.node f

came_act : (us : List Station) (many : ℕ) (a : Act) → IsInside many a → SentFrom us many (λ j. taken_by j a) → CameSent us a
came_act us many (Does e) inside sent = tt
came_act us many (Comes peer t done) inside sent =
    sent peer (frame_of t) inside (subst (λ b. Contains (if b then frame_of t ∷ [] else []) (frame_of t)) (sym (eq-eqb peer peer refl)) (zero, omega arith, refl))

came_acts : (us : List Station) (many : ℕ) (acts : List Act) → EachAct (IsInside many) acts → SentFrom us many (λ j. flat_map (taken_by j) acts) → EachAct (CameSent us) acts
came_acts us many [] inside sent = tt
came_acts us many (a ∷ acts) inside sent = (
  came_act us many a inside.0 (λ j f h c. sent j f h (Contains-append_left (taken_by j a) (flat_map (taken_by j) acts) f c)),
  came_acts us many acts inside.1 (λ j f h c. sent j f h (Contains-append_right (taken_by j a) (flat_map (taken_by j) acts) f c)),
)

-- 3. All stations, after their steps

module _ (items : List Item) (was failed : Bool) (ss us : List Station) (k : Kept items was ss) (worse : failed ≡ false → was ≡ false) (go : Each (Goes failed) ss us) where
  grown : (i : ℕ) (s : Station) (at : slice_get ss i ≡ Some s) → Grown s.node (flat_map events_in (go.all i s at).2.acts) (go.all i s at).2.runs.frames (go.all i s at).0.node
  grown i s at =
      let m = (go.all i s at).2 in does_grown (flat_map events_in m.acts) s.node m.runs.frames (go.all i s at).0.node (k.replays i s at) m.runs.does

  -- where a station comes from
  record Came (i : ℕ) (u : Station) : Type 0 where
    station : Station
    at : slice_get ss i ≡ Some station
    moved : Goes failed station u
    grown : Grown station.node (flat_map events_in moved.acts) moved.runs.frames u.node

  came : (i : ℕ) (u : Station) → slice_get us i ≡ Some u → Came i u
  came i u at =
      let old = at_place ss i (let h = slice_get_within us i u at in omega (arith, h, go.long)) in
      let now = go.all i old.0 old.1 in
      let same : now.0 ≡ u = same_Some _ _ (sym now.1 ∙ at) in
      subst (Came i) same (record { station = old.0; at = old.1; moved = now.2; grown = grown i old.0 old.1 })

  numbers : map number_of us ≡ map number_of ss
  numbers =
      same_map number_of ss us go.long (λ i s at.
      ((go.all i s at).0, (go.all i s at).1, ap (λ (n : NodeState). n.spec.no) (grown i s at).based))

  peer_numbers : (i : ℕ) (u : Station) (c : Came i u) → map (λ (p : Peer). p.no) u.peers.items ≡ map (λ (p : Peer). p.no) c.station.peers.items
  peer_numbers i u c =
      same_map (λ (p : Peer). p.no) c.station.peers.items u.peers.items c.moved.runs.as_many (λ j p at.
      let q = c.moved.runs.peers j p at in (q.0, q.1, q.2.number))

  -- where an end comes from
  record PeerCame (i j : ℕ) (u : Station) (c : Came i u) (q : Peer) : Type 0 where
    peer : Peer
    at : slice_get c.station.peers.items j ≡ Some peer
    works : PeerWorks c.moved.runs.frames (flat_map (taken_by j) c.moved.acts) (flat_map (told_by j) c.moved.acts) peer q

  peer_came : (i j : ℕ) (u : Station) (c : Came i u) (q : Peer) → slice_get u.peers.items j ≡ Some q → PeerCame i j u c q
  peer_came i j u c q at =
      let h = slice_get_within u.peers.items j q at in
      let long = c.moved.runs.as_many in
      let old = at_place c.station.peers.items j (omega (arith, h, long)) in
      let now = c.moved.runs.peers j old.0 old.1 in
      let same : now.0 ≡ q = same_Some _ _ (sym now.1 ∙ at) in
      subst (PeerCame i j u c) same (record { peer = old.0; at = old.1; works = now.2 })

  sent_some : (f : Frame) → IsSentBySome ss f → IsSentBySome us f
  sent_some f s =
      let g = grown s.place s.station s.there in
      record {
        place = s.place;
        station = (go.all s.place s.station s.there).0;
        there = (go.all s.place s.station s.there).1;
        sent = sent_stays s.station.node (go.all s.place s.station s.there).0.node g.more f g.based g.appends s.sent;
      }

  -- an entry is an old one or one of the acts
  entry_is : (u : Station) (i : ℕ) (c : Came i u) (e : Entry) → Contains u.node.entries e → Contains c.station.node.entries e ⊎ Contains (flat_map events_in c.moved.acts) e.event
  entry_is u i c e there =
      elim (Contains-append_cases c.station.node.entries c.grown.more e (subst (λ (es : List Entry). Contains es e) c.grown.appends there)) [
        | inl old ↦ inl old
        | inr new ↦ inr (subst (λ (es : List Event). Contains es e.event) c.grown.events (contains_map (λ (x : Entry). x.event) c.grown.more e new))
      ]

  -- who sent a frame bears the number of the place that it came from
  from_place : (a : Act) → CameSent us a → ComesFrom (map number_of us) a
  from_place (Does e) came = tt
  from_place (Comes peer t done) came =
      slice_get-map number_of us peer ∙ ap (option_map number_of) came.1 ∙ ap Some (sym came.2.from)

  from_places : (acts : List Act) → EachAct (CameSent us) acts → EachAct (ComesFrom (map number_of us)) acts
  from_places [] came = tt
  from_places (a ∷ acts) came = (from_place a came.0, from_places acts came.1)

  pushed_on : (i j : ℕ) (u : Station) (q : Peer) (f : Frame) → slice_get us i ≡ Some u → slice_get u.peers.items j ≡ Some q → Contains (ends.pushed q.tx) f → StandsSent u.node f
  pushed_on i j u q f at at_peer there =
      let c = came i u at in
      let d = peer_came i j u c q at_peer in
      elim (d.works.pushed f there) [
        | inl old ↦ sent_stays c.station.node u.node c.grown.more f c.grown.based c.grown.appends (k.pushed i j c.station d.peer f c.at d.at old)
        | inr new ↦ c.grown.sent f new.0
      ]

  pub ends_on : (i j : ℕ) (u v : Station) (p q : Peer) → slice_get us i ≡ Some u → slice_get us j ≡ Some v → slice_get u.peers.items j ≡ Some p → slice_get v.peers.items i ≡ Some q → ends.AreEnds p.tx q.rx
  ends_on i j u v p q at_u at_v at_p at_q =
      let cu = came i u at_u in
      let cv = came j v at_v in
      let dp = peer_came i j u cu p at_p in
      let dq = peer_came j i v cv q at_q in
      ends_stay dp.peer.tx p.tx dq.peer.rx q.rx (k.joined i j cu.station cv.station dp.peer dq.peer cu.at cv.at dp.at dq.at) dp.works.tx dq.works.rx

  -- a station has a peer for each station
  listed : (i : ℕ) (u : Station) → Came i u → map (λ (p : Peer). p.no) u.peers.items ≡ map number_of us
  listed i u c = peer_numbers i u c ∙ k.peers i c.station c.at ∙ sym numbers

  as_many : (i : ℕ) (u : Station) → Came i u → length u.peers.items ≡ length us
  as_many i u c =
      sym (length-map u.peers.items (λ (p : Peer). p.no)) ∙ ap length (listed i u c) ∙ length-map us number_of

  few_on : (i : ℕ) (u : Station) → slice_get us i ≡ Some u → length u.node.entries ≤ journal_length
  few_on i u at = let c = came i u at in c.moved.few (k.few i c.station c.at)

  own_on : (i : ℕ) (u : Station) (e : Entry) → slice_get us i ≡ Some u → Contains u.node.entries e → is_of_run e.event ≡ true
  own_on i u e at there =
      let c = came i u at in
      elim (entry_is u i c e there) [
        | inl old ↦ k.own i c.station e c.at old
        | inr new ↦ acts_of_run c.moved.acts e.event c.moved.runs.are_acts c.moved.own new
      ]

  -- 4. Where all rings were looked at

  module _ (looked : AllLooked us) where
    -- what a station took from a ring was pushed at the other end
    taken_sent : (j : ℕ) (v : Station) → slice_get us j ≡ Some v → (c : Came j v) → SentFrom us (length c.station.peers.items) (λ i. flat_map (taken_by i) c.moved.acts)
    taken_sent j v at c i f inside there =
        let p = at_place c.station.peers.items i inside in
        let q = c.moved.runs.peers i p.0 p.1 in
        let many = as_many j v c in
        let same_many = c.moved.runs.as_many in
        let u = at_place us i (omega (arith, inside, many, same_many)) in
        let cu = came i u.0 u.1 in
        let back = at_place u.0.peers.items j (let h = slice_get_within us j v at in omega (arith, h, as_many i u.0 cu)) in
        let taken : Contains (ends.taken q.0.rx) f = subst (λ (fs : List Frame). Contains fs f) (sym q.2.taken) (Contains-append_right (ends.taken p.0.rx) _ f there) in
        let pushed : Contains (ends.pushed back.0.tx) f = subst (λ (fs : List Frame). Contains fs f) (looked i j u.0 v back.0 q.0 u.1 at back.1 q.1) (Contains-append_left (ends.taken q.0.rx) (ends.known q.0.rx) f taken) in
        (u.0, u.1, pushed_on i j u.0 back.0 f u.1 back.1 pushed)

    sent_acts : (j : ℕ) (v : Station) → slice_get us j ≡ Some v → (c : Came j v) → EachAct (CameSent us) c.moved.acts
    sent_acts j v at c = came_acts us (length c.station.peers.items) c.moved.acts c.moved.runs.inside (taken_sent j v at c)

    got_on : (i : ℕ) (u : Station) (e : Entry) (f : Frame) → slice_get us i ≡ Some u → Contains u.node.entries e → got_frame e.event ≡ Some f → IsSentBySome us f
    got_on i u e f at there got =
        let c = came i u at in
        elim (entry_is u i c e there) [
          | inl old ↦ sent_some f (k.got i c.station e f c.at old got)
          | inr new ↦ acts_got us c.moved.acts e.event f c.moved.runs.are_acts (sent_acts i u at c) new got
        ]

    planned_so : failed ≡ false → (i j : ℕ) (u : Station) (q : Peer) → slice_get us i ≡ Some u → slice_get u.peers.items j ≡ Some q → Planned items q.no (number_of u) u.node.entries (ends.plan q.rx)
    planned_so fine i j u q at at_peer =
        let c = came i u at in
        let d = peer_came i j u c q at_peer in
        let number : number_of u ≡ number_of c.station = ap (λ (n : NodeState). n.spec.no) c.grown.based in
        let ascend : Ascends (map number_of us) = subst Ascends (sym numbers) k.ascend in
        let there : slice_get (map number_of us) j ≡ Some q.no = ap (λ (ns : List ℕ). slice_get ns j) (sym (listed i u c)) ∙ slice_get-map (λ (p : Peer). p.no) u.peers.items j ∙ ap (option_map (λ (p : Peer). p.no)) at_peer in
        planned_on items (map number_of us) ascend j q.no (number_of u) there c.moved.acts c.station.node.entries u.node.entries c.grown.more (ends.plan d.peer.rx) (ends.plan q.rx) c.grown.appends c.grown.events (few_on i u at) c.moved.runs.are_acts (c.moved.runs.whole fine) (from_places c.moved.acts (sent_acts i u at c)) d.works.plan
        (subst (λ (from : ℕ). Planned items from (number_of u) c.station.node.entries (ends.plan d.peer.rx)) (sym d.works.number)
        (subst (λ (to : ℕ). Planned items d.peer.no to c.station.node.entries (ends.plan d.peer.rx)) (sym number) (k.planned (worse fine) i j c.station d.peer c.at d.at)))

    pub kept_on : Kept items failed us
    kept_on = record {
      ascend = subst Ascends (sym numbers) k.ascend;
      replays = λ i u at. (came i u at).grown.replays;
      peers = λ i u at. listed i u (came i u at);
      joined = ends_on;
      pushed = pushed_on;
      got = got_on;
      planned = planned_so;
      own = own_on;
      few = few_on;
    }
