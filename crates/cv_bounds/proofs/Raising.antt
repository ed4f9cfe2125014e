-- What each row leaves and sends is few, and its numbers are below the limit.
use Rattle.std.proofs.Common.{◌≡◌, ℕ, zero, suc, ◌+◌, ◌<◌, ◌≤◌, Bool, true, false, ◌==◌, cond, List, [], ◌∷◌, Option, Some, None, refl, sym, ap, subst, ◌∙◌, arith, IfSome, Contains}
use Rattle.std.specs.Prelude.{nat_le, map as list_map}
use Rattle.std.specs.Option.{option_map}
use Rattle.std.specs.FinMap as map
use Rattle.std.proofs.lemmas.Bool.Decides.{nat_tests}
use Rattle.std.proofs.lemmas.Option.{same_Some, none-some as none_some}
use Rattle.cv_token.specs.declared.token.Token.{Token}
use Rattle.cv_token.specs.declared.identifiers.ActorId.{ActorId}
use Rattle.cv_token.specs.declared.identifiers.ConnId.{ConnId}
use Rattle.cv_table.specs.Order.{actor_cmp, same_actor}
use Rattle.cv_table.specs.Held.{map_values}
use Rattle.cv_table.proofs.Views.{get_changed, get_inserted}
use Rattle.cv_behave.specs.KindRow.{effect_of, heads_of, needed}
use Rattle.cv_kinds.specs.KindRow.{row_of}
use Rattle.cv_queue.specs.Ports.{OutView, after_ack, after_offer, after_peek, after_rewind, after_sent, received, token_for}
use Rattle.cv_endpoint.specs.declared.ends.Answer.{Answer as Reply}
use Rattle.cv_endpoint.specs.declared.ends.Answer.TheVariants as reply
use Rattle.cv_endpoint.specs.Ends.{after_nack, answer_of, in_after_move, next_number, out_after_move, to_move}
use Rattle.cv_protocol.specs.declared.frame.Body.{Body}
use Rattle.cv_protocol.specs.declared.frame.Body.TheVariants as body
use Rattle.cv_protocol.specs.declared.frame.Frame.{Frame}
use Rattle.cv_protocol.specs.declared.moving.Frozen.{Frozen}
use Rattle.cv_protocol.specs.declared.moving.Location.{Location}
use Rattle.cv_protocol.specs.declared.state.Inlet.{Inlet}
use Rattle.cv_protocol.specs.Actors.{LiveState}
use Rattle.cv_protocol.specs.Deliveries.{ack_at, ack_comes, located, located_away, nack_at, nack_comes, offer_to, told, token_comes, token_hinted, token_into, token_missed}
use Rattle.cv_protocol.specs.NodeRow.{comes}
use Rattle.cv_protocol.specs.NodeState.{NodeState, is_later, raise, rewound_for, rewound_towards, with_hint}
use Rattle.cv_protocol.specs.Poll.{Answer, Fired, Held, Waiting, all_inlets_fit, all_outs_fit, fired, inputs, limit, live_fits, poll, row_at}
use Rattle.cv_protocol.specs.Rows.{Did, Outlet, Seat, Spot, after_consumer, after_pass, becomes, fire, fire_at, fire_by, frame_to, hint, inlet_at, outlet, outlet_at, outlet_by, outlet_here, pass, pass_into, pass_known, pass_to, pass_token, peek, peek_at, peek_by, peek_inlet, rewind, seat_of, send, send_away, send_number, send_to, send_token, spot_of, uses, with_inlet, with_live, with_out, with_port_of}
use Rattle.cv_handover.proofs.Polling.{none_short, poll_fires}
use Rattle.cv_bounds.specs.Few.{BodyIsFew, DidFew, InsAreFew, IsFew, LiveIsFew, OutsAreFew}
use Rattle.cv_bounds.proofs.Ports.{ack_write, given_few, inlet_few, ins_set, ins_weaken, move_received, move_write, nack_write, needed_few, offer_received, outs_set, outs_weaken, rewind_write, seat_few, sent_write, spot_few}

-- 1. What a row did, with its numbers below the limit where n is

-- the numbers that it made are below the limit, where the moment of a firing is
pub record Few (n : ℕ) (due : Type 0) (d : Did) : Type 0 where
  pub did : DidFew n d
  pub fits : n < limit → due → d.fits ≡ true

pub no_frame : (n : ℕ) (f : Frame) → Contains [] f → BodyIsFew n f.body
no_frame n f c = absurd (omega (arith, c.1))

one_frame : (n : ℕ) (x f : Frame) → BodyIsFew n x.body → Contains (x ∷ []) f → BodyIsFew n f.body
one_frame n x f few (zero, low, is) = subst (λ (y : Frame). BodyIsFew n y.body) is few
one_frame n x f few (suc k, low, is) = absurd (omega (arith, low))

live_weaken : (n m : ℕ) (l : LiveState) → n ≤ m → LiveIsFew n l → LiveIsFew m l
live_weaken n m l low h = record {
  attempt = omega (arith, low, h.attempt);
  ins = ins_weaken n m l.actor.ins low h.ins;
  outs = outs_weaken n m l.actor.outs low h.outs;
}

pub few_weaken : (n m : ℕ) (s : NodeState) → n ≤ m → IsFew n s → IsFew m s
few_weaken n m s low h = record {
  live = λ a l is. live_weaken n m l low (h.live a l is);
  hints = λ a x is. omega (arith, low, h.hints a x is);
}

-- a state with the same live actors and hints
pub few_same : (n : ℕ) (s t : NodeState) → t.live ≡ s.live → t.hints ≡ s.hints → IsFew n s → IsFew n t
few_same n s t live hints h = record {
  live = λ a l is. h.live a l (ap (λ (m : map.FinMap actor_cmp LiveState). map.get m a) (sym live) ∙ is);
  hints = λ a x is. h.hints a x (ap (λ (m : map.FinMap actor_cmp Location). map.get m a) (sym hints) ∙ is);
}

module _ (n : ℕ) (s : NodeState) (h : IsFew n s) where
  later : IsFew (suc n) s
  later = few_weaken n (suc n) s (omega arith) h

  abbrev AllLive : map.FinMap actor_cmp LiveState → Type 0
  AllLive m = (a : ActorId) (l : LiveState) → map.get m a ≡ Some l → LiveIsFew (suc n) l

  inserted : (m : map.FinMap actor_cmp LiveState) (a : ActorId) (l : LiveState) → AllLive m → LiveIsFew (suc n) l → AllLive (map.insert m a l)
  inserted m a l all new b k is = by_same (same_actor b a) (sym (get_inserted m a l b) ∙ is)
    where
      by_same : (t : Bool) → cond t (Some l) (map.get m b) ≡ Some k → LiveIsFew (suc n) k
      by_same true e = subst (LiveIsFew (suc n)) (same_Some l k e) new
      by_same false e = all b k e

  -- the same node with these live actors
  with_lives : (m : map.FinMap actor_cmp LiveState) → AllLive m → IsFew (suc n) (record s { live = m })
  with_lives m all = record { live = all; hints = later.hints }

  -- nothing but a frame
  silent : (d : Did) → IsFew (suc n) d.next → d.sends ≡ [] → d.fits ≡ true → Few (suc n) (Unit {0}) d
  silent d next none fits = record {
    did = record { next = next; sends = λ f c. no_frame (suc n) f (subst (λ (fs : List Frame). Contains fs f) none c) };
    fits = λ low due. fits;
  }

  sends_one : (d : Did) (x : Frame) → IsFew (suc n) d.next → d.sends ≡ x ∷ [] → BodyIsFew (suc n) x.body → (suc n < limit → d.fits ≡ true) → Few (suc n) (Unit {0}) d
  sends_one d x next one few fits = record {
    did = record { next = next; sends = λ f c. one_frame (suc n) x f few (subst (λ (fs : List Frame). Contains fs f) one c) };
    fits = λ low due. fits low;
  }

  pub becomes_few : Few (suc n) (Unit {0}) (becomes s)
  becomes_few = silent (becomes s) later refl refl

  live_set : (a : ActorId) (l : LiveState) → LiveIsFew (suc n) l → IsFew (suc n) (with_live s a l)
  live_set a l few = with_lives (map.insert s.live a l) (inserted s.live a l later.live few)

  inlet_set : (l : LiveState) (port : ℕ) (i : Inlet) → LiveIsFew (suc n) l → received i.port ≤ suc n → LiveIsFew (suc n) (with_inlet l port i)
  inlet_set l port i few low = record {
    attempt = few.attempt;
    ins = ins_set (suc n) l.actor.ins port i few.ins low;
    outs = few.outs;
  }

  out_set : (l : LiveState) (port : ℕ) (o : OutView) → LiveIsFew (suc n) l → o.write ≤ suc n → LiveIsFew (suc n) (with_out l port o)
  out_set l port o few low = record {
    attempt = few.attempt;
    ins = few.ins;
    outs = outs_set (suc n) l.actor.outs port o few.outs low;
  }

  -- 2. Peek

  peek_inlet_few : (a : ActorId) (l : LiveState) (port count : ℕ) (i : Option Inlet) → map.get s.live a ≡ Some l → inlet_at l port ≡ i → IfSome (peek_inlet s a l port count i) (Few (suc n) (Unit {0}))
  peek_inlet_few a l port count None here is = tt
  peek_inlet_few a l port count (Some i) here is =
      let low = inlet_few n l port i (h.live a l here).ins is in
      let new = inlet_set l port (record i { port = after_peek i.port count }) (later.live a l here) (omega (arith, low)) in
      silent (uses s a (with_inlet l port (record i { port = after_peek i.port count }))) (live_set a (with_inlet l port (record i { port = after_peek i.port count })) new) refl refl

  peek_at_few : (a : ActorId) (l : LiveState) (port count : ℕ) (b : Bool) → map.get s.live a ≡ Some l → IfSome (peek_at s a l port count b) (Few (suc n) (Unit {0}))
  peek_at_few a l port count false here = tt
  peek_at_few a l port count true here =
      peek_inlet_few a l port count (inlet_at l port) here refl

  peek_by_few : (a : ActorId) (l : LiveState) (port : ℕ) (answer : Answer) → map.get s.live a ≡ Some l → IfSome (peek_by s a l port answer) (Few (suc n) (Unit {0}))
  peek_by_few a l port (Fired action) here = tt
  peek_by_few a l port (Held held count) here = peek_at_few a l held count (held == port) here
  peek_by_few a l port (Waiting lacks) here = tt

  pub peek_few : (a : ActorId) (port : ℕ) (o : Option LiveState) → map.get s.live a ≡ o → IfSome (peek s a port o) (Few (suc n) (Unit {0}))
  peek_few a port None here = tt
  peek_few a port (Some l) here = peek_by_few a l port (poll l s.now) here

  -- 3. Fire

  fired_few : (a : ActorId) (l : LiveState) (action : ℕ) → map.get s.live a ≡ Some l → poll l s.now ≡ Fired action → LiveIsFew (suc n) (fired l s.now action)
  fired_few a l action here answer =
      let few = h.live a l here in
      let row = row_of l.actor.spec.kind in
      let enough = none_short (needed row l.actor.spec.args action) 0 l.actor.ins (poll_fires l s.now action answer).tokens in
      record {
        attempt = omega (arith, few.attempt);
        ins = ins_weaken n (suc n) (fired l s.now action).actor.ins (omega arith) (needed_few n (needed row l.actor.spec.args action) 0 l.actor.ins enough few.ins);
        outs = given_few n (effect_of row l.actor.spec.args l.actor.slots action (heads_of row l.actor.spec.args action 0 (inputs l.actor.ins))).out l.actor.outs few.outs;
      }

  ins_fit : (m : ℕ) (ins : List (Option Inlet)) → m < limit → InsAreFew m ins → all_inlets_fit ins ≡ true
  ins_fit m [] low few = refl
  ins_fit m (None ∷ ins) low few = ins_fit m ins low few
  ins_fit m (Some i ∷ ins) low few =
      let rest = ins_fit m ins low few.1 in
      grind (arith, nat_tests, low, few.0, rest)

  outs_fit : (m : ℕ) (outs : List OutView) → m < limit → OutsAreFew m outs → all_outs_fit outs ≡ true
  outs_fit m [] low few = refl
  outs_fit m (o ∷ outs) low few =
      let rest = outs_fit m outs low few.1 in
      grind (arith, nat_tests, low, few.0, rest)

  few_fits : (m : ℕ) (l : LiveState) → m < limit → LiveIsFew m l → l.due < limit → live_fits l ≡ true
  few_fits m l low few due =
      let ins = ins_fit m l.actor.ins low few.ins in
      let outs = outs_fit m l.actor.outs low few.outs in
      grind (arith, nat_tests, low, few.attempt, due, ins, outs)

  -- the moment of the firing is below the limit
  abbrev Due : LiveState → Type 0
  Due l = s.now + (row_at l).pause l.actor.spec.args < limit

  fire_at_few : (a : ActorId) (l : LiveState) (first action : ℕ) (b : Bool) → map.get s.live a ≡ Some l → poll l s.now ≡ Fired first → (first == action) ≡ b → IfSome (fire_at s a l action b) (Few (suc n) (Due l))
  fire_at_few a l first action false here answer same = tt
  fire_at_few a l first action true here answer same =
      let is : first ≡ action = grind (arith, nat_tests, same) in
      let few = fired_few a l action here (subst (λ (k : ℕ). poll l s.now ≡ Fired k) is answer) in
      record {
        did = record { next = live_set a (fired l s.now action) few; sends = λ f c. no_frame (suc n) f c };
        fits = λ low due. few_fits (suc n) (fired l s.now action) low few due;
      }

  fire_by_few : (a : ActorId) (l : LiveState) (action : ℕ) (answer : Answer) → map.get s.live a ≡ Some l → poll l s.now ≡ answer → IfSome (fire_by s a l action answer) (Few (suc n) (Due l))
  fire_by_few a l action (Fired first) here is = fire_at_few a l first action (first == action) here is refl
  fire_by_few a l action (Held port count) here is = tt
  fire_by_few a l action (Waiting lacks) here is = tt

  -- whichever actor it is
  abbrev DueHere : ActorId → Type 0
  DueHere a = (l : LiveState) → map.get s.live a ≡ Some l → Due l

  due_here : (a : ActorId) (l : LiveState) (r : Option Did) → map.get s.live a ≡ Some l → IfSome r (Few (suc n) (Due l)) → IfSome r (Few (suc n) (DueHere a))
  due_here a l None here few = tt
  due_here a l (Some d) here few = record { did = few.did; fits = λ low due. few.fits low (due l here) }

  pub fire_few : (a : ActorId) (action : ℕ) (o : Option LiveState) → map.get s.live a ≡ o → IfSome (fire s a action o) (Few (suc n) (DueHere a))
  fire_few a action None here = tt
  fire_few a action (Some l) here =
      due_here a l (fire_by s a l action (poll l s.now)) here (fire_by_few a l action (poll l s.now) here refl)

  -- 4. The producer of a connection

  -- its outport is few, and it lives here
  record OutletFew (x : Outlet) : Type 0 where
    here : map.get s.live x.producer ≡ Some x.live
    write : x.spot.port.write ≤ n

  outlet_at_few : (a : ActorId) (l : LiveState) (conn : ConnId) (spot : Option Spot) → map.get s.live a ≡ Some l → spot_of conn 0 l.actor.outs ≡ spot → IfSome (outlet_at a l spot) OutletFew
  outlet_at_few a l conn None here is = tt
  outlet_at_few a l conn (Some spot) here is = record { here = here; write = spot_few n conn 0 l.actor.outs spot (h.live a l here).outs is }

  outlet_here_few : (conn : ConnId) (a : ActorId) (o : Option LiveState) → map.get s.live a ≡ o → IfSome (outlet_here conn a o) OutletFew
  outlet_here_few conn a None here = tt
  outlet_here_few conn a (Some l) here =
      outlet_at_few a l conn (spot_of conn 0 l.actor.outs) here refl

  outlet_by_few : (conn : ConnId) (a : Option ActorId) → IfSome (outlet_by s conn a) OutletFew
  outlet_by_few conn None = tt
  outlet_by_few conn (Some a) = outlet_here_few conn a (map.get s.live a) refl

  outlet_few : (conn : ConnId) → IfSome (outlet s conn) OutletFew
  outlet_few conn = outlet_by_few conn (map.get s.known.producers conn)

  -- the producer with another outport, to which no more was written
  producer_set : (x : Outlet) (o : OutView) → OutletFew x → o.write ≡ x.spot.port.write → IsFew (suc n) (with_live s x.producer (with_out x.live x.spot.out o))
  producer_set x o few same =
      live_set x.producer (with_out x.live x.spot.out o) (out_set x.live x.spot.out o (later.live x.producer x.live few.here) (omega (arith, same, few.write)))

  -- 5. Send, Rewind

  send_token_few : (stamp : ℕ) (x : Outlet) (node number : ℕ) (t : Option Token) → OutletFew x → IfSome (send_token s stamp x node number t) (Few (suc n) (Unit {0}))
  send_token_few stamp x node number None few = tt
  send_token_few stamp x node number (Some t) few =
      let d : Did = record (uses s x.producer (with_out x.live x.spot.out (after_sent x.spot.port x.spot.number))) { sends = frame_to s stamp node (body.Token x.spot.reader.conn x.spot.reader.consumer number t) ∷ [] } in
      sends_one d (frame_to s stamp node (body.Token x.spot.reader.conn x.spot.reader.consumer number t)) (producer_set x (after_sent x.spot.port x.spot.number) few (sent_write x.spot.port x.spot.number)) refl tt (λ low. refl)

  send_number_few : (stamp : ℕ) (x : Outlet) (node : ℕ) (number : Option ℕ) → OutletFew x → IfSome (send_number s stamp x node number) (Few (suc n) (Unit {0}))
  send_number_few stamp x node None few = tt
  send_number_few stamp x node (Some k) few =
      send_token_few stamp x node k (token_for x.spot.port x.spot.number k) few

  send_away_few : (stamp : ℕ) (x : Outlet) (node : ℕ) (b : Bool) → OutletFew x → IfSome (send_away s stamp x node b) (Few (suc n) (Unit {0}))
  send_away_few stamp x node true few = tt
  send_away_few stamp x node false few =
      send_number_few stamp x node (next_number x.spot.port x.spot.number s.spec.window) few

  send_to_few : (stamp : ℕ) (x : Outlet) (o : Option Location) → OutletFew x → IfSome (send_to s stamp x o) (Few (suc n) (Unit {0}))
  send_to_few stamp x None few = tt
  send_to_few stamp x (Some l) few = send_away_few stamp x l.node (l.node == s.spec.no) few

  send_few : (stamp : ℕ) (x : Option Outlet) → IfSome x OutletFew → IfSome (send s stamp x) (Few (suc n) (Unit {0}))
  send_few stamp None few = tt
  send_few stamp (Some x) few = send_to_few stamp x (map.get s.hints x.spot.reader.consumer) few

  rewind_few : (x : Option Outlet) → IfSome x OutletFew → IfSome (rewind s x) (Few (suc n) (Unit {0}))
  rewind_few None few = tt
  rewind_few (Some x) few =
      silent (uses s x.producer (with_out x.live x.spot.out (after_rewind x.spot.port x.spot.number))) (producer_set x (after_rewind x.spot.port x.spot.number) few (rewind_write x.spot.port x.spot.number)) refl refl

  -- 6. Pass

  port_set : (m : map.FinMap actor_cmp LiveState) (a : ActorId) (out : ℕ) (o : OutView) (l : Option LiveState) → AllLive m → map.get m a ≡ l → o.write ≤ suc n → AllLive (with_port_of m a out o l)
  port_set m a out o None all is low = all
  port_set m a out o (Some l) all is low =
      inserted m a (with_out l out o) all (out_set l out o (all a l is) low)

  module _ (x : Outlet) (few : OutletFew x) (c : ActorId) (l : LiveState) (here : map.get s.live c ≡ Some l) (y : Seat) (low : received y.inlet.port ≤ n) where
    after_pass_few : IsFew (suc n) (after_pass s x c l y)
    after_pass_few =
        let moved = move_received x.spot.port x.spot.number y.inlet.port in
        let consumer = inserted s.live c (with_inlet l y.inp (record (y.inlet) { port = in_after_move x.spot.port x.spot.number y.inlet.port })) later.live (inlet_set l y.inp (record (y.inlet) { port = in_after_move x.spot.port x.spot.number y.inlet.port }) (later.live c l here) (omega (arith, moved, low))) in
        let same = move_write x.spot.port x.spot.number y.inlet.port in
        with_lives (with_port_of (after_consumer s x c l y) x.producer x.spot.out (out_after_move x.spot.port x.spot.number y.inlet.port) (map.get (after_consumer s x c l y) x.producer))
        (port_set (after_consumer s x c l y) x.producer x.spot.out (out_after_move x.spot.port x.spot.number y.inlet.port) (map.get (after_consumer s x c l y) x.producer) consumer refl (omega (arith, same, few.write)))

    pass_token_few : (t : Option Token) → IfSome (pass_token s x c l y t) (Few (suc n) (Unit {0}))
    pass_token_few None = tt
    pass_token_few (Some t) = record {
      did = record { next = after_pass_few; sends = λ f k. no_frame (suc n) f k };
      fits = λ bound due. let moved = move_received x.spot.port x.spot.number y.inlet.port in grind (arith, nat_tests, bound, moved, low);
    }

    pass_known_few : (b : Bool) → IfSome (pass_known s x c l y b) (Few (suc n) (Unit {0}))
    pass_known_few false = tt
    pass_known_few true = pass_token_few (to_move x.spot.port x.spot.number y.inlet.port)

  pass_into_few : (x : Outlet) (c : ActorId) (l : LiveState) (conn : ConnId) (y : Option Seat) → OutletFew x → map.get s.live c ≡ Some l → seat_of conn 0 l.actor.ins ≡ y → IfSome (pass_into s x c l y) (Few (suc n) (Unit {0}))
  pass_into_few x c l conn None few here is = tt
  pass_into_few x c l conn (Some y) few here is =
      pass_known_few x few c l here y (seat_few n conn 0 l.actor.ins y (h.live c l here).ins is) (nat_le x.spot.reader.acked (received y.inlet.port))

  pass_to_few : (x : Outlet) (c : ActorId) (o : Option LiveState) → OutletFew x → map.get s.live c ≡ o → IfSome (pass_to s x c o) (Few (suc n) (Unit {0}))
  pass_to_few x c None few here = tt
  pass_to_few x c (Some l) few here =
      pass_into_few x c l x.spot.reader.conn (seat_of x.spot.reader.conn 0 l.actor.ins) few here refl

  pass_few : (x : Option Outlet) → IfSome x OutletFew → IfSome (pass s x) (Few (suc n) (Unit {0}))
  pass_few None few = tt
  pass_few (Some x) few =
      pass_to_few x x.spot.reader.consumer (map.get s.live x.spot.reader.consumer) few refl

  pub pass_of : (conn : ConnId) → IfSome (pass s (outlet s conn)) (Few (suc n) (Unit {0}))
  pass_of conn = pass_few (outlet s conn) (outlet_few conn)

  pub send_of : (stamp : ℕ) (conn : ConnId) → IfSome (send s stamp (outlet s conn)) (Few (suc n) (Unit {0}))
  send_of stamp conn = send_few stamp (outlet s conn) (outlet_few conn)

  pub rewind_of : (conn : ConnId) → IfSome (rewind s (outlet s conn)) (Few (suc n) (Unit {0}))
  rewind_of conn = rewind_few (outlet s conn) (outlet_few conn)

  -- 7. What comes

  located_few : (stamp sender : ℕ) (a : ActorId) (x : Location) → map.get s.hints a ≡ Some x → Few (suc n) (Unit {0}) (located s stamp sender a x)
  located_few stamp sender a x is =
      sends_one (located s stamp sender a x) (frame_to s stamp sender (body.Located a x.attempt x.node)) later refl (later.hints a x is) (λ low. refl)

  located_away_few : (stamp sender : ℕ) (a : ActorId) (x : Location) (b : Bool) → map.get s.hints a ≡ Some x → Few (suc n) (Unit {0}) (located_away s stamp sender a x b)
  located_away_few stamp sender a x true is = becomes_few
  located_away_few stamp sender a x false is = located_few stamp sender a x is

  token_hinted_few : (stamp sender : ℕ) (a : ActorId) (o : Option Location) → map.get s.hints a ≡ o → Few (suc n) (Unit {0}) (token_hinted s stamp sender a o)
  token_hinted_few stamp sender a None is = becomes_few
  token_hinted_few stamp sender a (Some x) is =
      located_away_few stamp sender a x (x.node == s.spec.no) is

  token_missed_few : (stamp sender : ℕ) (a : ActorId) (o : Option Frozen) → Few (suc n) (Unit {0}) (token_missed s stamp sender a o)
  token_missed_few stamp sender a (Some copy) = becomes_few
  token_missed_few stamp sender a None = token_hinted_few stamp sender a (map.get s.hints a) refl

  told_few : (conn : ConnId) (a : ActorId) (answer : Reply) → BodyIsFew (suc n) (told conn a answer)
  told_few conn a (reply.Ack upto) = tt
  told_few conn a (reply.Nack upto) = tt

  offer_few : (stamp sender : ℕ) (a : ActorId) (l : LiveState) (y : Seat) (number : ℕ) (t : Token) → map.get s.live a ≡ Some l → received y.inlet.port ≤ n → Few (suc n) (Unit {0}) (offer_to s stamp sender a l y number t)
  offer_few stamp sender a l y number t here low =
      let offered = offer_received y.inlet.port number t in
      sends_one (offer_to s stamp sender a l y number t) (frame_to s stamp sender (told y.inlet.conn y.inlet.producer (answer_of y.inlet.port number t)))
      (live_set a (with_inlet l y.inp (record (y.inlet) { port = after_offer y.inlet.port number t })) (inlet_set l y.inp (record (y.inlet) { port = after_offer y.inlet.port number t }) (later.live a l here) (omega (arith, offered, low))))
      refl (told_few y.inlet.conn y.inlet.producer (answer_of y.inlet.port number t)) (λ bound. grind (arith, nat_tests, bound, offered, low))

  token_into_few : (stamp sender : ℕ) (conn : ConnId) (a : ActorId) (l : LiveState) (number : ℕ) (t : Token) (y : Option Seat) → map.get s.live a ≡ Some l → seat_of conn 0 l.actor.ins ≡ y → Few (suc n) (Unit {0}) (token_into s stamp sender a l number t y)
  token_into_few stamp sender conn a l number t None here is =
      token_missed_few stamp sender a (map.get s.moves.frozen a)
  token_into_few stamp sender conn a l number t (Some y) here is =
      offer_few stamp sender a l y number t here (seat_few n conn 0 l.actor.ins y (h.live a l here).ins is)

  token_few : (stamp sender : ℕ) (conn : ConnId) (a : ActorId) (number : ℕ) (t : Token) (o : Option LiveState) → map.get s.live a ≡ o → Few (suc n) (Unit {0}) (token_comes s stamp sender conn a number t o)
  token_few stamp sender conn a number t None here =
      token_missed_few stamp sender a (map.get s.moves.frozen a)
  token_few stamp sender conn a number t (Some l) here =
      token_into_few stamp sender conn a l number t (seat_of conn 0 l.actor.ins) here refl

  -- a producer's outport becomes one to which no more was written
  spot_set : (a : ActorId) (l : LiveState) (spot : Spot) (conn : ConnId) (o : OutView) → map.get s.live a ≡ Some l → spot_of conn 0 l.actor.outs ≡ Some spot → o.write ≡ spot.port.write → Few (suc n) (Unit {0}) (uses s a (with_out l spot.out o))
  spot_set a l spot conn o here is same =
      let low = spot_few n conn 0 l.actor.outs spot (h.live a l here).outs is in
      silent (uses s a (with_out l spot.out o)) (live_set a (with_out l spot.out o) (out_set l spot.out o (later.live a l here) (omega (arith, low, same)))) refl refl

  ack_at_few : (conn : ConnId) (a : ActorId) (l : LiveState) (upto : ℕ) (spot : Option Spot) → map.get s.live a ≡ Some l → spot_of conn 0 l.actor.outs ≡ spot → Few (suc n) (Unit {0}) (ack_at s a l upto spot)
  ack_at_few conn a l upto None here is = becomes_few
  ack_at_few conn a l upto (Some spot) here is =
      spot_set a l spot conn (after_ack spot.port spot.number upto) here is (ack_write spot.port spot.number upto)

  ack_few : (conn : ConnId) (a : ActorId) (upto : ℕ) (o : Option LiveState) → map.get s.live a ≡ o → Few (suc n) (Unit {0}) (ack_comes s conn a upto o)
  ack_few conn a upto None here = becomes_few
  ack_few conn a upto (Some l) here = ack_at_few conn a l upto (spot_of conn 0 l.actor.outs) here refl

  nack_at_few : (conn : ConnId) (a : ActorId) (l : LiveState) (upto : ℕ) (spot : Option Spot) → map.get s.live a ≡ Some l → spot_of conn 0 l.actor.outs ≡ spot → Few (suc n) (Unit {0}) (nack_at s a l upto spot)
  nack_at_few conn a l upto None here is = becomes_few
  nack_at_few conn a l upto (Some spot) here is =
      spot_set a l spot conn (after_nack spot.port spot.number upto) here is (nack_write spot.port spot.number upto)

  nack_few : (conn : ConnId) (a : ActorId) (upto : ℕ) (o : Option LiveState) → map.get s.live a ≡ o → Few (suc n) (Unit {0}) (nack_comes s conn a upto o)
  nack_few conn a upto None here = becomes_few
  nack_few conn a upto (Some l) here = nack_at_few conn a l upto (spot_of conn 0 l.actor.outs) here refl

  -- a hint is raised

  rewound_write : (m : ℕ) (a : ActorId) (outs : List OutView) → OutsAreFew m outs → OutsAreFew m (list_map (λ (o : OutView). record o { readers = list_map (rewound_for a) o.readers }) outs)
  rewound_write m a [] few = tt
  rewound_write m a (o ∷ outs) few = (few.0, rewound_write m a outs few.1)

  rewound_few : (a : ActorId) (l : LiveState) → LiveIsFew (suc n) l → LiveIsFew (suc n) (rewound_towards a l)
  rewound_few a l few = record { attempt = few.attempt; ins = few.ins; outs = rewound_write (suc n) a l.actor.outs few.outs }

  all_rewound : (a : ActorId) → AllLive (map_values (rewound_towards a) s.live)
  all_rewound a b l is =
      by_old (map.get s.live b) refl (sym (get_changed s.live (rewound_towards a) b) ∙ is)
    where
      by_old : (o : Option LiveState) → map.get s.live b ≡ o → option_map (rewound_towards a) o ≡ Some l → LiveIsFew (suc n) l
      by_old None here e = absurd (none_some l e)
      by_old (Some k) here e =
          subst (LiveIsFew (suc n)) (same_Some (rewound_towards a k) l e) (rewound_few a k (later.live b k here))

  hints_set : (a : ActorId) (x : Location) → x.attempt ≤ suc n → (b : ActorId) (y : Location) → map.get (map.insert s.hints a x) b ≡ Some y → y.attempt ≤ suc n
  hints_set a x low b y is = by_same (same_actor b a) (sym (get_inserted s.hints a x b) ∙ is)
    where
      by_same : (t : Bool) → cond t (Some x) (map.get s.hints b) ≡ Some y → y.attempt ≤ suc n
      by_same true e = subst (λ (z : Location). z.attempt ≤ suc n) (same_Some x y e) low
      by_same false e = later.hints b y e

  raised_few : (a : ActorId) (attempt node : ℕ) (b : Bool) → attempt ≤ n → IsFew (suc n) (with_hint s a attempt node b)
  raised_few a attempt node false low = later
  raised_few a attempt node true low = record {
    live = all_rewound a;
    hints = hints_set a (record { attempt = attempt; node = node }) (omega (arith, low));
  }

  hint_few : (a : ActorId) (attempt node : ℕ) → attempt ≤ n → Few (suc n) (Unit {0}) (hint s a attempt node)
  hint_few a attempt node low = record {
    did = record { next = few_same (suc n) (with_hint s a attempt node (is_later attempt (map.get s.hints a))) (raise s a attempt node) refl refl (raised_few a attempt node (is_later attempt (map.get s.hints a)) low); sends = λ f c. no_frame (suc n) f c };
    fits = λ bound due. grind (arith, nat_tests, bound, low);
  }

  pub comes_few : (stamp sender : ℕ) (b : Body) → BodyIsFew n b → Few (suc n) (Unit {0}) (comes s stamp sender b)
  comes_few stamp sender (body.Token conn a number t) few = token_few stamp sender conn a number t (map.get s.live a) refl
  comes_few stamp sender (body.Ack conn a upto) few = ack_few conn a upto (map.get s.live a) refl
  comes_few stamp sender (body.Nack conn a upto) few = nack_few conn a upto (map.get s.live a) refl
  comes_few stamp sender (body.Located a attempt node) few = hint_few a attempt node few
  comes_few stamp sender (body.Transfer a attempt state) few = absurd few
  comes_few stamp sender (body.Verdict a attempt v) few = absurd few
  comes_few stamp sender (body.Cancel a attempt) few = absurd few
  comes_few stamp sender (body.Destroy app) few = absurd few
