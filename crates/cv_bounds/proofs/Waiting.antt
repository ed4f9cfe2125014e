-- An actor waits less than a duration, whatever its node does in a run.
use Rattle.std.proofs.Common.{◌≡◌, ℕ, suc, ◌≤◌, Bool, true, false, ◌==◌, ◌&&◌, cond, List, [], ◌∷◌, Option, Some, None, refl, sym, ap, subst, ◌∙◌, arith, IfSome, Contains}
use Rattle.std.specs.Prelude.{nat_le, nat_lt, option_and_then}
use Rattle.std.specs.Option.{option_map}
use Rattle.std.specs.FinMap as map
use Rattle.std.proofs.lemmas.Bool.Decides.{nat_tests}
use Rattle.std.proofs.lemmas.Option.{same_Some, none-some as none_some}
use Rattle.cv_token.specs.declared.token.Token.{Token}
use Rattle.cv_token.specs.declared.identifiers.ActorId.{ActorId}
use Rattle.cv_token.specs.declared.identifiers.ConnId.{ConnId}
use Rattle.cv_table.specs.Order.{actor_cmp, same_actor}
use Rattle.cv_table.specs.Held.{map_values}
use Rattle.cv_table.proofs.Views.{get_changed, get_inserted}
use Rattle.cv_queue.specs.Ports.{OutView, received}
use Rattle.cv_endpoint.specs.Ends.{next_number, out_after_move, to_move}
use Rattle.cv_rules.specs.declared.attrs.Attrs.{Attrs}
use Rattle.cv_protocol.specs.declared.event.Entry.{Entry}
use Rattle.cv_protocol.specs.declared.event.Event.{Event}
use Rattle.cv_protocol.specs.declared.event.Event.TheVariants as event
use Rattle.cv_protocol.specs.declared.frame.Body.{Body}
use Rattle.cv_protocol.specs.declared.frame.Body.TheVariants as body
use Rattle.cv_protocol.specs.declared.frame.Frame.{Frame}
use Rattle.cv_protocol.specs.declared.moving.Frozen.{Frozen}
use Rattle.cv_protocol.specs.declared.moving.Location.{Location}
use Rattle.cv_protocol.specs.declared.state.Inlet.{Inlet}
use Rattle.cv_protocol.specs.Actors.{LiveState}
use Rattle.cv_protocol.specs.Deliveries.{ack_at, ack_comes, located_away, nack_at, nack_comes, token_comes, token_hinted, token_into, token_missed}
use Rattle.cv_protocol.specs.Journals.{did_at, did_if, got_frame, next_of, replay}
use Rattle.cv_protocol.specs.NodeRow.{attempted, comes, deliver, is_bounded, lose, row, stamp_of, stamped, stamped_if}
use Rattle.cv_protocol.specs.NodeState.{NodeState, is_later, rewound_towards, with_hint}
use Rattle.cv_protocol.specs.Poll.{Answer, Fired, Held, Waiting, fired, limit, poll}
use Rattle.cv_protocol.specs.Rows.{Did, Outlet, Seat, Spot, after_consumer, becomes, fire, fire_at, fire_by, hint, inlet_at, is_node, meet, outlet, outlet_at, outlet_by, outlet_here, pass, pass_into, pass_known, pass_to, pass_token, peek, peek_at, peek_by, peek_inlet, rewind, seat_of, send, send_away, send_number, send_to, send_token, spot_of, tick, with_inlet, with_out, with_port_of}
use Rattle.cv_bounds.specs.Few.{BodyIsFew, GotFew, is_still}
use Rattle.cv_bounds.specs.Moments.{AllWaitBriefly, EndsTimely, IsTimely, WaitsBriefly, WaitsStayBrief, moment_after, moment_of}

module _ (s : NodeState) (h : AllWaitBriefly s) where
  abbrev AllBrief : map.FinMap actor_cmp LiveState → Type 0
  AllBrief m = (a : ActorId) (l : LiveState) → map.get m a ≡ Some l → WaitsBriefly s.now l

  inserted : (m : map.FinMap actor_cmp LiveState) (a : ActorId) (l : LiveState) → AllBrief m → WaitsBriefly s.now l → AllBrief (map.insert m a l)
  inserted m a l all new b k is = by_same (same_actor b a) (sym (get_inserted m a l b) ∙ is)
    where
      by_same : (t : Bool) → cond t (Some l) (map.get m b) ≡ Some k → WaitsBriefly s.now k
      by_same true e = subst (WaitsBriefly s.now) (same_Some l k e) new
      by_same false e = all b k e

  -- the moment stays
  record Stays (d : Did) : Type 0 where
    now : d.next.now ≡ s.now
    brief : AllBrief d.next.live

  still : Stays (becomes s)
  still = record { now = refl; brief = h }

  inlet_set : (l : LiveState) (port : ℕ) (i : Inlet) → WaitsBriefly s.now l → WaitsBriefly s.now (with_inlet l port i)
  inlet_set l port i w = record { due = w.due; pause = w.pause }

  out_set : (l : LiveState) (port : ℕ) (o : OutView) → WaitsBriefly s.now l → WaitsBriefly s.now (with_out l port o)
  out_set l port o w = record { due = w.due; pause = w.pause }

  -- 1. Peek, Fire

  peek_inlet_stays : (a : ActorId) (l : LiveState) (port count : ℕ) (i : Option Inlet) → map.get s.live a ≡ Some l → IfSome (peek_inlet s a l port count i) Stays
  peek_inlet_stays a l port count None here = tt
  peek_inlet_stays a l port count (Some i) here =
      record { now = refl; brief = inserted s.live a _ h (inlet_set l port _ (h a l here)) }

  peek_at_stays : (a : ActorId) (l : LiveState) (port count : ℕ) (b : Bool) → map.get s.live a ≡ Some l → IfSome (peek_at s a l port count b) Stays
  peek_at_stays a l port count false here = tt
  peek_at_stays a l port count true here = peek_inlet_stays a l port count (inlet_at l port) here

  peek_by_stays : (a : ActorId) (l : LiveState) (port : ℕ) (answer : Answer) → map.get s.live a ≡ Some l → IfSome (peek_by s a l port answer) Stays
  peek_by_stays a l port (Fired action) here = tt
  peek_by_stays a l port (Held held count) here = peek_at_stays a l held count (held == port) here
  peek_by_stays a l port (Waiting lacks) here = tt

  peek_stays : (a : ActorId) (port : ℕ) (o : Option LiveState) → map.get s.live a ≡ o → IfSome (peek s a port o) Stays
  peek_stays a port None here = tt
  peek_stays a port (Some l) here = peek_by_stays a l port (poll l s.now) here

  fired_brief : (l : LiveState) (action : ℕ) → WaitsBriefly s.now l → WaitsBriefly s.now (fired l s.now action)
  fired_brief l action w = let short = w.pause in record { due = omega (arith, short); pause = short }

  fire_at_stays : (a : ActorId) (l : LiveState) (action : ℕ) (b : Bool) → map.get s.live a ≡ Some l → IfSome (fire_at s a l action b) Stays
  fire_at_stays a l action false here = tt
  fire_at_stays a l action true here =
      record { now = refl; brief = inserted s.live a (fired l s.now action) h (fired_brief l action (h a l here)) }

  fire_by_stays : (a : ActorId) (l : LiveState) (action : ℕ) (answer : Answer) → map.get s.live a ≡ Some l → IfSome (fire_by s a l action answer) Stays
  fire_by_stays a l action (Fired first) here = fire_at_stays a l action (first == action) here
  fire_by_stays a l action (Held port count) here = tt
  fire_by_stays a l action (Waiting lacks) here = tt

  fire_stays : (a : ActorId) (action : ℕ) (o : Option LiveState) → map.get s.live a ≡ o → IfSome (fire s a action o) Stays
  fire_stays a action None here = tt
  fire_stays a action (Some l) here = fire_by_stays a l action (poll l s.now) here

  -- 2. The producer of a connection lives here

  abbrev LivesHere : Outlet → Type 0
  LivesHere x = map.get s.live x.producer ≡ Some x.live

  outlet_at_here : (a : ActorId) (l : LiveState) (spot : Option Spot) → map.get s.live a ≡ Some l → IfSome (outlet_at a l spot) LivesHere
  outlet_at_here a l None here = tt
  outlet_at_here a l (Some spot) here = here

  outlet_here_here : (conn : ConnId) (a : ActorId) (o : Option LiveState) → map.get s.live a ≡ o → IfSome (outlet_here conn a o) LivesHere
  outlet_here_here conn a None here = tt
  outlet_here_here conn a (Some l) here = outlet_at_here a l (spot_of conn 0 l.actor.outs) here

  outlet_by_here : (conn : ConnId) (a : Option ActorId) → IfSome (outlet_by s conn a) LivesHere
  outlet_by_here conn None = tt
  outlet_by_here conn (Some a) = outlet_here_here conn a (map.get s.live a) refl

  outlet_lives : (conn : ConnId) → IfSome (outlet s conn) LivesHere
  outlet_lives conn = outlet_by_here conn (map.get s.known.producers conn)

  -- the producer with another outport
  producer_set : (x : Outlet) (o : OutView) → LivesHere x → AllBrief (map.insert s.live x.producer (with_out x.live x.spot.out o))
  producer_set x o here =
      inserted s.live x.producer (with_out x.live x.spot.out o) h (out_set x.live x.spot.out o (h x.producer x.live here))

  send_token_stays : (stamp : ℕ) (x : Outlet) (node number : ℕ) (t : Option Token) → LivesHere x → IfSome (send_token s stamp x node number t) Stays
  send_token_stays stamp x node number None here = tt
  send_token_stays stamp x node number (Some t) here = record { now = refl; brief = producer_set x _ here }

  send_number_stays : (stamp : ℕ) (x : Outlet) (node : ℕ) (number : Option ℕ) → LivesHere x → IfSome (send_number s stamp x node number) Stays
  send_number_stays stamp x node None here = tt
  send_number_stays stamp x node (Some k) here = send_token_stays stamp x node k _ here

  send_away_stays : (stamp : ℕ) (x : Outlet) (node : ℕ) (b : Bool) → LivesHere x → IfSome (send_away s stamp x node b) Stays
  send_away_stays stamp x node true here = tt
  send_away_stays stamp x node false here =
      send_number_stays stamp x node (next_number x.spot.port x.spot.number s.spec.window) here

  send_to_stays : (stamp : ℕ) (x : Outlet) (o : Option Location) → LivesHere x → IfSome (send_to s stamp x o) Stays
  send_to_stays stamp x None here = tt
  send_to_stays stamp x (Some l) here = send_away_stays stamp x l.node (l.node == s.spec.no) here

  send_stays : (stamp : ℕ) (x : Option Outlet) → IfSome x LivesHere → IfSome (send s stamp x) Stays
  send_stays stamp None here = tt
  send_stays stamp (Some x) here = send_to_stays stamp x (map.get s.hints x.spot.reader.consumer) here

  rewind_stays : (x : Option Outlet) → IfSome x LivesHere → IfSome (rewind s x) Stays
  rewind_stays None here = tt
  rewind_stays (Some x) here = record { now = refl; brief = producer_set x _ here }

  port_set : (m : map.FinMap actor_cmp LiveState) (a : ActorId) (out : ℕ) (o : OutView) (l : Option LiveState) → AllBrief m → map.get m a ≡ l → AllBrief (with_port_of m a out o l)
  port_set m a out o None all is = all
  port_set m a out o (Some l) all is = inserted m a (with_out l out o) all (out_set l out o (all a l is))

  pass_token_stays : (x : Outlet) (c : ActorId) (l : LiveState) (y : Seat) (t : Option Token) → map.get s.live c ≡ Some l → IfSome (pass_token s x c l y t) Stays
  pass_token_stays x c l y None here = tt
  pass_token_stays x c l y (Some t) here = record {
    now = refl;
    brief = port_set (after_consumer s x c l y) x.producer x.spot.out (out_after_move x.spot.port x.spot.number y.inlet.port) (map.get (after_consumer s x c l y) x.producer) (inserted s.live c _ h (inlet_set l y.inp _ (h c l here))) refl;
  }

  pass_known_stays : (x : Outlet) (c : ActorId) (l : LiveState) (y : Seat) (b : Bool) → map.get s.live c ≡ Some l → IfSome (pass_known s x c l y b) Stays
  pass_known_stays x c l y false here = tt
  pass_known_stays x c l y true here =
      pass_token_stays x c l y (to_move x.spot.port x.spot.number y.inlet.port) here

  pass_into_stays : (x : Outlet) (c : ActorId) (l : LiveState) (y : Option Seat) → map.get s.live c ≡ Some l → IfSome (pass_into s x c l y) Stays
  pass_into_stays x c l None here = tt
  pass_into_stays x c l (Some y) here =
      pass_known_stays x c l y (nat_le x.spot.reader.acked (received y.inlet.port)) here

  pass_to_stays : (x : Outlet) (c : ActorId) (o : Option LiveState) → map.get s.live c ≡ o → IfSome (pass_to s x c o) Stays
  pass_to_stays x c None here = tt
  pass_to_stays x c (Some l) here = pass_into_stays x c l (seat_of x.spot.reader.conn 0 l.actor.ins) here

  pass_stays : (x : Option Outlet) → IfSome (pass s x) Stays
  pass_stays None = tt
  pass_stays (Some x) =
      pass_to_stays x x.spot.reader.consumer (map.get s.live x.spot.reader.consumer) refl

  -- 3. What comes

  located_away_stays : (stamp sender : ℕ) (a : ActorId) (x : Location) (b : Bool) → Stays (located_away s stamp sender a x b)
  located_away_stays stamp sender a x true = still
  located_away_stays stamp sender a x false = record { now = refl; brief = h }

  token_hinted_stays : (stamp sender : ℕ) (a : ActorId) (o : Option Location) → Stays (token_hinted s stamp sender a o)
  token_hinted_stays stamp sender a None = still
  token_hinted_stays stamp sender a (Some x) = located_away_stays stamp sender a x (x.node == s.spec.no)

  token_missed_stays : (stamp sender : ℕ) (a : ActorId) (o : Option Frozen) → Stays (token_missed s stamp sender a o)
  token_missed_stays stamp sender a (Some copy) = still
  token_missed_stays stamp sender a None = token_hinted_stays stamp sender a (map.get s.hints a)

  token_into_stays : (stamp sender : ℕ) (a : ActorId) (l : LiveState) (number : ℕ) (t : Token) (y : Option Seat) → map.get s.live a ≡ Some l → Stays (token_into s stamp sender a l number t y)
  token_into_stays stamp sender a l number t None here = token_missed_stays stamp sender a (map.get s.moves.frozen a)
  token_into_stays stamp sender a l number t (Some y) here =
      record { now = refl; brief = inserted s.live a _ h (inlet_set l y.inp _ (h a l here)) }

  token_stays : (stamp sender : ℕ) (conn : ConnId) (a : ActorId) (number : ℕ) (t : Token) (o : Option LiveState) → map.get s.live a ≡ o → Stays (token_comes s stamp sender conn a number t o)
  token_stays stamp sender conn a number t None here = token_missed_stays stamp sender a (map.get s.moves.frozen a)
  token_stays stamp sender conn a number t (Some l) here =
      token_into_stays stamp sender a l number t (seat_of conn 0 l.actor.ins) here

  ack_at_stays : (a : ActorId) (l : LiveState) (upto : ℕ) (spot : Option Spot) → map.get s.live a ≡ Some l → Stays (ack_at s a l upto spot)
  ack_at_stays a l upto None here = still
  ack_at_stays a l upto (Some spot) here =
      record { now = refl; brief = inserted s.live a _ h (out_set l spot.out _ (h a l here)) }

  ack_stays : (conn : ConnId) (a : ActorId) (upto : ℕ) (o : Option LiveState) → map.get s.live a ≡ o → Stays (ack_comes s conn a upto o)
  ack_stays conn a upto None here = still
  ack_stays conn a upto (Some l) here = ack_at_stays a l upto (spot_of conn 0 l.actor.outs) here

  nack_at_stays : (a : ActorId) (l : LiveState) (upto : ℕ) (spot : Option Spot) → map.get s.live a ≡ Some l → Stays (nack_at s a l upto spot)
  nack_at_stays a l upto None here = still
  nack_at_stays a l upto (Some spot) here =
      record { now = refl; brief = inserted s.live a _ h (out_set l spot.out _ (h a l here)) }

  nack_stays : (conn : ConnId) (a : ActorId) (upto : ℕ) (o : Option LiveState) → map.get s.live a ≡ o → Stays (nack_comes s conn a upto o)
  nack_stays conn a upto None here = still
  nack_stays conn a upto (Some l) here = nack_at_stays a l upto (spot_of conn 0 l.actor.outs) here

  all_rewound : (a : ActorId) → AllBrief (map_values (rewound_towards a) s.live)
  all_rewound a b l is =
      by_old (map.get s.live b) refl (sym (get_changed s.live (rewound_towards a) b) ∙ is)
    where
      by_old : (o : Option LiveState) → map.get s.live b ≡ o → option_map (rewound_towards a) o ≡ Some l → WaitsBriefly s.now l
      by_old None here e = absurd (none_some l e)
      by_old (Some k) here e =
          let w = h b k here in
          subst (WaitsBriefly s.now) (same_Some (rewound_towards a k) l e) (record { due = w.due; pause = w.pause })

  -- a hint is raised
  record StateStays (u : NodeState) : Type 0 where
    now : u.now ≡ s.now
    brief : AllBrief u.live

  raised_stays : (a : ActorId) (attempt node : ℕ) (b : Bool) → StateStays (with_hint s a attempt node b)
  raised_stays a attempt node false = record { now = refl; brief = h }
  raised_stays a attempt node true = record { now = refl; brief = all_rewound a }

  hint_stays : (a : ActorId) (attempt node : ℕ) → Stays (hint s a attempt node)
  hint_stays a attempt node =
      let r = raised_stays a attempt node (is_later attempt (map.get s.hints a)) in
      record { now = r.now; brief = r.brief }

  comes_stays : (n stamp sender : ℕ) (b : Body) → BodyIsFew n b → Stays (comes s stamp sender b)
  comes_stays n stamp sender (body.Token conn a number t) few = token_stays stamp sender conn a number t (map.get s.live a) refl
  comes_stays n stamp sender (body.Ack conn a upto) few = ack_stays conn a upto (map.get s.live a) refl
  comes_stays n stamp sender (body.Nack conn a upto) few = nack_stays conn a upto (map.get s.live a) refl
  comes_stays n stamp sender (body.Located a attempt node) few = hint_stays a attempt node
  comes_stays n stamp sender (body.Transfer a attempt state) few = absurd few
  comes_stays n stamp sender (body.Verdict a attempt v) few = absurd few
  comes_stays n stamp sender (body.Cancel a attempt) few = absurd few
  comes_stays n stamp sender (body.Destroy app) few = absurd few

  -- 4. Each event

  timely : (e : Event) (d : Did) → moment_after s.now e ≡ s.now → Stays d → IsTimely s e d
  timely e d same k = record {
    moment = k.now ∙ sym same;
    brief = λ a l is. subst (λ (t : ℕ). WaitsBriefly t l) (sym k.now) (k.brief a l is);
  }

  if_timely : (e : Event) (r : Option Did) → moment_after s.now e ≡ s.now → IfSome r Stays → IfSome r (IsTimely s e)
  if_timely e None same k = tt
  if_timely e (Some d) same k = timely e d same k

  meet_stays : (node : ℕ) (attrs : Attrs) (b : Bool) → IfSome (meet s node attrs b) Stays
  meet_stays node attrs false = tt
  meet_stays node attrs true = record { now = refl; brief = h }

  tick_timely : (now : ℕ) (b : Bool) → (nat_le s.now now && nat_lt now limit) ≡ b → IfSome (tick s now b) (IsTimely s (event.Tick now))
  tick_timely now false is = tt
  tick_timely now true is = record {
    moment = refl;
    brief = λ a l here.
        let w = h a l here in
        let due = w.due in
        let later : s.now ≤ now = grind (arith, nat_tests, is) in
        record { due = omega (arith, due, later); pause = w.pause };
  }

  lose_stays : (b : Bool) → IfSome (lose s b) Stays
  lose_stays false = tt
  lose_stays true = still

  deliver_stays : (n stamp : ℕ) (f : Frame) (b : Bool) → BodyIsFew n f.body → IfSome (deliver s stamp f b) Stays
  deliver_stays n stamp f false few = tt
  deliver_stays n stamp f true few = comes_stays n stamp f.from f.body few

  attempted_timely : (n stamp : ℕ) (e : Event) → is_still e ≡ true → GotFew n (got_frame e) → IfSome (attempted s stamp e) (IsTimely s e)
  attempted_timely n stamp (event.Meet node attrs) still got = if_timely (event.Meet node attrs) _ refl (meet_stays node attrs (is_node node))
  attempted_timely n stamp (event.Tick now) still got = tick_timely now (nat_le s.now now && nat_lt now limit) refl
  attempted_timely n stamp (event.Peek a port) still got = if_timely (event.Peek a port) _ refl (peek_stays a port (map.get s.live a) refl)
  attempted_timely n stamp (event.Fire a action) still got = if_timely (event.Fire a action) _ refl (fire_stays a action (map.get s.live a) refl)
  attempted_timely n stamp (event.Pass conn) still got = if_timely (event.Pass conn) _ refl (pass_stays (outlet s conn))
  attempted_timely n stamp (event.Send conn) still got = if_timely (event.Send conn) _ refl (send_stays stamp (outlet s conn) (outlet_lives conn))
  attempted_timely n stamp (event.Rewind conn) still got = if_timely (event.Rewind conn) _ refl (rewind_stays (outlet s conn) (outlet_lives conn))
  attempted_timely n stamp (event.Lose f) still got = if_timely (event.Lose f) _ refl (lose_stays (f.to == s.spec.no))
  attempted_timely n stamp (event.Deliver f) still got = if_timely (event.Deliver f) _ refl (deliver_stays n stamp f ((f.to == s.spec.no) && nat_lt f.stamp limit) got)
  attempted_timely n stamp (event.Deploy name net) still got = absurd (cc)
  attempted_timely n stamp (event.Freeze a to) still got = absurd (cc)
  attempted_timely n stamp (event.Resend a) still got = absurd (cc)
  attempted_timely n stamp (event.Withdraw a) still got = absurd (cc)
  attempted_timely n stamp (event.Hint a attempt node) still got = absurd (cc)
  attempted_timely n stamp (event.Destroy app) still got = absurd (cc)

  bounded_timely : (stamp : ℕ) (e : Event) (d : Did) (b : Bool) → IsTimely s e d → IfSome (stamped_if stamp d b) (IsTimely s e)
  bounded_timely stamp e d false k = tt
  bounded_timely stamp e d true k = record { moment = k.moment; brief = k.brief }

  stamped_timely : (stamp : ℕ) (e : Event) (r : Option Did) → IfSome r (IsTimely s e) → IfSome (stamped stamp r) (IsTimely s e)
  stamped_timely stamp e None k = tt
  stamped_timely stamp e (Some d) k = bounded_timely stamp e d (is_bounded stamp d) k

pub waits_stay_brief : WaitsStayBrief
waits_stay_brief n s e still got h =
    stamped_timely s h (stamp_of s e) e (attempted s (stamp_of s e) e) (attempted_timely s h n (stamp_of s e) e still got)

-- 5. Along a journal

-- what a timely row leaves
record LeftTimely (s : NodeState) (e : Event) (u : NodeState) : Type 0 where
  moment : u.now ≡ moment_after s.now e
  brief : AllWaitBriefly u

next_timely : (s u : NodeState) (e : Event) (r : Option Did) (b : Bool) → IfSome r (IsTimely s e) → next_of (did_if b r) ≡ Some u → LeftTimely s e u
next_timely s u e None true timely is = absurd (none_some u is)
next_timely s u e (Some d) true timely is =
    subst (LeftTimely s e) (same_Some d.next u is) (record { moment = timely.moment; brief = timely.brief })
next_timely s u e r false timely is = absurd (none_some u is)

-- the entries are those of a run, and the frames that they get are of no move
pub record AreQuiet (n : ℕ) (entries : List Entry) : Type 0 where
  pub still : (e : Entry) → Contains entries e → is_still e.event ≡ true
  pub got : (e : Entry) → Contains entries e → GotFew n (got_frame e.event)

later_quiet : (n : ℕ) (x : Entry) (entries : List Entry) → AreQuiet n (x ∷ entries) → AreQuiet n entries
later_quiet n x entries k = record {
  still = λ e c. k.still e (suc c.0, omega (arith, c.1), c.2);
  got = λ e c. k.got e (suc c.0, omega (arith, c.1), c.2);
}

first_timely : (s u : NodeState) (e : Entry) (entries : List Entry) (r : Option NodeState) → ((t : NodeState) → r ≡ Some t → LeftTimely s e.event t) → ((t : NodeState) → AllWaitBriefly t → replay t entries ≡ Some u → EndsTimely t entries u) → option_and_then (λ next. replay next entries) r ≡ Some u → EndsTimely s (e ∷ entries) u
first_timely s u e entries None first rest is = absurd (none_some u is)
first_timely s u e entries (Some t) first rest is =
    let left = first t refl in
    let end = rest t left.brief is in
    record { moment = end.moment ∙ ap (λ (now : ℕ). moment_of now entries) left.moment; brief = end.brief }

pub timely_after : (n : ℕ) (entries : List Entry) (s u : NodeState) → AreQuiet n entries → AllWaitBriefly s → replay s entries ≡ Some u → EndsTimely s entries u
timely_after n [] s u quiet brief is =
    subst (EndsTimely s []) (same_Some s u is) (record { moment = refl; brief = brief })
timely_after n (e ∷ entries) s u quiet brief is =
    let here : Contains (e ∷ entries) e = (0, omega arith, refl) in
    let timely = waits_stay_brief n s e.event (quiet.still e here) (quiet.got e here) brief in
    first_timely s u e entries (next_of (did_at s e)) (λ t next. next_timely s t e.event (row s e.event) (e.stamp == stamp_of s e.event) timely next) (λ t b rest. timely_after n entries t u (later_quiet n e entries quiet) b rest) is
