-- The rows of one live actor that need no frame: it is read, fires, is sent from or rewound.
use Rattle.std.proofs.Common.{◌≡◌, ℕ, ◌-◌, ◌<◌, Bool, true, false, ◌==◌, ◌&&◌, List, [], ◌∷◌, Option, Some, None, refl, sym, ap, subst, ◌∙◌, arith, if◌then◌else◌}
use Rattle.std.specs.Prelude.{slice_get, slice_set, nat_lt, unwrap_or}
use Rattle.std.proofs.lemmas.Bool.{and_parts}
use Rattle.std.proofs.lemmas.Bool.Decides.{nat_tests}
use Rattle.std.proofs.lemmas.Option.{same_Some, none-some as none_some}
use Rattle.std.specs.FinMap as map
use Rattle.cv_token.specs.declared.token.Token.{Token}
use Rattle.cv_token.specs.declared.identifiers.ActorId.{ActorId}
use Rattle.cv_token.specs.declared.identifiers.ConnId.{ConnId}
use Rattle.cv_queue.specs.declared.reader.Reader.{Reader}
use Rattle.cv_queue.specs.Ports.{OutView, count_of, token_for, after_peek, after_rewind, after_sent}
use Rattle.cv_endpoint.specs.Ends.{next_of, next_number}
use Rattle.cv_protocol.specs.declared.frame.Body.TheVariants as body
use Rattle.cv_protocol.specs.declared.frame.Frame.{Frame}
use Rattle.cv_protocol.specs.declared.moving.Location.{Location}
use Rattle.cv_protocol.specs.declared.state.Inlet.{Inlet}
use Rattle.cv_protocol.specs.Actors.{Actor, LiveState}
use Rattle.cv_protocol.specs.NodeState.{NodeState}
use Rattle.cv_protocol.specs.Poll.{limit, Answer, Fired, Held, Waiting, poll, fired, all_inlets_fit, all_outs_fit, live_fits}
use Rattle.cv_protocol.specs.Rows.{Fired_action, peek, peek_by, peek_at, peek_inlet, inlet_at, fire, fire_by, fire_at, with_live, with_inlet, with_out, frame_to, Spot, Outlet, spot_of, outlet, outlet_by, outlet_here, outlet_at, send, send_to, send_away, send_number, send_token, rewind}
use Rattle.cv_handover.specs.World.{World}
use Rattle.cv_handover.specs.Meaning.{Nets, Meaning, gift_of, effect_in, fresh, fires, fires_if}
use Rattle.cv_handover.specs.Agree.{History, ActorAgrees, Agree}
use Rattle.cv_handover.proofs.Actors.{actor_inlet, actor_out}
use Rattle.cv_handover.proofs.Ends.{SpotStands, spot_stands}
use Rattle.cv_handover.proofs.Firing.{ready_there, streams_fired, kept_behind}
use Rattle.cv_handover.proofs.Goes.{Goes, GoesIfFew}
use Rattle.cv_handover.proofs.Growing.{Lengthens, outlasts_copies, sent_later, sent_one}
use Rattle.cv_handover.proofs.Living.{is_here, here_agrees, means_here, goes_live, goes_used}
use Rattle.cv_handover.proofs.Polling.{CanRead, CanFire, poll_fires, poll_holds}
use Rattle.cv_handover.proofs.Ports.{in_peek, out_follows, Follows, follows_rewind, follows_sent}

-- 1. The producer of a connection, where it lives here

pub record OutletStands (s : NodeState) (conn : ConnId) (x : Outlet) : Type 0 where
  pub live : map.get s.live x.producer ≡ Some x.live
  pub spot : SpotStands conn 0 x.live.actor.outs x.spot

outlet_at_stands : (s : NodeState) (conn : ConnId) (a : ActorId) (l : LiveState) (z : Option Spot) (x : Outlet) → map.get s.live a ≡ Some l → spot_of conn 0 l.actor.outs ≡ z → outlet_at a l z ≡ Some x → OutletStands s conn x
outlet_at_stands s conn a l None x live is e = absurd (none_some x e)
outlet_at_stands s conn a l (Some z) x live is e =
    let q : OutletStands s conn (record { producer = a; live = l; spot = z }) = record { live = live; spot = spot_stands conn 0 l.actor.outs z is } in
    subst (OutletStands s conn) (same_Some (record { producer = a; live = l; spot = z }) x e) q

outlet_here_stands : (s : NodeState) (conn : ConnId) (a : ActorId) (l : Option LiveState) (x : Outlet) → map.get s.live a ≡ l → outlet_here conn a l ≡ Some x → OutletStands s conn x
outlet_here_stands s conn a None x live e = absurd (none_some x e)
outlet_here_stands s conn a (Some l) x live e = outlet_at_stands s conn a l (spot_of conn 0 l.actor.outs) x live refl e

outlet_by_stands : (s : NodeState) (conn : ConnId) (a : Option ActorId) (x : Outlet) → outlet_by s conn a ≡ Some x → OutletStands s conn x
outlet_by_stands s conn None x e = absurd (none_some x e)
outlet_by_stands s conn (Some a) x e = outlet_here_stands s conn a (map.get s.live a) x refl e

pub outlet_stands : (s : NodeState) (conn : ConnId) (x : Outlet) → outlet s conn ≡ Some x → OutletStands s conn x
outlet_stands s conn x e = outlet_by_stands s conn (map.get s.known.producers conn) x e

-- the port stands where the actor is to change it
pub port_stands : (conn : ConnId) (outs : List OutView) (z : Spot) → SpotStands conn 0 outs z → slice_get outs z.out ≡ Some z.port
port_stands conn outs z s =
    let k : z.out ≡ s.place = omega (arith, s.placed) in
    ap (slice_get outs) k ∙ s.stands

-- an actor one of whose outports follows
pub actor_follows : (n : Nets) (m : Meaning) (a : ActorId) (x : Actor) (q : ℕ) (o p : OutView) → ActorAgrees n m a x → slice_get x.outs q ≡ Some o → Follows m o p → ActorAgrees n m a (record x { outs = slice_set x.outs q p })
actor_follows n m a x q o p g stands f = actor_out n m a x q o p g stands f.same (out_follows m o p (g.outs q o stands) f)

next_unsent : (o : OutView) (k window j : ℕ) (r : Reader) (b : Bool) → nat_lt r.sent (count_of o k) && nat_lt (r.sent - r.acked) window ≡ b → (if b then Some r.sent else None) ≡ Some j → r.sent < count_of o k
next_unsent o k window j r false is e = absurd (none_some j e)
next_unsent o k window j r true is e =
    let t = (and_parts (nat_lt r.sent (count_of o k)) (nat_lt (r.sent - r.acked) window) is).0 in
    grind (arith, nat_tests, t)

pub is_unsent : (o : OutView) (k window j : ℕ) (r : Reader) → slice_get o.readers k ≡ Some r → next_number o k window ≡ Some j → r.sent < count_of o k
is_unsent o k window j r g e =
    let f : next_of o k window (Some r) ≡ Some j = ap (next_of o k window) (sym g) ∙ e in
    next_unsent o k window j r (nat_lt r.sent (count_of o k) && nat_lt (r.sent - r.acked) window) refl f

-- an inport that is fed
inlet_there : (x : Option (Option Inlet)) (i : Inlet) → unwrap_or x None ≡ Some i → x ≡ Some (Some i)
inlet_there None i e = absurd (none_some i e)
inlet_there (Some x) i e = ap Some e

module _ (n : Nets) (w : World) (m : Meaning) (h : History) (i : ℕ) (g : Agree n w.nodes w.frames m h) where
  pub agrees_here : (a : ActorId) (l : LiveState) → map.get (w.nodes i).live a ≡ Some l → ActorAgrees n m a l.actor
  agrees_here a l e = here_agrees n m h i a l (is_here n w.nodes w.frames m h i a l g e) g.streams

  -- 2. Peek

  peek_inlet_goes : (a : ActorId) (l : LiveState) (port count : ℕ) → map.get (w.nodes i).live a ≡ Some l → CanRead l.actor port count → (x : Option Inlet) → inlet_at l port ≡ x → GoesIfFew n w m i (peek_inlet (w.nodes i) a l port count x)
  peek_inlet_goes a l port count e can None is = tt
  peek_inlet_goes a l port count e can (Some x) is =
      λ fits.
      let stands : slice_get l.actor.ins port ≡ Some (Some x) = inlet_there (slice_get l.actor.ins port) x is in
      let q = agrees_here a l e in
      let new : Inlet = record x { port = after_peek x.port count } in
      goes_used n w m h i g a l e (with_inlet l port new) refl (actor_inlet n m a l.actor port x new q stands refl (in_peek m x count (q.ins port x stands) (can.enough (Some x) stands))) [] true g.sent

  peek_at_goes : (a : ActorId) (l : LiveState) (port count : ℕ) → map.get (w.nodes i).live a ≡ Some l → CanRead l.actor port count → (b : Bool) → GoesIfFew n w m i (peek_at (w.nodes i) a l port count b)
  peek_at_goes a l port count e can false = tt
  peek_at_goes a l port count e can true = peek_inlet_goes a l port count e can (inlet_at l port) refl

  peek_by_goes : (a : ActorId) (l : LiveState) (port : ℕ) → map.get (w.nodes i).live a ≡ Some l → (x : Answer) → poll l (w.nodes i).now ≡ x → GoesIfFew n w m i (peek_by (w.nodes i) a l port x)
  peek_by_goes a l port e (Fired action) is = tt
  peek_by_goes a l port e (Held held count) is = peek_at_goes a l held count e (poll_holds l (w.nodes i).now held count is) (held == port)
  peek_by_goes a l port e (Waiting lacks) is = tt

  pub peek_goes : (a : ActorId) (port : ℕ) (l : Option LiveState) → map.get (w.nodes i).live a ≡ l → GoesIfFew n w m i (peek (w.nodes i) a port l)
  peek_goes a port None e = tt
  peek_goes a port (Some l) e = peek_by_goes a l port e (poll l (w.nodes i).now) refl

  -- 3. Fire

  lengthens_fired : (a : ActorId) (action : ℕ) → Lengthens m (fires n m a action)
  lengthens_fired a action = record {
    wrote = λ c k t e. kept_behind (m.wrote c) (gift_of (effect_in n m a action).out (fresh n a).outs c) k t e;
    got = λ c. omega arith;
  }

  fired_goes : (a : ActorId) (l : LiveState) (action : ℕ) → map.get (w.nodes i).live a ≡ Some l → CanFire l.actor action → live_fits (fired l (w.nodes i).now action) ≡ true → Goes n w m i (record { next = with_live (w.nodes i) a (fired l (w.nodes i).now action); sends = []; deed = Fired_action a action; fits = live_fits (fired l (w.nodes i).now action) })
  fired_goes a l action e can fits =
      let here = is_here n w.nodes w.frames m h i a l g e in
      let now : LiveState = fired l (w.nodes i).now action in
      let outs_fit = (and_parts (nat_lt now.due limit && nat_lt now.attempt limit && all_inlets_fit now.actor.ins) (all_outs_fit now.actor.outs) fits).1 in
      let ready = ready_there n m h.copy g.streams a l.actor action (here_agrees n m h i a l here g.streams) can in
      goes_live n w m h i g a l e now refl (fires n m a action) refl (Fired_action a action) (means_here n m i a (Fired_action a action) here.owner ∙ ap (fires_if n m a action) ready) [] (live_fits now) (streams_fired n m h.copy g.streams a l.actor action here.actor can outs_fit) (sent_later m (fires n m a action) h h w.frames (lengthens_fired a action) (outlasts_copies h h.copy) g.sent)

  fire_at_goes : (a : ActorId) (l : LiveState) (action : ℕ) → map.get (w.nodes i).live a ≡ Some l → (first : ℕ) → CanFire l.actor first → (b : Bool) → (first == action) ≡ b → GoesIfFew n w m i (fire_at (w.nodes i) a l action b)
  fire_at_goes a l action e first can false is = tt
  fire_at_goes a l action e first can true is =
      λ fits.
      let same : first ≡ action = grind (arith, nat_tests, is) in
      fired_goes a l action e (subst (CanFire l.actor) same can) fits

  fire_by_goes : (a : ActorId) (l : LiveState) (action : ℕ) → map.get (w.nodes i).live a ≡ Some l → (x : Answer) → poll l (w.nodes i).now ≡ x → GoesIfFew n w m i (fire_by (w.nodes i) a l action x)
  fire_by_goes a l action e (Fired first) is = fire_at_goes a l action e first (poll_fires l (w.nodes i).now first is) (first == action) refl
  fire_by_goes a l action e (Held port count) is = tt
  fire_by_goes a l action e (Waiting lacks) is = tt

  pub fire_goes : (a : ActorId) (action : ℕ) (l : Option LiveState) → map.get (w.nodes i).live a ≡ l → GoesIfFew n w m i (fire (w.nodes i) a action l)
  fire_goes a action None e = tt
  fire_goes a action (Some l) e = fire_by_goes a l action e (poll l (w.nodes i).now) refl

  -- 4. Send

  send_token_goes : (stamp : ℕ) (conn : ConnId) (x : Outlet) (node window k : ℕ) → OutletStands (w.nodes i) conn x → next_number x.spot.port x.spot.number window ≡ Some k → (t : Option Token) → token_for x.spot.port x.spot.number k ≡ t → GoesIfFew n w m i (send_token (w.nodes i) stamp x node k t)
  send_token_goes stamp conn x node window k o next None is = tt
  send_token_goes stamp conn x node window k o next (Some t) is =
      λ fits.
      let a : ActorId = x.producer in
      let z : Spot = x.spot in
      let q = agrees_here a x.live o.live in
      let stands = port_stands conn x.live.actor.outs z o.spot in
      let p = q.outs z.out z.port stands in
      let f = follows_sent m z.port z.number z.reader p o.spot.reads (is_unsent z.port z.number window k z.reader o.spot.reads next) in
      let says = (p.readers z.number z.reader o.spot.reads).kept k t is in
      let frame : Frame = frame_to (w.nodes i) stamp node (body.Token z.reader.conn z.reader.consumer k t) in
      goes_used n w m h i g a x.live o.live (with_out x.live z.out (after_sent z.port z.number)) refl (actor_follows n m a x.live.actor z.out z.port (after_sent z.port z.number) q stands f) (frame ∷ []) true (sent_one m h frame w.frames says g.sent)

  send_number_goes : (stamp : ℕ) (conn : ConnId) (x : Outlet) (node window : ℕ) → OutletStands (w.nodes i) conn x → (k : Option ℕ) → next_number x.spot.port x.spot.number window ≡ k → GoesIfFew n w m i (send_number (w.nodes i) stamp x node k)
  send_number_goes stamp conn x node window o None is = tt
  send_number_goes stamp conn x node window o (Some k) is = send_token_goes stamp conn x node window k o is (token_for x.spot.port x.spot.number k) refl

  send_away_goes : (stamp : ℕ) (conn : ConnId) (x : Outlet) (node : ℕ) → OutletStands (w.nodes i) conn x → (b : Bool) → GoesIfFew n w m i (send_away (w.nodes i) stamp x node b)
  send_away_goes stamp conn x node o true = tt
  send_away_goes stamp conn x node o false = send_number_goes stamp conn x node (w.nodes i).spec.window o (next_number x.spot.port x.spot.number (w.nodes i).spec.window) refl

  send_to_goes : (stamp : ℕ) (conn : ConnId) (x : Outlet) → OutletStands (w.nodes i) conn x → (t : Option Location) → GoesIfFew n w m i (send_to (w.nodes i) stamp x t)
  send_to_goes stamp conn x o None = tt
  send_to_goes stamp conn x o (Some t) = send_away_goes stamp conn x t.node o (t.node == (w.nodes i).spec.no)

  pub send_goes : (stamp : ℕ) (conn : ConnId) (x : Option Outlet) → outlet (w.nodes i) conn ≡ x → GoesIfFew n w m i (send (w.nodes i) stamp x)
  send_goes stamp conn None is = tt
  send_goes stamp conn (Some x) is = send_to_goes stamp conn x (outlet_stands (w.nodes i) conn x is) (map.get (w.nodes i).hints x.spot.reader.consumer)

  -- 5. Rewind

  pub rewind_goes : (conn : ConnId) (x : Option Outlet) → outlet (w.nodes i) conn ≡ x → GoesIfFew n w m i (rewind (w.nodes i) x)
  rewind_goes conn None is = tt
  rewind_goes conn (Some x) is =
      λ fits.
      let o = outlet_stands (w.nodes i) conn x is in
      let a : ActorId = x.producer in
      let z : Spot = x.spot in
      let q = agrees_here a x.live o.live in
      let stands = port_stands conn x.live.actor.outs z o.spot in
      let f = follows_rewind m z.port z.number (q.outs z.out z.port stands) in
      goes_used n w m h i g a x.live o.live (with_out x.live z.out (after_rewind z.port z.number)) refl (actor_follows n m a x.live.actor z.out z.port (after_rewind z.port z.number) q stands f) [] true g.sent
