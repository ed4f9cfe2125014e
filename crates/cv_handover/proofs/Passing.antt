-- The row of a token that moves between two ports of one node: the consumer's port changes first, and then the producer's, which
-- may be the same actor's.
use Rattle.std.proofs.Common.{◌≡◌, inl, inr, ℕ, ◌+◌, ◌<◌, ◌≤◌, Bool, true, false, ◌&&◌, cond, List, [], ◌∷◌, length, Option, Some, None, refl, sym, ap, subst, ◌∙◌, arith, if◌then◌else◌, length-append}
use Rattle.std.specs.Prelude.{slice_get, nat_lt, nat_le, nat_eq, option_to_list}
use Rattle.std.proofs.lemmas.Bool.Decides.{nat_tests}
use Rattle.std.proofs.lemmas.Option.{same_Some, none-some as none_some}
use Rattle.std.specs.FinMap as map
use Rattle.cv_token.specs.declared.token.Token.{Token}
use Rattle.cv_token.specs.declared.identifiers.ActorId.{ActorId}
use Rattle.cv_token.specs.declared.identifiers.ConnId.{ConnId}
use Rattle.cv_table.proofs.Views.{same_actor-cases, get_inserted}
use Rattle.cv_queue.specs.declared.reader.Reader.{Reader}
use Rattle.cv_queue.specs.declared.in_port.Offered.TheVariants as offered
use Rattle.cv_queue.specs.Ports.{OutView, InView, received, answer_to, with_offered, after_offer, after_ack, token_for}
use Rattle.cv_endpoint.specs.Ends.{acked, acked_of, movable, to_move, moved_in, moved_out}
use Rattle.cv_protocol.specs.declared.frame.Frame.{Frame}
use Rattle.cv_protocol.specs.Actors.{LiveState}
use Rattle.cv_protocol.specs.NodeState.{NodeState}
use Rattle.cv_protocol.specs.Owners.{where_so}
use Rattle.cv_protocol.specs.Poll.{limit}
use Rattle.cv_protocol.specs.Rows.{Did, Passed, with_live, with_inlet, with_out, Seat, Spot, Outlet, seat_of, outlet, with_port_of, moving, pass, pass_to, pass_into, pass_known, pass_token}
use Rattle.cv_handover.specs.World.{World, at}
use Rattle.cv_handover.specs.Meaning.{Nets, Meaning, means, with_owners, comes_in}
use Rattle.cv_handover.specs.Agree.{History, Agree}
use Rattle.cv_handover.proofs.Actors.{actor_inlet}
use Rattle.cv_handover.proofs.Coming.{same_is, lengthens_arrived}
use Rattle.cv_handover.proofs.Copies.{streams_set}
use Rattle.cv_handover.proofs.Ends.{seat_stands}
use Rattle.cv_handover.proofs.Goes.{Goes, GoesIfFew, at_here, at_twice}
use Rattle.cv_handover.proofs.Growing.{outlasts_copies, sent_later}
use Rattle.cv_handover.proofs.Living.{is_here, here_agrees, agree_touched}
use Rattle.cv_handover.proofs.Standing.{is_at_true}
use Rattle.cv_handover.proofs.Ports.{follows_ack}
use Rattle.cv_handover.proofs.Streaming.{with_arrived, gets_here, nothing_comes, streams_arrived}
use Rattle.cv_handover.proofs.Touch.{with_copy}
use Rattle.cv_handover.proofs.Using.{OutletStands, outlet_stands, port_stands, actor_follows, agrees_here}

-- 1. What moves

moved_if : (i : InView) (t u : Token) (b : Bool) → nat_eq (length i.held) i.cap ≡ b → (if b then None else Some t) ≡ Some u → nat_eq (length i.held) i.cap ≡ false
moved_if i t u true is e = absurd (none_some u e)
moved_if i t u false is e = is

moved_some : (i : InView) (r : Option Token) (t : Token) → movable i r ≡ Some t → (r ≡ Some t) × (nat_eq (length i.held) i.cap ≡ false)
moved_some i None t e = absurd (none_some t e)
moved_some i (Some u) t e =
    let room = moved_if i u t (nat_eq (length i.held) i.cap) refl e in
    (ap (λ (b : Bool). if b then None else Some u) (sym room) ∙ e, room)

next_is_taken : (i : InView) (k : ℕ) → k ≡ received i → nat_eq (length i.held) i.cap ≡ false → answer_to i k ≡ offered.Taken
next_is_taken i k e room =
    let a : nat_lt k (received i) ≡ false = grind (arith, nat_tests, e) in
    let b : nat_lt (received i) k ≡ false = grind (arith, nat_tests, e) in
    λ z. if a z then offered.Old else (if b z then offered.Gap else (if room z then offered.Full else offered.Taken))

-- the world after both changes has some history
record Stays (n : Nets) (nodes : ℕ → NodeState) (frames : List Frame) (m : Meaning) : Type 0 where
  pub history : History
  pub agrees : Agree n nodes frames m history

-- the producer as it lives when the consumer's port has changed: its outports are as they were
record IsLeftThere (s : NodeState) (x : Outlet) (c : ActorId) (new : LiveState) : Type 0 where
  pub now : LiveState
  pub lives : map.get (map.insert s.live c new) x.producer ≡ Some now
  pub outs : now.actor.outs ≡ x.live.actor.outs

-- the node with these ports at both ends
abbrev both_ends : NodeState → Outlet → ActorId → LiveState → Seat → InView → OutView → NodeState
both_ends s x c l y port out =
    let live = map.insert s.live c (with_inlet l y.inp (record (y.inlet) { port = port })) in
    record s { live = with_port_of live x.producer x.spot.out out (map.get live x.producer) }

-- the reader of the connection acknowledges its tokens up to this number
abbrev acked_upto : Outlet → ℕ → OutView
acked_upto x upto = after_ack x.spot.port x.spot.number upto

-- the row that leaves these ports, and moves this token
abbrev passed : NodeState → Outlet → ActorId → LiveState → Seat → InView → OutView → Option Token → Did
passed s x c l y port out token = record {
  next = both_ends s x c l y port out;
  sends = [];
  deed = Passed x.producer c x.spot.reader.conn token;
  fits = nat_lt (received port) limit;
}

module _ (n : Nets) (w : World) (m : Meaning) (h : History) (i : ℕ) (g : Agree n w.nodes w.frames m h) (conn : ConnId) (x : Outlet) (o : OutletStands (w.nodes i) conn x) (c : ActorId) (l : LiveState) (live : map.get (w.nodes i).live c ≡ Some l) (y : Seat) (stands : slice_get l.actor.ins y.inp ≡ Some (Some y.inlet)) (same : y.inlet.conn ≡ x.spot.reader.conn) where
  -- 2. The consumer's port has changed

  left_there : (port : InView) → IsLeftThere (w.nodes i) x c (with_inlet l y.inp (record (y.inlet) { port = port }))
  left_there port =
      let new : LiveState = with_inlet l y.inp (record (y.inlet) { port = port }) in
      let e = get_inserted (w.nodes i).live c new x.producer in
      elim (same_actor-cases x.producer c) [
        | inl s ↦
            let k : Some l ≡ Some x.live = sym live ∙ ap (map.get (w.nodes i).live) (sym s.1) ∙ o.live in
            record { now = new; lives = e ∙ ap (λ (b : Bool). cond b (Some new) (map.get (w.nodes i).live x.producer)) s.0; outs = ap (λ (a : LiveState). a.actor.outs) (same_Some l x.live k) }
        | inr s ↦
            record { now = x.live; lives = e ∙ ap (λ (b : Bool). cond b (Some new) (map.get (w.nodes i).live x.producer)) s.0 ∙ o.live; outs = refl }
      ]

  -- 3. Then the producer's changes

  producer_acked : (port : InView) (v : Meaning) (f : History) (upto : ℕ) → Agree n (at w.nodes i (with_live (w.nodes i) c (with_inlet l y.inp (record (y.inlet) { port = port })))) w.frames v f → upto ≤ length (v.got x.spot.reader.conn) → Stays n (at w.nodes i (both_ends (w.nodes i) x c l y port (acked_upto x upto))) w.frames v
  producer_acked port v f upto q few =
      let s : NodeState = with_live (w.nodes i) c (with_inlet l y.inp (record (y.inlet) { port = port })) in
      let nodes : ℕ → NodeState = at w.nodes i s in
      let z : Spot = x.spot in
      let p : ActorId = x.producer in
      let t = left_there port in
      let e : nodes i ≡ s = at_here w.nodes i s in
      let lives : map.get (nodes i).live p ≡ Some t.now = ap (λ (u : NodeState). map.get u.live p) e ∙ t.lives in
      let a = here_agrees n v f i p t.now (is_here n nodes w.frames v f i p t.now q lives) q.streams in
      let there : slice_get t.now.actor.outs z.out ≡ Some z.port = ap (λ (os : List OutView). slice_get os z.out) t.outs ∙ port_stands conn x.live.actor.outs z o.spot in
      let known : (r : Reader) → slice_get z.port.readers z.number ≡ Some r → upto ≤ length (v.got r.conn) = λ r is. subst (λ (d : Reader). upto ≤ length (v.got d.conn)) (same_Some z.reader r (sym o.spot.reads ∙ is)) few in
      let b = follows_ack v z.port z.number upto (a.outs z.out z.port there) known in
      let now : LiveState = with_out t.now z.out (after_ack z.port z.number upto) in
      let u = agree_touched n nodes w.frames v f i p t.now q lives now refl v refl (streams_set n v f.copy p now.actor q.streams (actor_follows n v p t.now.actor z.out z.port (after_ack z.port z.number upto) a there b)) w.frames q.sent in
      let one : at nodes i (with_live (nodes i) p now) ≡ at w.nodes i (with_live s p now) = ap (λ (k : NodeState). at nodes i (with_live k p now)) e ∙ at_twice w.nodes i s (with_live s p now) in
      let two : both_ends (w.nodes i) x c l y port (acked_upto x upto) ≡ with_live s p now = ap (λ (r : Option LiveState). record (w.nodes i) { live = with_port_of s.live p z.out (after_ack z.port z.number upto) r }) t.lives in
      record {
        history = with_copy f p now.actor;
        agrees = subst (λ (k : ℕ → NodeState). Agree n k w.frames v (with_copy f p now.actor)) (one ∙ ap (at w.nodes i) (sym two)) u;
      }

  -- 4. The consumer has the token already, or gets it

  consumer_has : (upto : ℕ) → upto ≤ length (m.got x.spot.reader.conn) → Stays n (at w.nodes i (both_ends (w.nodes i) x c l y y.inlet.port (acked_upto x upto))) w.frames m
  consumer_has upto few =
      let q = agrees_here n w m h i g c l live in
      let new = actor_inlet n m c l.actor y.inp y.inlet y.inlet q stands refl (q.ins y.inp y.inlet stands) in
      let now : LiveState = with_inlet l y.inp y.inlet in
      let u = agree_touched n w.nodes w.frames m h i c l g live now refl m refl (streams_set n m h.copy c now.actor g.streams new) w.frames g.sent in
      producer_acked y.inlet.port m (with_copy h c now.actor) upto u few

  consumer_gets : (t : Token) (k : ℕ) → slice_get (m.wrote x.spot.reader.conn) k ≡ Some t → k ≡ received y.inlet.port → nat_eq (length y.inlet.port.held) y.inlet.port.cap ≡ false → received (with_offered y.inlet.port t offered.Taken) < limit → Stays n (at w.nodes i (both_ends (w.nodes i) x c l y (with_offered y.inlet.port t offered.Taken) (acked_upto x (k + 1)))) w.frames (comes_in m x.spot.reader.conn (t ∷ []))
  consumer_gets t k wrote next room small =
      let d : ConnId = y.inlet.conn in
      let here = is_here n w.nodes w.frames m h i c l g live in
      let a = (agrees_here n w m h i g c l live).ins y.inp y.inlet stands in
      let v : Meaning = comes_in m d (t ∷ []) in
      let now : LiveState = with_inlet l y.inp (with_arrived y.inlet t) in
      let len = length-append y.inlet.port.held (t ∷ []) in
      let number : k ≡ length (m.got d) = next ∙ a.arrived in
      let written : slice_get (m.wrote d) (length (m.got d)) ≡ Some t = ap (slice_get (m.wrote d)) (sym number) ∙ ap (λ (e : ConnId). slice_get (m.wrote e) k) same ∙ wrote in
      let free : length y.inlet.port.held ≡ y.inlet.port.cap → ⊥ = λ full. grind (arith, nat_tests, room, full) in
      let s = streams_arrived n m h.copy g.streams c l.actor here.actor y.inp y.inlet stands t written free (omega (arith, small, len)) in
      let sent = sent_later m v h h w.frames (lengthens_arrived m d (t ∷ [])) (outlasts_copies h h.copy) g.sent in
      let u = agree_touched n w.nodes w.frames m h i c l g live now refl v refl s w.frames sent in
      let got = ap length (gets_here m.got d (t ∷ [])) ∙ length-append (m.got d) (t ∷ []) in
      let few : k + 1 ≤ length (v.got d) = omega (arith, got, number) in
      let all = producer_acked (with_offered y.inlet.port t offered.Taken) v (with_copy h c now.actor) (k + 1) u (subst (λ (e : ConnId). k + 1 ≤ length (v.got e)) same few) in
      subst (λ (e : ConnId). Stays n (at w.nodes i (both_ends (w.nodes i) x c l y (with_offered y.inlet.port t offered.Taken) (acked_upto x (k + 1)))) w.frames (comes_in m e (t ∷ []))) same all

  -- 5. The row

  means_passed : (token : Option Token) → means n m i (Passed x.producer c x.spot.reader.conn token) ≡ Some (comes_in m x.spot.reader.conn (option_to_list token))
  means_passed token =
      let p = is_at_true i (m.owner x.producer) (is_here n w.nodes w.frames m h i x.producer x.live g o.live).owner in
      let q = is_at_true i (m.owner c) (is_here n w.nodes w.frames m h i c l g live).owner in
      λ z. with_owners n m (Passed x.producer c x.spot.reader.conn token) (where_so (p z && q z) m.owner)

  goes_passed : (port : InView) (out : OutView) (token : Option Token) → Stays n (at w.nodes i (both_ends (w.nodes i) x c l y port out)) w.frames (comes_in m x.spot.reader.conn (option_to_list token)) → Goes n w m i (passed (w.nodes i) x c l y port out token)
  goes_passed port out token s = record {
    meaning = comes_in m x.spot.reader.conn (option_to_list token);
    history = s.history;
    means_it = means_passed token;
    agrees = s.agrees;
  }

  -- the consumer has the token, or it is the next one and there is room
  passed_by : (t : Token) (k : ℕ) → slice_get (m.wrote x.spot.reader.conn) k ≡ Some t → k ≤ received y.inlet.port → nat_eq (length y.inlet.port.held) y.inlet.port.cap ≡ false → (b : Bool) → nat_lt k (received y.inlet.port) ≡ b → nat_lt (received (if b then y.inlet.port else after_offer y.inlet.port k t)) limit ≡ true → Goes n w m i (passed (w.nodes i) x c l y (if b then y.inlet.port else after_offer y.inlet.port k t) (acked_upto x (k + 1)) (if b then None else Some t))
  passed_by t k wrote few room true has fits =
      let a = (agrees_here n w m h i g c l live).ins y.inp y.inlet stands in
      let less : k < received y.inlet.port = grind (arith, nat_tests, has) in
      let here : length (m.got y.inlet.conn) ≡ length (m.got x.spot.reader.conn) = ap (λ (e : ConnId). length (m.got e)) same in
      let s = consumer_has (k + 1) (omega (arith, less, a.arrived, here)) in
      goes_passed y.inlet.port (acked_upto x (k + 1)) None (subst (Stays n (at w.nodes i (both_ends (w.nodes i) x c l y y.inlet.port (acked_upto x (k + 1)))) w.frames) (sym (nothing_comes m x.spot.reader.conn)) s)
  passed_by t k wrote few room false has fits =
      let least : received y.inlet.port ≤ k = grind (arith, nat_tests, has) in
      let next : k ≡ received y.inlet.port = omega (arith, few, least) in
      let e : after_offer y.inlet.port k t ≡ with_offered y.inlet.port t offered.Taken = ap (with_offered y.inlet.port t) (next_is_taken y.inlet.port k next room) in
      let f : nat_lt (received (with_offered y.inlet.port t offered.Taken)) limit ≡ true = ap (λ (p : InView). nat_lt (received p) limit) (sym e) ∙ fits in
      let small : received (with_offered y.inlet.port t offered.Taken) < limit = grind (arith, nat_tests, f) in
      let q = goes_passed (with_offered y.inlet.port t offered.Taken) (acked_upto x (k + 1)) (Some t) (consumer_gets t k wrote next room small) in
      subst (λ (p : InView). Goes n w m i (passed (w.nodes i) x c l y p (acked_upto x (k + 1)) (Some t))) (sym e) q

  pass_token_goes : x.spot.reader.acked ≤ received y.inlet.port → (t : Option Token) → to_move x.spot.port x.spot.number y.inlet.port ≡ t → GoesIfFew n w m i (pass_token (w.nodes i) x c l y t)
  pass_token_goes few None is = tt
  pass_token_goes few (Some t) is =
      λ fits.
      let z : Spot = x.spot in
      let k : ℕ = acked z.port z.number in
      let e : k ≡ z.reader.acked = ap acked_of o.spot.reads in
      let moved = moved_some y.inlet.port (token_for z.port z.number k) t is in
      let p = (agrees_here n w m h i g x.producer x.live o.live).outs z.out z.port (port_stands conn x.live.actor.outs z o.spot) in
      let wrote = (p.readers z.number z.reader o.spot.reads).kept k t moved.0 in
      let low : k ≤ received y.inlet.port = omega (arith, few, e) in
      let there : nat_lt (received (moved_in y.inlet.port k (Some t))) limit ≡ true = ap (λ (r : Option Token). nat_lt (received (moved_in y.inlet.port k r)) limit) (sym is) ∙ fits in
      let q = passed_by t k wrote low moved.1 (nat_lt k (received y.inlet.port)) refl there in
      let shown = subst (λ (j : ℕ). Goes n w m i (passed (w.nodes i) x c l y (moved_in y.inlet.port k (Some t)) (moved_out z.port z.number (Some t)) (if nat_lt j (received y.inlet.port) then None else Some t))) e q in
      subst (λ (r : Option Token). Goes n w m i (passed (w.nodes i) x c l y (moved_in y.inlet.port k r) (moved_out z.port z.number r) (moving x y t))) (sym is) shown

  pass_known_goes : (b : Bool) → nat_le x.spot.reader.acked (received y.inlet.port) ≡ b → GoesIfFew n w m i (pass_known (w.nodes i) x c l y b)
  pass_known_goes false is = tt
  pass_known_goes true is = pass_token_goes (grind (arith, nat_tests, is)) (to_move x.spot.port x.spot.number y.inlet.port) refl

module _ (n : Nets) (w : World) (m : Meaning) (h : History) (i : ℕ) (g : Agree n w.nodes w.frames m h) where
  pass_into_goes : (conn : ConnId) (x : Outlet) → OutletStands (w.nodes i) conn x → (c : ActorId) (l : LiveState) → map.get (w.nodes i).live c ≡ Some l → (y : Option Seat) → seat_of x.spot.reader.conn 0 l.actor.ins ≡ y → GoesIfFew n w m i (pass_into (w.nodes i) x c l y)
  pass_into_goes conn x o c l live None is = tt
  pass_into_goes conn x o c l live (Some y) is =
      let s = seat_stands x.spot.reader.conn 0 l.actor.ins y is in
      let p : y.inp ≡ s.place = omega (arith, s.placed) in
      pass_known_goes n w m h i g conn x o c l live y (ap (slice_get l.actor.ins) p ∙ s.stands) (same_is y.inlet.conn x.spot.reader.conn s.is_it) (nat_le x.spot.reader.acked (received y.inlet.port)) refl

  pass_to_goes : (conn : ConnId) (x : Outlet) → OutletStands (w.nodes i) conn x → (c : ActorId) (l : Option LiveState) → map.get (w.nodes i).live c ≡ l → GoesIfFew n w m i (pass_to (w.nodes i) x c l)
  pass_to_goes conn x o c None live = tt
  pass_to_goes conn x o c (Some l) live = pass_into_goes conn x o c l live (seat_of x.spot.reader.conn 0 l.actor.ins) refl

  pub pass_goes : (conn : ConnId) (x : Option Outlet) → outlet (w.nodes i) conn ≡ x → GoesIfFew n w m i (pass (w.nodes i) x)
  pass_goes conn None is = tt
  pass_goes conn (Some x) is = pass_to_goes conn x (outlet_stands (w.nodes i) conn x is) x.spot.reader.consumer (map.get (w.nodes i).live x.spot.reader.consumer) refl
