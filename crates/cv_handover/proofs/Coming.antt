-- The rows of the frames of a connection that come: a token, and what its producer is told.
use Rattle.std.proofs.Common.{◌≡◌, inl, inr, ℕ, ◌<◌, ◌≤◌, ◌^◌, Bool, true, false, true≢false, ◌==◌, List, [], ◌∷◌, length, Option, Some, None, refl, sym, ap, subst, ◌∙◌, arith, if◌then◌else◌, length-append}
use Rattle.std.specs.Prelude.{slice_get, nat_lt, nat_eq}
use Rattle.std.proofs.lemmas.Bool.Decides.{nat_tests}
use Rattle.std.proofs.lemmas.Option.{same_Some}
use Rattle.std.specs.FinMap as map
use Rattle.cv_token.specs.declared.token.Token.{Token}
use Rattle.cv_token.specs.declared.identifiers.ActorId.{ActorId}
use Rattle.cv_token.specs.declared.identifiers.ConnId.{ConnId}
use Rattle.cv_table.specs.Order.{same_conn}
use Rattle.cv_table.proofs.Views.{same_conn-cases}
use Rattle.cv_queue.specs.declared.reader.Reader.{Reader}
use Rattle.cv_queue.specs.declared.in_port.Offered.{Offered}
use Rattle.cv_queue.specs.declared.in_port.Offered.TheVariants as offered
use Rattle.cv_queue.specs.Ports.{OutView, InView, received, answer_to, with_offered, after_ack}
use Rattle.cv_endpoint.specs.Ends.{answer_with, after_nack}
use Rattle.cv_protocol.specs.declared.frame.Body.{Body}
use Rattle.cv_protocol.specs.declared.frame.Body.TheVariants as body
use Rattle.cv_protocol.specs.declared.frame.Frame.{Frame}
use Rattle.cv_protocol.specs.declared.moving.Frozen.{Frozen}
use Rattle.cv_protocol.specs.declared.moving.Location.{Location}
use Rattle.cv_protocol.specs.Actors.{LiveState}
use Rattle.cv_protocol.specs.NodeState.{NodeState}
use Rattle.cv_protocol.specs.Poll.{limit}
use Rattle.cv_protocol.specs.Rows.{Did, Used, Received, with_live, with_inlet, with_out, frame_to, Seat, Spot, seat_of, spot_of}
use Rattle.cv_protocol.specs.Deliveries.{told, offer_deed, located_away, token_hinted, token_missed, token_into, token_comes, ack_at, ack_comes, nack_at, nack_comes}
use Rattle.cv_handover.specs.World.{World}
use Rattle.cv_handover.specs.Meaning.{Nets, Meaning, comes_in}
use Rattle.cv_handover.specs.Agree.{History, InAgrees, SaysTrue, Agree}
use Rattle.cv_handover.proofs.Actors.{actor_inlet}
use Rattle.cv_handover.proofs.Ends.{seat_stands, SpotStands, spot_stands}
use Rattle.cv_handover.proofs.Goes.{Goes}
use Rattle.cv_handover.proofs.Growing.{Lengthens, outlasts_copies, sent_later, sent_one}
use Rattle.cv_handover.proofs.Living.{is_here, means_here, goes_live, goes_used}
use Rattle.cv_handover.proofs.Quiet.{goes_nothing, goes_located}
use Rattle.cv_handover.proofs.Ports.{follows_ack, follows_nack}
use Rattle.cv_handover.proofs.Streaming.{with_arrived, gets_here, gets_rises, streams_arrived}
use Rattle.cv_handover.proofs.Using.{port_stands, actor_follows, agrees_here}

pub same_is : (c d : ConnId) → same_conn c d ≡ true → c ≡ d
same_is c d e =
    elim (same_conn-cases c d) [ inl s ↦ s.1 | inr s ↦ absurd (true≢false (sym e ∙ s.0)) ]

-- 1. What an inport's answer says

not_old : (i : InView) (n : ℕ) (b : Bool) → nat_eq (length i.held) i.cap ≡ b → (if b then offered.Full else offered.Taken) ≡ offered.Taken → length i.held ≡ i.cap → ⊥
not_old i n true is e = λ full. cc
not_old i n false is e = λ full. grind (arith, nat_tests, is, full)

not_gap : (i : InView) (n : ℕ) (b : Bool) → nat_lt (received i) n ≡ b → (if b then offered.Gap else (if nat_eq (length i.held) i.cap then offered.Full else offered.Taken)) ≡ offered.Taken → (n ≤ received i) × (length i.held ≡ i.cap → ⊥)
not_gap i n true is e = absurd (cc)
not_gap i n false is e = (grind (arith, nat_tests, is), not_old i n (nat_eq (length i.held) i.cap) refl e)

offer_taken : (i : InView) (n : ℕ) (b : Bool) → nat_lt n (received i) ≡ b → (if b then offered.Old else (if nat_lt (received i) n then offered.Gap else (if nat_eq (length i.held) i.cap then offered.Full else offered.Taken))) ≡ offered.Taken → (n ≡ received i) × (length i.held ≡ i.cap → ⊥)
offer_taken i n true is e = absurd (cc)
offer_taken i n false is e =
    let q = not_gap i n (nat_lt (received i) n) refl e in
    let l : received i ≤ n = grind (arith, nat_tests, is) in
    (omega (arith, q.0, l), q.1)

-- a token that is taken is the next one, and there is room
pub taken_is_next : (i : InView) (n : ℕ) → answer_to i n ≡ offered.Taken → (n ≡ received i) × (length i.held ≡ i.cap → ⊥)
taken_is_next i n e = offer_taken i n (nat_lt n (received i)) refl e

pub lengthens_arrived : (m : Meaning) (c : ConnId) (more : List Token) → Lengthens m (comes_in m c more)
lengthens_arrived m c more = record { wrote = λ d i t e. e; got = gets_rises m.got c more }

-- the row of a token for which the inport has this answer
abbrev offer_as : NodeState → ℕ → ℕ → ActorId → LiveState → Seat → Token → Offered → Did
offer_as s stamp sender a l y t o = record {
  next = with_live s a (with_inlet l y.inp (record (y.inlet) { port = with_offered y.inlet.port t o }));
  sends = frame_to s stamp sender (told y.inlet.conn y.inlet.producer (answer_with (received (with_offered y.inlet.port t o)) o)) ∷ [];
  deed = offer_deed a y.inlet.conn t o;
  fits = nat_lt (received (with_offered y.inlet.port t o)) limit;
}

module _ (n : Nets) (w : World) (m : Meaning) (h : History) (i : ℕ) (g : Agree n w.nodes w.frames m h) where
  -- 2. Token

  module _ (a : ActorId) (l : LiveState) (live : map.get (w.nodes i).live a ≡ Some l) (y : Seat) (stands : slice_get l.actor.ins y.inp ≡ Some (Some y.inlet)) where
    inlet_here : InAgrees m y.inlet
    inlet_here = (agrees_here n w m h i g a l live).ins y.inp y.inlet stands

    -- the token is not taken
    offer_stays : (stamp sender : ℕ) (b : Body) (fits : Bool) → SaysTrue m h (frame_to (w.nodes i) stamp sender b) b → Goes n w m i (record { next = with_live (w.nodes i) a (with_inlet l y.inp y.inlet); sends = frame_to (w.nodes i) stamp sender b ∷ []; deed = Used a; fits = fits })
    offer_stays stamp sender b fits says =
        goes_used n w m h i g a l live (with_inlet l y.inp y.inlet) refl (actor_inlet n m a l.actor y.inp y.inlet y.inlet (agrees_here n w m h i g a l live) stands refl inlet_here) (frame_to (w.nodes i) stamp sender b ∷ []) fits (sent_one m h (frame_to (w.nodes i) stamp sender b) w.frames says g.sent)

    arrived_known : received y.inlet.port ≤ length (m.got y.inlet.conn)
    arrived_known = let e = inlet_here.arrived in omega (arith, e)

    offer_comes : (stamp sender k : ℕ) (t : Token) → k ≡ received y.inlet.port → (length y.inlet.port.held ≡ y.inlet.port.cap → ⊥) → slice_get (m.wrote y.inlet.conn) k ≡ Some t → nat_lt (received (with_offered y.inlet.port t offered.Taken)) limit ≡ true → Goes n w m i (offer_as (w.nodes i) stamp sender a l y t offered.Taken)
    offer_comes stamp sender k t next room wrote fits =
        let here = is_here n w.nodes w.frames m h i a l g live in
        let c : ConnId = y.inlet.conn in
        let v : Meaning = comes_in m c (t ∷ []) in
        let now : LiveState = with_inlet l y.inp (with_arrived y.inlet t) in
        let len = length-append y.inlet.port.held (t ∷ []) in
        let got = ap length (gets_here m.got c (t ∷ [])) ∙ length-append (m.got c) (t ∷ []) in
        let small : received y.inlet.port < 2 ^ 62 = let f : received (with_arrived y.inlet t).port < limit = grind (arith, nat_tests, fits) in omega (arith, f, len) in
        let number : k ≡ length (m.got c) = next ∙ inlet_here.arrived in
        let s = streams_arrived n m h.copy g.streams a l.actor here.actor y.inp y.inlet stands t (ap (slice_get (m.wrote c)) (sym number) ∙ wrote) room small in
        let frame : Frame = frame_to (w.nodes i) stamp sender (body.Ack c y.inlet.producer (received (with_arrived y.inlet t).port)) in
        let says : received (with_arrived y.inlet t).port ≤ length (v.got c) = omega (arith, len, got, inlet_here.arrived) in
        goes_live n w m h i g a l live now refl v refl (Received a c t) (means_here n m i a (Received a c t) here.owner) (frame ∷ []) (nat_lt (received (with_arrived y.inlet t).port) limit) s (sent_one v h frame w.frames says (sent_later m v h h w.frames (lengthens_arrived m c (t ∷ [])) (outlasts_copies h h.copy) g.sent))

    offer_goes : (stamp sender k : ℕ) (t : Token) → slice_get (m.wrote y.inlet.conn) k ≡ Some t → (o : Offered) → answer_to y.inlet.port k ≡ o → nat_lt (received (with_offered y.inlet.port t o)) limit ≡ true → Goes n w m i (offer_as (w.nodes i) stamp sender a l y t o)
    offer_goes stamp sender k t wrote offered.Taken is fits =
        let q = taken_is_next y.inlet.port k is in
        offer_comes stamp sender k t q.0 q.1 wrote fits
    offer_goes stamp sender k t wrote offered.Old is fits =
        offer_stays stamp sender (body.Ack y.inlet.conn y.inlet.producer (received y.inlet.port)) (nat_lt (received y.inlet.port) limit) arrived_known
    offer_goes stamp sender k t wrote offered.Gap is fits =
        offer_stays stamp sender (body.Nack y.inlet.conn y.inlet.producer (received y.inlet.port)) (nat_lt (received y.inlet.port) limit) arrived_known
    offer_goes stamp sender k t wrote offered.Full is fits =
        offer_stays stamp sender (body.Nack y.inlet.conn y.inlet.producer (received y.inlet.port)) (nat_lt (received y.inlet.port) limit) arrived_known

  -- the consumer is not here

  away_goes : (stamp sender : ℕ) (a : ActorId) (x : Location) (b : Bool) → Goes n w m i (located_away (w.nodes i) stamp sender a x b)
  away_goes stamp sender a x true = goes_nothing n w m h i g
  away_goes stamp sender a x false = goes_located n w m h i g stamp sender a x

  hinted_goes : (stamp sender : ℕ) (a : ActorId) (x : Option Location) → Goes n w m i (token_hinted (w.nodes i) stamp sender a x)
  hinted_goes stamp sender a None = goes_nothing n w m h i g
  hinted_goes stamp sender a (Some x) = away_goes stamp sender a x (x.node == (w.nodes i).spec.no)

  missed_goes : (stamp sender : ℕ) (a : ActorId) (f : Option Frozen) → Goes n w m i (token_missed (w.nodes i) stamp sender a f)
  missed_goes stamp sender a (Some copy) = goes_nothing n w m h i g
  missed_goes stamp sender a None = hinted_goes stamp sender a (map.get (w.nodes i).hints a)

  into_goes : (stamp sender : ℕ) (conn : ConnId) (a : ActorId) (l : LiveState) (k : ℕ) (t : Token) → map.get (w.nodes i).live a ≡ Some l → slice_get (m.wrote conn) k ≡ Some t → (y : Option Seat) → seat_of conn 0 l.actor.ins ≡ y → (token_into (w.nodes i) stamp sender a l k t y).fits ≡ true → Goes n w m i (token_into (w.nodes i) stamp sender a l k t y)
  into_goes stamp sender conn a l k t live wrote None is fits = missed_goes stamp sender a (map.get (w.nodes i).moves.frozen a)
  into_goes stamp sender conn a l k t live wrote (Some y) is fits =
      let s = seat_stands conn 0 l.actor.ins y is in
      let p : y.inp ≡ s.place = omega (arith, s.placed) in
      let stands : slice_get l.actor.ins y.inp ≡ Some (Some y.inlet) = ap (slice_get l.actor.ins) p ∙ s.stands in
      let c : y.inlet.conn ≡ conn = same_is y.inlet.conn conn s.is_it in
      let here : slice_get (m.wrote y.inlet.conn) k ≡ Some t = ap (λ (d : ConnId). slice_get (m.wrote d) k) c ∙ wrote in
      offer_goes a l live y stands stamp sender k t here (answer_to y.inlet.port k) refl fits

  -- a token of the connection comes
  pub token_goes : (stamp sender : ℕ) (conn : ConnId) (a : ActorId) (k : ℕ) (t : Token) → slice_get (m.wrote conn) k ≡ Some t → (l : Option LiveState) → map.get (w.nodes i).live a ≡ l → (token_comes (w.nodes i) stamp sender conn a k t l).fits ≡ true → Goes n w m i (token_comes (w.nodes i) stamp sender conn a k t l)
  token_goes stamp sender conn a k t wrote None live fits = missed_goes stamp sender a (map.get (w.nodes i).moves.frozen a)
  token_goes stamp sender conn a k t wrote (Some l) live fits = into_goes stamp sender conn a l k t live wrote (seat_of conn 0 l.actor.ins) refl fits

  -- 3. Ack, Nack

  upto_here : (conn : ConnId) (upto : ℕ) (outs : List OutView) (z : Spot) → SpotStands conn 0 outs z → upto ≤ length (m.got conn) → (x : Reader) → slice_get z.port.readers z.number ≡ Some x → upto ≤ length (m.got x.conn)
  upto_here conn upto outs z s few x e =
      let same : z.reader ≡ x = same_Some z.reader x (sym s.reads ∙ e) in
      let c : conn ≡ x.conn = sym (same_is z.reader.conn conn s.is_it) ∙ ap (λ (r : Reader). r.conn) same in
      subst (λ (d : ConnId). upto ≤ length (m.got d)) c few

  ack_at_goes : (conn : ConnId) (a : ActorId) (l : LiveState) (upto : ℕ) → map.get (w.nodes i).live a ≡ Some l → upto ≤ length (m.got conn) → (z : Option Spot) → spot_of conn 0 l.actor.outs ≡ z → Goes n w m i (ack_at (w.nodes i) a l upto z)
  ack_at_goes conn a l upto live few None is = goes_nothing n w m h i g
  ack_at_goes conn a l upto live few (Some z) is =
      let s = spot_stands conn 0 l.actor.outs z is in
      let q = agrees_here n w m h i g a l live in
      let stands = port_stands conn l.actor.outs z s in
      let f = follows_ack m z.port z.number upto (q.outs z.out z.port stands) (upto_here conn upto l.actor.outs z s few) in
      goes_used n w m h i g a l live (with_out l z.out (after_ack z.port z.number upto)) refl (actor_follows n m a l.actor z.out z.port (after_ack z.port z.number upto) q stands f) [] true g.sent

  -- the producer is told how many of its tokens came
  pub ack_goes : (conn : ConnId) (a : ActorId) (upto : ℕ) → upto ≤ length (m.got conn) → (l : Option LiveState) → map.get (w.nodes i).live a ≡ l → Goes n w m i (ack_comes (w.nodes i) conn a upto l)
  ack_goes conn a upto few None live = goes_nothing n w m h i g
  ack_goes conn a upto few (Some l) live = ack_at_goes conn a l upto live few (spot_of conn 0 l.actor.outs) refl

  nack_at_goes : (conn : ConnId) (a : ActorId) (l : LiveState) (upto : ℕ) → map.get (w.nodes i).live a ≡ Some l → upto ≤ length (m.got conn) → (z : Option Spot) → spot_of conn 0 l.actor.outs ≡ z → Goes n w m i (nack_at (w.nodes i) a l upto z)
  nack_at_goes conn a l upto live few None is = goes_nothing n w m h i g
  nack_at_goes conn a l upto live few (Some z) is =
      let s = spot_stands conn 0 l.actor.outs z is in
      let q = agrees_here n w m h i g a l live in
      let stands = port_stands conn l.actor.outs z s in
      let f = follows_nack m z.port z.number upto (q.outs z.out z.port stands) (upto_here conn upto l.actor.outs z s few) in
      goes_used n w m h i g a l live (with_out l z.out (after_nack z.port z.number upto)) refl (actor_follows n m a l.actor z.out z.port (after_nack z.port z.number upto) q stands f) [] true g.sent

  -- and that one was refused
  pub nack_goes : (conn : ConnId) (a : ActorId) (upto : ℕ) → upto ≤ length (m.got conn) → (l : Option LiveState) → map.get (w.nodes i).live a ≡ l → Goes n w m i (nack_comes (w.nodes i) conn a upto l)
  nack_goes conn a upto few None live = goes_nothing n w m h i g
  nack_goes conn a upto few (Some l) live = nack_at_goes conn a l upto live few (spot_of conn 0 l.actor.outs) refl
