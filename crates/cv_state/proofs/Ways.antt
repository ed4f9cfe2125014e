-- Connections whose two actors live here, and the row Pass.
use Rattle.std.proofs.Common.{◌≡◌, ℕ, ◌+◌, ◌<◌, ◌&&◌, ◌||◌, nat_le, nat_lt, Bool, true, false, cond, if◌then◌else◌, List, [], length, slice_get, slice_set, Option, Some, None, refl, ap, sym, ◌∙◌, subst, ◌⊎◌, inl, inr}
use Rattle.std.proofs.lemmas.Option.{slice_get_within}
use Rattle.std.specs.Prelude.{IsSomeAnd}
use Rattle.std.specs.Option.{option_map, unwrap_or}
use Rattle.std.specs.FinMap as map
use Rattle.cv_token.specs.declared.identifiers.ActorId.{ActorId}
use Rattle.cv_token.specs.declared.identifiers.ConnId.{ConnId}
use Rattle.cv_token.specs.declared.token.Token.{Token}
use Rattle.cv_table.specs.Order.{actor_cmp, same_actor}
use Rattle.cv_table.proofs.Views.{get_inserted, insert_same, same_actor-cases}
use Rattle.cv_queue.specs.Ports.{InView, OutView, after_ack, after_offer, received}
use Rattle.cv_endpoint.specs.Ends.{acked, acked_of, in_after_move, moved_in, moved_out, out_after_move, to_move}
use Rattle.cv_protocol.specs.declared.event.Event.TheVariants as event
use Rattle.cv_protocol.specs.declared.event.Sent.TheVariants as sent
use Rattle.cv_protocol.specs.declared.refusal.StepRefusal.{StepRefusal}
use Rattle.cv_protocol.specs.declared.refusal.StepRefusal.TheVariants as refusal
use Rattle.cv_protocol.specs.declared.state.Inlet.{Inlet}
use Rattle.cv_protocol.specs.Actors.{LiveState}
use Rattle.cv_protocol.specs.Poll.{limit}
use Rattle.cv_protocol.specs.NodeState.{NodeState}
use Rattle.cv_protocol.specs.Rows.{Did, Outlet, Passed, Seat, Spot, after_consumer, after_pass, inlet_at, moving, outlet as outlet_of, pass, pass_into, pass_known, pass_to, pass_token, seat_of, with_inlet, with_out, with_port_of}
use Rattle.cv_protocol.specs.NodeRow.{cause_of, consumer_by, first_cause, is_absent, is_moving, is_bounded, last_cause, row, spent_unless, spot_left, whereabouts}
use Rattle.cv_actor.specs.Ends.{spot_in}
use Rattle.cv_actor.specs.Lends.{refilled, with_inport}
use Rattle.cv_actor.proofs.Found.{put_back}
use Rattle.cv_state.specs.declared.outlet.Outlet.{Outlet as Found}
use Rattle.cv_state.specs.declared.pass.Passing.{Passing}
use Rattle.cv_state.specs.declared.pass.Way.{Way as Told}
use Rattle.cv_state.specs.Outlets.{outlet_in}
use Rattle.cv_state.specs.Steps.{LeadsTo}
use Rattle.cv_state.specs.Ways.{Way, acked_at, acked_out, given_at, HasReader, passed_at, passed_by, passing_of, passing_on, received_at, received_in, way_from, way_in, way_into, way_of, way_to}
use Rattle.cv_state.proofs.Ends.{Stands}
use Rattle.cv_state.proofs.Local.{leads, spent}
use Rattle.cv_state.proofs.Outlets.{Has, has}
use Rattle.cv_state.proofs.Seats.{sits}

-- 1. Ways that the code was told

-- what is known of a way as the code was told of it
pub record IsWayTold (s : NodeState) (conn : ConnId) (f : Told) : Type 0 where
  pub way : Way
  pub there : way_of s conn ≡ Some way
  pub is : f ≡ way_in way
  pub outlet : outlet_of s conn ≡ Some way.outlet
  pub lives : map.get s.live way.outlet.spot.reader.consumer ≡ Some way.live
  pub seat : seat_of way.outlet.spot.reader.conn 0 way.live.actor.ins ≡ Some way.seat
  pub sits : slice_get way.live.actor.ins way.seat.inp ≡ Some (Some way.seat.inlet)

leads_into : (s : NodeState) (conn : ConnId) (f : Told) (x : Outlet) (l : LiveState) (y : Option Seat) → way_of s conn ≡ way_into x l y → outlet_of s conn ≡ Some x → map.get s.live x.spot.reader.consumer ≡ Some l → seat_of x.spot.reader.conn 0 l.actor.ins ≡ y → Some f ≡ option_map way_in (way_into x l y) → IsWayTold s conn f
leads_into s conn f x l None there outlet lives seat e = absurd (cc)
leads_into s conn f x l (Some y) there outlet lives seat e =
    let w : Way = record { outlet = x; live = l; seat = y } in
    let same : f ≡ way_in w = cc in
    record { way = w; there = there; is = same; outlet = outlet; lives = lives; seat = seat; sits = sits x.spot.reader.conn l.actor.ins y seat }

leads_at : (s : NodeState) (conn : ConnId) (f : Told) (x : Outlet) (l : Option LiveState) → way_of s conn ≡ way_to x l → outlet_of s conn ≡ Some x → map.get s.live x.spot.reader.consumer ≡ l → Some f ≡ option_map way_in (way_to x l) → IsWayTold s conn f
leads_at s conn f x None there outlet lives e = absurd (cc)
leads_at s conn f x (Some l) there outlet lives e = leads_into s conn f x l (seat_of x.spot.reader.conn 0 l.actor.ins) there outlet lives refl e

leads_by : (s : NodeState) (conn : ConnId) (f : Told) (x : Option Outlet) → way_of s conn ≡ way_from s x → outlet_of s conn ≡ x → Some f ≡ option_map way_in (way_from s x) → IsWayTold s conn f
leads_by s conn f None there outlet e = absurd (cc)
leads_by s conn f (Some x) there outlet e = leads_at s conn f x (map.get s.live x.spot.reader.consumer) there outlet refl e

pub leads_on : (s : NodeState) (conn : ConnId) (f : Told) → Some f ≡ option_map way_in (way_of s conn) → IsWayTold s conn f
leads_on s conn f e = leads_by s conn f (outlet_of s conn) refl refl e

-- its outlet
pub outlet_told : (s : NodeState) (conn : ConnId) (f : Told) → IsWayTold s conn f → Has s conn f.outlet
outlet_told s conn f h =
    has s conn f.outlet (ap (λ (g : Told). Some g.outlet) h.is ∙ sym (ap (option_map outlet_in) h.outlet))

-- the consumer's inport as the code found it
pub record Seated (w : Way) (f : Told) (l : LiveState) : Type 0 where
  pub live : l ≡ w.live
  pub inlet : inlet_at l f.inp ≡ Some w.seat.inlet

pub seated_there : (s : NodeState) (conn : ConnId) (f : Told) (h : IsWayTold s conn f) (l : LiveState) → Some l ≡ map.get s.live f.outlet.spot.reader.consumer → Seated h.way f l
seated_there s conn f h l found =
    let lives : Some l ≡ Some h.way.live = found ∙ ap (λ (g : Told). map.get s.live g.outlet.spot.reader.consumer) h.is ∙ h.lives in
    let live : l ≡ h.way.live = cc in
    record {
      live = live;
      inlet = (λ i. inlet_at (live i) (h.is i).inp) ∙ ap (λ (o : Option (Option Inlet)). unwrap_or o None) h.sits;
    }

pub not_unfed : (w : Way) (f : Told) (l : LiveState) → Seated w f l → None ≡ option_map (λ (i : Inlet). i.port) (inlet_at l f.inp) → ⊥
not_unfed w f l h none = let same : None ≡ Some w.seat.inlet.port = none ∙ ap (option_map (λ (i : Inlet). i.port)) h.inlet in absurd (cc)

pub port_found : (w : Way) (f : Told) (l : LiveState) (i : InView) → Seated w f l → Some i ≡ option_map (λ (i : Inlet). i.port) (inlet_at l f.inp) → i ≡ w.seat.inlet.port
port_found w f l i h is = let same : Some i ≡ Some w.seat.inlet.port = is ∙ ap (option_map (λ (i : Inlet). i.port)) h.inlet in cc

-- the state once the inport was written
pub given_is : (s : NodeState) (conn : ConnId) (f : Told) (h : IsWayTold s conn f) (l : LiveState) (i p : InView) (t : Token) → Seated h.way f l → i ≡ h.way.seat.inlet.port → p ≡ after_offer i (received i) t → record s { live = map.insert s.live f.outlet.spot.reader.consumer (with_inport l f.inp p) } ≡ given_at s (way_of s conn) t
given_is s conn f h l i p t seated port is =
    ap (λ (q : InView). record s { live = map.insert s.live f.outlet.spot.reader.consumer (with_inport l f.inp q) }) is
    ∙ (λ j. record s { live = map.insert s.live (h.is j).outlet.spot.reader.consumer (record (seated.live j) { actor = record ((seated.live j).actor) { ins = slice_set (seated.live j).actor.ins (h.is j).inp (refilled (after_offer (port j) (received (port j)) t) (seated.inlet j)) } }) })
    ∙ ap (λ (w : Option Way). given_at s w t) (sym h.there)

-- what passes between the ports that the code found
pub passing_is : (s : NodeState) (conn : ConnId) (f : Told) (h : IsWayTold s conn f) (o : OutView) (i : InView) → o ≡ (outlet_told s conn f h).outlet.spot.port → i ≡ h.way.seat.inlet.port → passing_of o f.outlet.spot.number i ≡ passing_on (way_of s conn)
passing_is s conn f h o i out inp =
    let g = outlet_told s conn f h in
    let one : Some g.outlet ≡ Some h.way.outlet = sym g.there ∙ h.outlet in
    let same : g.outlet ≡ h.way.outlet = cc in
    (λ j. passing_of ((out ∙ ap (λ (x : Outlet). x.spot.port) same) j) (h.is j).outlet.spot.number (inp j))
    ∙ ap passing_on (sym h.there)

-- 2. What passes

-- what is known of what passes
record Passes (o : OutView) (reader : ℕ) (i : InView) (p : Passing) : Type 0 where
  token : Token
  moves : to_move o reader i ≡ Some token
  is : p ≡ passed_by o reader i token
  known : nat_le (acked o reader) (received i) ≡ true

passes_by : (o : OutView) (reader : ℕ) (i : InView) (p : Passing) (b : Bool) (t : Option Token) → nat_le (acked o reader) (received i) ≡ b → to_move o reader i ≡ t → (if b then option_map (passed_by o reader i) t else None) ≡ Some p → Passes o reader i p
passes_by o reader i p false t known moves e = absurd (cc)
passes_by o reader i p true None known moves e = absurd (cc)
passes_by o reader i p true (Some t) known moves e =
    let same : p ≡ passed_by o reader i t = cc in record { token = t; moves = moves; is = same; known = known }

passes : (o : OutView) (reader : ℕ) (i : InView) (p : Passing) → passing_of o reader i ≡ Some p → Passes o reader i p
passes o reader i p e = passes_by o reader i p (nat_le (acked o reader) (received i)) (to_move o reader i) refl refl e

-- what passes on the way
way_passes : (s : NodeState) (conn : ConnId) (f : Told) (h : IsWayTold s conn f) (p : Passing) → Some p ≡ passing_on (way_of s conn) → Passes h.way.outlet.spot.port h.way.outlet.spot.number h.way.seat.inlet.port p
way_passes s conn f h p there =
    passes h.way.outlet.spot.port h.way.outlet.spot.number h.way.seat.inlet.port p (ap passing_on (sym h.there) ∙ sym there)

-- 3. What is done

-- the producer's actor once the consumer's inport was written
record Still (m : map.FinMap actor_cmp LiveState) (x : Outlet) : Type 0 where
  live : LiveState
  there : map.get m x.producer ≡ Some live
  outs : live.actor.outs ≡ x.live.actor.outs

still_by : (m : map.FinMap actor_cmp LiveState) (x : Outlet) (c : ActorId) (l : LiveState) (y : Seat) (i : Inlet) → map.get m x.producer ≡ Some x.live → map.get m c ≡ Some l → ((same_actor x.producer c ≡ true) × (x.producer ≡ c)) ⊎ ((same_actor x.producer c ≡ false) × ((x.producer ≡ c) → ⊥)) → Still (map.insert m c (with_inlet l y.inp i)) x
still_by m x c l y i produces consumes (inl same) =
    let one : Some l ≡ Some x.live = sym consumes ∙ ap (map.get m) (sym same.1) ∙ produces in
    let alike : l ≡ x.live = cc in
    record {
      live = with_inlet l y.inp i;
      there = get_inserted m c (with_inlet l y.inp i) x.producer ∙ ap (λ b. cond b (Some (with_inlet l y.inp i)) (map.get m x.producer)) same.0;
      outs = ap (λ (k : LiveState). k.actor.outs) alike;
    }
still_by m x c l y i produces consumes (inr apart) =
    record {
      live = x.live;
      there = get_inserted m c (with_inlet l y.inp i) x.producer ∙ ap (λ b. cond b (Some (with_inlet l y.inp i)) (map.get m x.producer)) apart.0 ∙ produces;
      outs = refl;
    }

-- what the way's outlet and consumer are
produces : (s : NodeState) (conn : ConnId) (f : Told) (h : IsWayTold s conn f) → map.get s.live h.way.outlet.producer ≡ Some h.way.outlet.live
produces s conn f h =
    let g = outlet_told s conn f h in
    let one : Some g.outlet ≡ Some h.way.outlet = sym g.there ∙ h.outlet in
    let same : g.outlet ≡ h.way.outlet = cc in
    let lives : map.get s.live g.outlet.producer ≡ Some g.outlet.live = ap (λ (k : Found). map.get s.live k.producer) (sym g.is) ∙ g.lives in
    subst (λ (x : Outlet). map.get s.live x.producer ≡ Some x.live) same lives

stands_there : (s : NodeState) (conn : ConnId) (f : Told) (h : IsWayTold s conn f) → Stands h.way.outlet.live.actor.outs h.way.outlet.spot
stands_there s conn f h =
    let g = outlet_told s conn f h in
    let one : Some g.outlet ≡ Some h.way.outlet = sym g.there ∙ h.outlet in
    let same : g.outlet ≡ h.way.outlet = cc in
    subst (λ (x : Outlet). Stands x.live.actor.outs x.spot) same g.stands

-- an inlet that is put back
same_inlet : (l : LiveState) (y : Seat) → slice_get l.actor.ins y.inp ≡ Some (Some y.inlet) → with_inlet l y.inp y.inlet ≡ l
same_inlet l y sits = ap (λ (ins : List (Option Inlet)). record l { actor = record (l.actor) { ins = ins } }) (put_back l.actor.ins y.inp (Some y.inlet) sits)

-- the inport after a token passed
kept_by : (i : InView) (n : ℕ) (t : Token) → nat_lt n (received i) ≡ true → moved_in i n (Some t) ≡ i
kept_by i n t e = ap (λ b. if b then i else after_offer i n t) e

-- the actors once the consumer was written
abbrev written : NodeState → Way → map.FinMap actor_cmp LiveState
written s w = after_consumer s w.outlet w.outlet.spot.reader.consumer w.live w.seat

-- where the inport has the token, nothing is written to it
unwritten : (s : NodeState) (w : Way) (t : Token) → map.get s.live w.outlet.spot.reader.consumer ≡ Some w.live → slice_get w.live.actor.ins w.seat.inp ≡ Some (Some w.seat.inlet) → to_move w.outlet.spot.port w.outlet.spot.number w.seat.inlet.port ≡ Some t → nat_lt (acked w.outlet.spot.port w.outlet.spot.number) (received w.seat.inlet.port) ≡ true → written s w ≡ s.live
unwritten s w t lives sits moves had =
    let o = w.outlet.spot.port in
    let k = w.outlet.spot.number in
    let i = w.seat.inlet.port in
    let c = w.outlet.spot.reader.consumer in
    let kept : in_after_move o k i ≡ i = ap (moved_in i (acked o k)) moves ∙ kept_by i (acked o k) t had in
    ap (λ (j : InView). map.insert s.live c (with_inlet w.live w.seat.inp (record (w.seat.inlet) { port = j }))) kept
    ∙ ap (map.insert s.live c) (same_inlet w.live w.seat sits)
    ∙ insert_same s.live c w.live lives

-- the token of what passes, by whether the inport lacks it
lacks_none : (b : Bool) (t : Token) → (if b then None else Some t) ≡ None → b ≡ true
lacks_none true t e = refl
lacks_none false t e = absurd (cc)

pub received_had : (s : NodeState) (conn : ConnId) (f : Told) (p : Passing) → Some f ≡ option_map way_in (way_of s conn) → Some p ≡ passing_on (way_of s conn) → p.token ≡ None → s ≡ received_at s (way_of s conn)
received_had s conn f p told there none =
    let h = leads_on s conn f told in
    let q = way_passes s conn f h p there in
    let had = lacks_none _ q.token (ap (λ (r : Passing). r.token) (sym q.is) ∙ none) in
    ap (λ (m : map.FinMap actor_cmp LiveState). record s { live = m }) (sym (unwritten s h.way q.token h.lives h.sits q.moves had)) ∙ ap (received_at s) (sym h.there)

-- the producer's actor then
still_there : (s : NodeState) (conn : ConnId) (f : Told) (h : IsWayTold s conn f) → Still (written s h.way) h.way.outlet
still_there s conn f h =
    let w = h.way in
    let x = w.outlet in
    still_by s.live x x.spot.reader.consumer w.live w.seat _ (produces s conn f h) h.lives (same_actor-cases x.producer x.spot.reader.consumer)

port_then : (s : NodeState) (conn : ConnId) (f : Told) (h : IsWayTold s conn f) → slice_get (still_there s conn f h).live.actor.outs h.way.outlet.spot.out ≡ Some h.way.outlet.spot.port
port_then s conn f h =
    ap (λ (outs : List OutView). slice_get outs h.way.outlet.spot.out) (still_there s conn f h).outs ∙ (stands_there s conn f h).port

pub has_reader : (s one : NodeState) (conn : ConnId) (f : Told) → Some f ≡ option_map way_in (way_of s conn) → one ≡ received_at s (way_of s conn) → HasReader f.outlet.spot (map.get one.live f.outlet.producer)
has_reader s one conn f told is =
    let h = leads_on s conn f told in
    let x = h.way.outlet in
    let wrote : one ≡ record s { live = written s h.way } = is ∙ ap (received_at s) h.there in
    let there : map.get one.live f.outlet.producer ≡ Some (still_there s conn f h).live = (λ i. map.get (wrote i).live (h.is i).outlet.producer) ∙ (still_there s conn f h).there in
    let within : x.spot.number < length x.spot.port.readers = slice_get_within x.spot.port.readers x.spot.number x.spot.reader (stands_there s conn f h).reader in
    let held : IsSomeAnd (slice_get (still_there s conn f h).live.actor.outs x.spot.out) (λ o. x.spot.number < length o.readers) = subst (λ (o : Option OutView). IsSomeAnd o (λ o. x.spot.number < length o.readers)) (sym (port_then s conn f h)) within in
    subst (λ (l : Option LiveState). HasReader f.outlet.spot l) (sym there) (subst (λ (g : Told). HasReader g.outlet.spot (Some (still_there s conn f h).live)) (sym h.is) held)

pub passed_on : (s one two : NodeState) (conn : ConnId) (f : Told) (p : Passing) → Some f ≡ option_map way_in (way_of s conn) → Some p ≡ passing_on (way_of s conn) → one ≡ received_at s (way_of s conn) → two ≡ acked_at one f.outlet.producer f.outlet.spot p.acked (map.get one.live f.outlet.producer) → two ≡ passed_at s (way_of s conn)
passed_on s one two conn f p told there is done =
    let h = leads_on s conn f told in
    let q = way_passes s conn f h p there in
    let x = h.way.outlet in
    let o = x.spot.port in
    let k = x.spot.number in
    let i = h.way.seat.inlet.port in
    let m = written s h.way in
    let l = (still_there s conn f h).live in
    let wrote : one ≡ record s { live = m } = is ∙ ap (received_at s) h.there in
    let acked_is : p.acked ≡ acked o k + 1 = ap (λ (r : Passing). r.acked) q.is in
    let out_is : out_after_move o k i ≡ after_ack o k (acked o k + 1) = ap (moved_out o k) q.moves in
    done
    ∙ (λ j. acked_at (wrote j) (h.is j).outlet.producer (h.is j).outlet.spot (acked_is j) (map.get (wrote j).live (h.is j).outlet.producer))
    ∙ ap (acked_at (record s { live = m }) x.producer (spot_in x.spot) (acked o k + 1)) (still_there s conn f h).there
    ∙ ap (λ (port : Option OutView). record s { live = map.insert m x.producer (acked_out (spot_in x.spot) (acked o k + 1) l port) }) (port_then s conn f h)
    ∙ ap (λ (port : OutView). record s { live = map.insert m x.producer (with_out l x.spot.out port) }) (sym out_is)
    ∙ ap (λ (there : Option LiveState). record s { live = with_port_of m x.producer x.spot.out (out_after_move o k i) there }) (sym (still_there s conn f h).there)
    ∙ ap (passed_at s) (sym h.there)

-- 4. The row

abbrev pass_cause : NodeState → ConnId → Option Outlet → Option Spot → Option StepRefusal
pass_cause s conn x left =
    first_cause (is_absent (whereabouts x left) || is_absent (consumer_by s x left)) (is_moving (whereabouts x left) || is_moving (consumer_by s x left)) false (last_cause (s.stamp + 1) (event.Pass conn) (pass s x))

-- the producer lives here: the cause by the consumer
abbrev consumer_cause : NodeState → ConnId → Outlet → Option LiveState → Option StepRefusal
consumer_cause s conn x l =
    let f = map.get s.moves.frozen x.spot.reader.consumer in
    first_cause (false || is_absent (whereabouts l f)) (false || is_moving (whereabouts l f)) false (last_cause (s.stamp + 1) (event.Pass conn) (pass_to s x x.spot.reader.consumer l))

by_consumer : (s : NodeState) (conn : ConnId) (x : Outlet) (l : Option LiveState) → outlet_of s conn ≡ Some x → map.get s.live x.spot.reader.consumer ≡ l → cause_of s (event.Pass conn) ≡ consumer_cause s conn x l
by_consumer s conn x l there lives =
    ap (λ (x : Option Outlet). pass_cause s conn x (spot_left s conn (map.get s.known.producers conn))) there
    ∙ ap (consumer_cause s conn x) lives

-- the row by the way
abbrev way_pass : NodeState → Way → Bool → Option Did
way_pass s w b = pass_known s w.outlet w.outlet.spot.reader.consumer w.live w.seat b

-- what the reader acknowledged, as its port tells it
acked_there : (s : NodeState) (conn : ConnId) (f : Told) (h : IsWayTold s conn f) → h.way.outlet.spot.reader.acked ≡ acked h.way.outlet.spot.port h.way.outlet.spot.number
acked_there s conn f h =
    let g = outlet_told s conn f h in
    let one : Some g.outlet ≡ Some h.way.outlet = sym g.there ∙ h.outlet in
    let same : g.outlet ≡ h.way.outlet = cc in
    subst (λ (x : Outlet). x.spot.reader.acked ≡ acked x.spot.port x.spot.number) same (ap acked_of (sym g.stands.reader))

by_way : (s : NodeState) (conn : ConnId) (f : Told) (h : IsWayTold s conn f) → pass s (outlet_of s conn) ≡ way_pass s h.way (nat_le (acked h.way.outlet.spot.port h.way.outlet.spot.number) (received h.way.seat.inlet.port))
by_way s conn f h =
    let w = h.way in
    let x = w.outlet in
    ap (pass s) h.outlet
    ∙ ap (pass_to s x x.spot.reader.consumer) h.lives
    ∙ ap (pass_into s x x.spot.reader.consumer w.live) h.seat
    ∙ ap (λ (n : ℕ). way_pass s w (nat_le n (received w.seat.inlet.port))) (acked_there s conn f h)

cause_by_way : (s : NodeState) (conn : ConnId) (f : Told) (h : IsWayTold s conn f) → cause_of s (event.Pass conn) ≡ last_cause (s.stamp + 1) (event.Pass conn) (pass s (outlet_of s conn))
cause_by_way s conn f h =
    let x = h.way.outlet in
    by_consumer s conn x (Some h.way.live) h.outlet h.lives
    ∙ ap (last_cause (s.stamp + 1) (event.Pass conn)) (ap (pass_to s x x.spot.reader.consumer) (sym h.lives) ∙ ap (pass s) (sym h.outlet))

nothing_by : (s : NodeState) (w : Way) (b : Bool) (t : Option Token) → to_move w.outlet.spot.port w.outlet.spot.number w.seat.inlet.port ≡ t → (if b then option_map (passed_by w.outlet.spot.port w.outlet.spot.number w.seat.inlet.port) t else None) ≡ None → way_pass s w b ≡ None
nothing_by s w false t moves e = refl
nothing_by s w true None moves e = ap (pass_token s w.outlet w.outlet.spot.reader.consumer w.live w.seat) moves
nothing_by s w true (Some t) moves e = absurd (cc)

pub pass_idle : (s : NodeState) (conn : ConnId) (f : Told) → Some f ≡ option_map way_in (way_of s conn) → None ≡ passing_on (way_of s conn) → cause_of s (event.Pass conn) ≡ Some refusal.NotEnabled
pass_idle s conn f told none =
    let h = leads_on s conn f told in
    let w = h.way in
    let idle = ap passing_on (sym h.there) ∙ sym none in
    cause_by_way s conn f h
    ∙ ap (last_cause (s.stamp + 1) (event.Pass conn)) (by_way s conn f h ∙ nothing_by s w _ (to_move w.outlet.spot.port w.outlet.spot.number w.seat.inlet.port) refl idle)

-- the row where something passes
abbrev pass_did : NodeState → Way → Token → Did
pass_did s w t = record {
  next = after_pass s w.outlet w.outlet.spot.reader.consumer w.live w.seat;
  sends = [];
  deed = Passed w.outlet.producer w.outlet.spot.reader.consumer w.outlet.spot.reader.conn (moving w.outlet w.seat t);
  fits = nat_lt (received (in_after_move w.outlet.spot.port w.outlet.spot.number w.seat.inlet.port)) limit;
}

does_pass : (s : NodeState) (conn : ConnId) (f : Told) (h : IsWayTold s conn f) (p : Passing) (q : Passes h.way.outlet.spot.port h.way.outlet.spot.number h.way.seat.inlet.port p) → pass s (outlet_of s conn) ≡ Some (pass_did s h.way q.token)
does_pass s conn f h p q =
    let w = h.way in
    by_way s conn f h
    ∙ ap (way_pass s w) q.known
    ∙ ap (pass_token s w.outlet w.outlet.spot.reader.consumer w.live w.seat) q.moves

-- whether the numbers of the row are below the limit
bounded_by : (s : NodeState) (conn : ConnId) (f : Told) (h : IsWayTold s conn f) (p : Passing) (q : Passes h.way.outlet.spot.port h.way.outlet.spot.number h.way.seat.inlet.port p) (b : Bool) → nat_lt p.received limit && nat_lt (s.stamp + 1) limit ≡ b → is_bounded (s.stamp + 1) (pass_did s h.way q.token) ≡ b
bounded_by s conn f h p q b e = ap (λ (r : Passing). nat_lt r.received limit && nat_lt (s.stamp + 1) limit) (sym q.is) ∙ e

-- it is refused where a number is spent, and else not
pub pass_decided : (s : NodeState) (conn : ConnId) (f : Told) (p : Passing) → Some f ≡ option_map way_in (way_of s conn) → Some p ≡ passing_on (way_of s conn) → cause_of s (event.Pass conn) ≡ spent_unless (nat_lt p.received limit && nat_lt (s.stamp + 1) limit)
pass_decided s conn f p told there =
    let h = leads_on s conn f told in
    let q = way_passes s conn f h p there in
    cause_by_way s conn f h
    ∙ ap (last_cause (s.stamp + 1) (event.Pass conn)) (does_pass s conn f h p q)
    ∙ ap spent_unless (bounded_by s conn f h p q _ refl)

pub pass_spent : (s : NodeState) (conn : ConnId) (f : Told) (p : Passing) → Some f ≡ option_map way_in (way_of s conn) → Some p ≡ passing_on (way_of s conn) → nat_lt p.received limit && nat_lt (s.stamp + 1) limit ≡ false → cause_of s (event.Pass conn) ≡ Some refusal.StampSpent
pass_spent s conn f p told there late = pass_decided s conn f p told there ∙ spent _ late

-- what is told of what passes
pub none_passes : (o : Option Passing) → None ≡ option_map received_in o → None ≡ o
none_passes None none = refl
none_passes (Some p) none = absurd (cc)

pub one_passes : (o : Option Passing) (n : ℕ) → Some n ≡ option_map received_in o → (p : Passing) × (Some p ≡ o) × (n ≡ p.received)
one_passes None n some = absurd (cc)
one_passes (Some p) n some = (p, refl, let same : n ≡ p.received = cc in same)

pub pass_leads : (s : NodeState) (conn : ConnId) (f : Told) (p : Passing) (next : NodeState) → Some f ≡ option_map way_in (way_of s conn) → Some p ≡ passing_on (way_of s conn) → nat_lt p.received limit && nat_lt (s.stamp + 1) limit ≡ true → next ≡ record (passed_at s (way_of s conn)) { stamp = (passed_at s (way_of s conn)).stamp + 1 } → LeadsTo (row s (event.Pass conn)) next sent.Nothing
pass_leads s conn f p next told there early is =
    let h = leads_on s conn f told in
    let q = way_passes s conn f h p there in
    let same = is ∙ ap (λ (w : Option Way). record (passed_at s w) { stamp = (passed_at s w).stamp + 1 }) h.there in
    leads s (event.Pass conn) (pass_did s h.way q.token) next (does_pass s conn f h p q) (bounded_by s conn f h p q true early) same refl
