-- Connections whose two actors live here, and what passes on them.
use Rattle.std.specs.Prelude.{ℕ, ◌+◌, ◌<◌, if◌then◌else◌, nat_le, nat_lt, length, slice_get, Option, Some, None, IsSomeAnd}
use Rattle.std.specs.Option.{option_map}
use Rattle.std.specs.FinMap as map
use Rattle.cv_token.specs.declared.identifiers.ActorId.{ActorId}
use Rattle.cv_token.specs.declared.identifiers.ConnId.{ConnId}
use Rattle.cv_token.specs.declared.token.Token.{Token}
use Rattle.cv_queue.specs.Ports.{InView, OutView, after_ack, after_offer, received}
use Rattle.cv_endpoint.specs.Ends.{acked, in_after_move, to_move}
use Rattle.cv_protocol.specs.Actors.{LiveState}
use Rattle.cv_protocol.specs.NodeState.{NodeState}
use Rattle.cv_protocol.specs.Rows.{Outlet, Seat, after_consumer, after_pass, outlet, seat_of, with_inlet, with_live, with_out}
use Rattle.cv_actor.specs.declared.finding.Spot.{Spot as Found}
use Rattle.cv_state.specs.declared.pass.Way.{Way as Told}
use Rattle.cv_state.specs.declared.pass.Passing.{Passing}
use Rattle.cv_state.specs.Outlets.{outlet_in}

-- 1. Ways

-- a connection whose producer and consumer live here, with the consumer's inport
pub record Way : Type 0 where
  pub outlet : Outlet
  pub live : LiveState
  pub seat : Seat

abbrev pub way_into : Outlet → LiveState → Option Seat → Option Way
way_into x l None = None
way_into x l (Some y) = Some (record { outlet = x; live = l; seat = y })

abbrev pub way_to : Outlet → Option LiveState → Option Way
way_to x None = None
way_to x (Some l) = way_into x l (seat_of x.spot.reader.conn 0 l.actor.ins)

abbrev pub way_from : NodeState → Option Outlet → Option Way
way_from s None = None
way_from s (Some x) = way_to x (map.get s.live x.spot.reader.consumer)

abbrev pub way_of : NodeState → ConnId → Option Way
way_of s conn = way_from s (outlet s conn)

-- as the code is told of it
abbrev pub way_in : Way → Told
way_in w = record { outlet = outlet_in w.outlet; inp = w.seat.inp }

-- 2. What passes

-- how many tokens the reader will have acknowledged and the inport received, and the token where the inport lacks it
abbrev pub passed_by : OutView → ℕ → InView → Token → Passing
passed_by o reader i t = record {
  acked = acked o reader + 1;
  received = received (in_after_move o reader i);
  token = if nat_lt (acked o reader) (received i) then None else Some t;
}

abbrev pub passing_of : OutView → ℕ → InView → Option Passing
passing_of o reader i =
    if nat_le (acked o reader) (received i) then option_map (passed_by o reader i) (to_move o reader i) else None

-- how many tokens the inport will have received
abbrev pub received_in : Passing → ℕ
received_in p = p.received

abbrev pub passing_on : Option Way → Option Passing
passing_on None = None
passing_on (Some w) = passing_of w.outlet.spot.port w.outlet.spot.number w.seat.inlet.port

-- 3. What is done

-- the token comes into the inport
abbrev pub given_at : NodeState → Option Way → Token → NodeState
given_at s None t = s
given_at s (Some w) t = with_live s w.outlet.spot.reader.consumer (with_inlet w.live w.seat.inp (record (w.seat.inlet) { port = after_offer w.seat.inlet.port (received w.seat.inlet.port) t }))

-- the consumer's inport as what passes leaves it
abbrev pub received_at : NodeState → Option Way → NodeState
received_at s None = s
received_at s (Some w) = record s { live = after_consumer s w.outlet w.outlet.spot.reader.consumer w.live w.seat }

-- the actor has this reader
abbrev pub HasReader : Found → Option LiveState → Type 0
HasReader f None = ⊥
HasReader f (Some l) = IsSomeAnd (slice_get l.actor.outs f.out) (λ o. f.number < length o.readers)

-- the reader acknowledges its tokens up to this number
abbrev pub acked_out : Found → ℕ → LiveState → Option OutView → LiveState
acked_out f upto l None = l
acked_out f upto l (Some o) = with_out l f.out (after_ack o f.number upto)

abbrev pub acked_at : NodeState → ActorId → Found → ℕ → Option LiveState → NodeState
acked_at s a f upto None = s
acked_at s a f upto (Some l) = with_live s a (acked_out f upto l (slice_get l.actor.outs f.out))

-- the token is passed on
abbrev pub passed_at : NodeState → Option Way → NodeState
passed_at s None = s
passed_at s (Some w) = after_pass s w.outlet w.outlet.spot.reader.consumer w.live w.seat
