-- The rows of the events that need no other node: what each asks of the state, and what it does.
use Rattle.std.specs.Prelude.{ℕ, suc, ◌+◌, Bool, true, false, not, ◌==◌, ◌&&◌, nat_lt, nat_le, if◌then◌else◌, List, [], ◌∷◌, map, filter, slice_get, slice_set, Option, Some, None, unwrap_or}
use Rattle.std.specs.List.{list_all}
use Rattle.std.specs.FinMap as map
use Rattle.cv_token.specs.declared.token.Token.{Token}
use Rattle.cv_token.specs.declared.identifiers.AppId.{AppId}
use Rattle.cv_token.specs.declared.identifiers.ActorId.{ActorId}
use Rattle.cv_token.specs.declared.identifiers.ConnId.{ConnId}
use Rattle.cv_table.specs.Order.{actor_cmp, conn_cmp, same_app, same_actor, same_conn}
use Rattle.cv_queue.specs.declared.reader.Reader.{Reader}
use Rattle.cv_queue.specs.Ports.{OutView, received, token_for, after_rewind, after_sent, after_peek}
use Rattle.cv_endpoint.specs.Ends.{next_number, to_move, out_after_move, in_after_move}
use Rattle.cv_kinds.specs.declared.network.ActorSpec.{ActorSpec}
use Rattle.cv_kinds.specs.declared.network.Connection.{Connection}
use Rattle.cv_kinds.specs.Net.{Net}
use Rattle.cv_rules.specs.declared.attrs.Attrs.{Attrs}
use Rattle.cv_protocol.specs.declared.frame.Body.{Body}
use Rattle.cv_protocol.specs.declared.frame.Body.TheVariants as body
use Rattle.cv_protocol.specs.declared.frame.Frame.{Frame}
use Rattle.cv_protocol.specs.declared.moving.Application.{Application}
use Rattle.cv_protocol.specs.declared.moving.Application.TheVariants as known
use Rattle.cv_protocol.specs.declared.moving.Frozen.{Frozen}
use Rattle.cv_protocol.specs.declared.moving.Location.{Location}
use Rattle.cv_protocol.specs.declared.state.Hint.{Hint}
use Rattle.cv_protocol.specs.declared.state.Inlet.{Inlet}
use Rattle.cv_protocol.specs.Actors.{Actor, LiveState, StateView}
use Rattle.cv_protocol.specs.Poll.{limit, Answer, Fired, Held, Waiting, poll, fired, live_fits}
use Rattle.cv_protocol.specs.Travel.{new_live, first_due, capture}
use Rattle.cv_protocol.specs.NodeState.{NodeState, is_other_known, raise}

-- 1. What a row does

-- What a row did, in one word. Who lives where, what was fired and what came follow from these words alone.
pub data Deed : Type 0 where
  Nothing : Deed
  Deployed : AppId → Net → Deed
  Used : ActorId → Deed  -- an actor here was read, sent from, rewound or acknowledged, or offered a token that it did not take
  Fired_action : ActorId → (action : ℕ) → Deed
  Passed : (producer consumer : ActorId) → ConnId → Option Token → Deed  -- both are here; the token that moved, if one did
  Received : ActorId → ConnId → Token → Deed  -- the token came into an inport here
  Froze : ActorId → (to attempt : ℕ) → Deed
  Accepted_here : ActorId → (attempt : ℕ) → Deed
  Resumed : ActorId → (attempt : ℕ) → Deed  -- the move was refused, and the actor lives here again
  Removed : ActorId → (attempt : ℕ) → Deed  -- the move was refused, and the application is destroyed here
  Destroyed_here : AppId → Deed

-- the state afterwards but for its stamp, the frames that are sent, in order, the deed, and whether each number that the
-- row makes is below the limit
pub record Did : Type 0 where
  pub next : NodeState
  pub sends : List Frame
  pub deed : Deed
  pub fits : Bool

-- the state becomes this one, and nothing else happens
abbrev pub becomes : NodeState → Did
becomes next = record { next = next; sends = []; deed = Nothing; fits = true }

-- a frame from here, with the stamp of the entry that sends it
abbrev pub frame_to : NodeState → ℕ → ℕ → Body → Frame
frame_to s stamp to body = record { from = s.spec.no; to = to; stamp = stamp; body = body }

-- nothing but a frame is sent
abbrev pub sends_alone : NodeState → Frame → Did
sends_alone s frame = record (becomes s) { sends = frame ∷ [] }

-- a live actor becomes this one
abbrev pub with_live : NodeState → ActorId → LiveState → NodeState
with_live s a l = record s { live = map.insert s.live a l }

abbrev pub uses : NodeState → ActorId → LiveState → Did
uses s a l = record (becomes (with_live s a l)) { deed = Used a }

-- a live actor with another inport, or outport, at that place
abbrev pub with_inlet : LiveState → ℕ → Inlet → LiveState
with_inlet l port i = record l { actor = record (l.actor) { ins = slice_set l.actor.ins port (Some i) } }

abbrev pub with_out : LiveState → ℕ → OutView → LiveState
with_out l port o = record l { actor = record (l.actor) { outs = slice_set l.actor.outs port o } }

-- 2. Meet, Tick

abbrev pub is_node : ℕ → Bool
is_node node = nat_le 1 node && nat_le node 64

abbrev pub meet : NodeState → ℕ → Attrs → Bool → Option Did
meet s node attrs false = None
meet s node attrs true =
    Some (becomes (record s { known = record (s.known) { nodes = map.insert s.known.nodes node attrs } }))

abbrev pub tick : NodeState → ℕ → Bool → Option Did
tick s now false = None
tick s now true = Some (becomes (record s { now = now }))

-- 3. Deploy

-- an application that is deployed here at most so often has a number
-- nodes have the numbers from 1 to this
abbrev pub most_nodes : ℕ
most_nodes = 64

abbrev pub most_window : ℕ
most_window = 64

abbrev pub most_applications : ℕ
most_applications = 4096

abbrev pub next_app : NodeState → AppId
next_app s = record { node = s.spec.no; seq = s.known.deployed + 1 }

-- the actors of a network from number `actor` on live here
abbrev pub all_live : AppId → List Connection → ℕ → ℕ → List ActorSpec → map.FinMap actor_cmp LiveState → map.FinMap actor_cmp LiveState
all_live app connections now actor [] live = live
all_live app connections now actor (spec ∷ specs) live =
    all_live app connections now (suc actor) specs (map.insert live (record { app = app; actor = actor }) (new_live app connections actor spec now))

-- they are known to live here, by the attempt 0
abbrev pub all_hinted : AppId → ℕ → ℕ → List ActorSpec → map.FinMap actor_cmp Location → map.FinMap actor_cmp Location
all_hinted app node actor [] hints = hints
all_hinted app node actor (spec ∷ specs) hints =
    all_hinted app node (suc actor) specs (map.insert hints (record { app = app; actor = actor }) (record { attempt = 0; node = node }))

-- the producers of the connections from number `place` on
abbrev pub producers_noted : AppId → ℕ → List Connection → map.FinMap conn_cmp ActorId → map.FinMap conn_cmp ActorId
producers_noted app place [] producers = producers
producers_noted app place (j ∷ connections) producers =
    producers_noted app (suc place) connections (map.insert producers (record { app = app; place = place }) (record { app = app; actor = j.from }))

abbrev pub elsewhere : AppId → ActorId → Bool
elsewhere app a = not (same_app a.app app)

-- the application's actors live here, and no others of it do or are frozen here
abbrev pub deployed_state : NodeState → List ℕ → Net → AppId → NodeState
deployed_state s name net app = record s {
  known = record (s.known) {
    apps = map.insert s.known.apps app (known.Known name net);
    deployed = s.known.deployed + 1;
    producers = producers_noted app 0 net.connections s.known.producers;
  };
  live = all_live app net.connections s.now 0 net.actors (map.retain_keys s.live (elsewhere app));
  moves = record (s.moves) { frozen = map.retain_keys s.moves.frozen (elsewhere app) };
  hints = all_hinted app s.spec.no 0 net.actors s.hints;
}

abbrev pub deploy : NodeState → List ℕ → Net → Bool → Option Did
deploy s name net false = None
deploy s name net true = Some (record {
  next = deployed_state s name net (next_app s);
  sends = [];
  deed = Deployed (next_app s) net;
  fits = list_all (λ spec. nat_lt (first_due spec s.now) limit) net.actors;
})

-- 4. Peek, Fire

-- so many tokens of a fed inport are read
abbrev pub peek_inlet : NodeState → ActorId → LiveState → ℕ → ℕ → Option Inlet → Option Did
peek_inlet s a l port count None = None
peek_inlet s a l port count (Some i) =
    Some (uses s a (with_inlet l port (record i { port = after_peek i.port count })))

abbrev pub inlet_at : LiveState → ℕ → Option Inlet
inlet_at l port = unwrap_or (slice_get l.actor.ins port) None

abbrev pub peek_at : NodeState → ActorId → LiveState → ℕ → ℕ → Bool → Option Did
peek_at s a l port count false = None
peek_at s a l port count true = peek_inlet s a l port count (inlet_at l port)

abbrev pub peek_by : NodeState → ActorId → LiveState → ℕ → Answer → Option Did
peek_by s a l port (Fired action) = None
peek_by s a l port (Held held count) = peek_at s a l held count (held == port)
peek_by s a l port (Waiting lacks) = None

abbrev pub peek : NodeState → ActorId → ℕ → Option LiveState → Option Did
peek s a port None = None
peek s a port (Some l) = peek_by s a l port (poll l s.now)

abbrev pub fire_at : NodeState → ActorId → LiveState → ℕ → Bool → Option Did
fire_at s a l action false = None
fire_at s a l action true = Some (record {
  next = with_live s a (fired l s.now action);
  sends = [];
  deed = Fired_action a action;
  fits = live_fits (fired l s.now action);
})

abbrev pub fire_by : NodeState → ActorId → LiveState → ℕ → Answer → Option Did
fire_by s a l action (Fired first) = fire_at s a l action (first == action)
fire_by s a l action (Held port count) = None
fire_by s a l action (Waiting lacks) = None

abbrev pub fire : NodeState → ActorId → ℕ → Option LiveState → Option Did
fire s a action None = None
fire s a action (Some l) = fire_by s a l action (poll l s.now)

-- 5. The ends of a connection

-- where a reader stands: which outport, the reader's number there, and the port
pub record Spot : Type 0 where
  pub out : ℕ
  pub number : ℕ
  pub reader : Reader
  pub port : OutView

-- where a fed inport stands
pub record Seat : Type 0 where
  pub inp : ℕ
  pub inlet : Inlet

-- the first reader of the connection, with its number, for those from number `number` on
abbrev pub reader_of : ConnId → ℕ → List Reader → Option (ℕ × Reader)
reader_of conn number [] = None
reader_of conn number (r ∷ rs) =
    if same_conn r.conn conn then Some (number, r) else reader_of conn (suc number) rs

abbrev pub spot_or : ℕ → OutView → Option (ℕ × Reader) → Option Spot → Option Spot
spot_or out o None later = later
spot_or out o (Some found) later =
    Some (record { out = out; number = found.0; reader = found.1; port = o })

abbrev pub spot_of : ConnId → ℕ → List OutView → Option Spot
spot_of conn out [] = None
spot_of conn out (o ∷ outs) = spot_or out o (reader_of conn 0 o.readers) (spot_of conn (suc out) outs)

-- the first inport that the connection feeds
abbrev pub seat_of : ConnId → ℕ → List (Option Inlet) → Option Seat
seat_of conn inp [] = None
seat_of conn inp (None ∷ ins) = seat_of conn (suc inp) ins
seat_of conn inp (Some i ∷ ins) =
    if same_conn i.conn conn then Some (record { inp = inp; inlet = i }) else seat_of conn (suc inp) ins

-- a live producer, and where it keeps the reader
pub record Outlet : Type 0 where
  pub producer : ActorId
  pub live : LiveState
  pub spot : Spot

abbrev pub outlet_at : ActorId → LiveState → Option Spot → Option Outlet
outlet_at a l None = None
outlet_at a l (Some spot) = Some (record { producer = a; live = l; spot = spot })

abbrev pub outlet_here : ConnId → ActorId → Option LiveState → Option Outlet
outlet_here conn a None = None
outlet_here conn a (Some l) = outlet_at a l (spot_of conn 0 l.actor.outs)

abbrev pub outlet_by : NodeState → ConnId → Option ActorId → Option Outlet
outlet_by s conn None = None
outlet_by s conn (Some a) = outlet_here conn a (map.get s.live a)

-- the connection's producer, where it lives here
abbrev pub outlet : NodeState → ConnId → Option Outlet
outlet s conn = outlet_by s conn (map.get s.known.producers conn)

-- 6. Pass: the producer's first token that is not acknowledged goes to the consumer, or is acknowledged alone

-- the producer's outport becomes this one, in the actors as the consumer left them
abbrev pub with_port_of : map.FinMap actor_cmp LiveState → ActorId → ℕ → OutView → Option LiveState → map.FinMap actor_cmp LiveState
with_port_of live a out o None = live
with_port_of live a out o (Some l) = map.insert live a (with_out l out o)

abbrev pub after_consumer : NodeState → Outlet → ActorId → LiveState → Seat → map.FinMap actor_cmp LiveState
after_consumer s x c l y = map.insert s.live c (with_inlet l y.inp (record (y.inlet) { port = in_after_move x.spot.port x.spot.number y.inlet.port }))

abbrev pub after_pass : NodeState → Outlet → ActorId → LiveState → Seat → NodeState
after_pass s x c l y = record s {
  live = with_port_of (after_consumer s x c l y) x.producer x.spot.out (out_after_move x.spot.port x.spot.number y.inlet.port) (map.get (after_consumer s x c l y) x.producer);
}

-- the token that moves, where the consumer lacks it
abbrev pub moving : Outlet → Seat → Token → Option Token
moving x y t = if nat_lt x.spot.reader.acked (received y.inlet.port) then None else Some t

abbrev pub pass_token : NodeState → Outlet → ActorId → LiveState → Seat → Option Token → Option Did
pass_token s x c l y None = None
pass_token s x c l y (Some t) = Some (record {
  next = after_pass s x c l y;
  sends = [];
  deed = Passed x.producer c x.spot.reader.conn (moving x y t);
  fits = nat_lt (received (in_after_move x.spot.port x.spot.number y.inlet.port)) limit;
})

abbrev pub pass_known : NodeState → Outlet → ActorId → LiveState → Seat → Bool → Option Did
pass_known s x c l y false = None
pass_known s x c l y true =
    pass_token s x c l y (to_move x.spot.port x.spot.number y.inlet.port)

abbrev pub pass_into : NodeState → Outlet → ActorId → LiveState → Option Seat → Option Did
pass_into s x c l None = None
pass_into s x c l (Some y) = pass_known s x c l y (nat_le x.spot.reader.acked (received y.inlet.port))

abbrev pub pass_to : NodeState → Outlet → ActorId → Option LiveState → Option Did
pass_to s x c None = None
pass_to s x c (Some l) = pass_into s x c l (seat_of x.spot.reader.conn 0 l.actor.ins)

abbrev pub pass : NodeState → Option Outlet → Option Did
pass s None = None
pass s (Some x) = pass_to s x x.spot.reader.consumer (map.get s.live x.spot.reader.consumer)

-- 7. Send, Rewind

abbrev pub send_token : NodeState → ℕ → Outlet → ℕ → ℕ → Option Token → Option Did
send_token s stamp x node n None = None
send_token s stamp x node n (Some t) =
    Some (record (uses s x.producer (with_out x.live x.spot.out (after_sent x.spot.port x.spot.number))) {
      sends = frame_to s stamp node (body.Token x.spot.reader.conn x.spot.reader.consumer n t) ∷ [];
    })

abbrev pub send_number : NodeState → ℕ → Outlet → ℕ → Option ℕ → Option Did
send_number s stamp x node None = None
send_number s stamp x node (Some n) =
    send_token s stamp x node n (token_for x.spot.port x.spot.number n)

abbrev pub send_away : NodeState → ℕ → Outlet → ℕ → Bool → Option Did
send_away s stamp x node true = None
send_away s stamp x node false =
    send_number s stamp x node (next_number x.spot.port x.spot.number s.spec.window)

abbrev pub send_to : NodeState → ℕ → Outlet → Option Location → Option Did
send_to s stamp x None = None
send_to s stamp x (Some h) = send_away s stamp x h.node (h.node == s.spec.no)

abbrev pub send : NodeState → ℕ → Option Outlet → Option Did
send s stamp None = None
send s stamp (Some x) = send_to s stamp x (map.get s.hints x.spot.reader.consumer)

abbrev pub rewind : NodeState → Option Outlet → Option Did
rewind s None = None
rewind s (Some x) =
    Some (uses s x.producer (with_out x.live x.spot.out (after_rewind x.spot.port x.spot.number)))

-- 8. Freeze, Resend, Withdraw

-- whether the actors are joined
abbrev pub feeds : ActorId → Option Inlet → Bool
feeds b None = false
feeds b (Some i) = same_actor i.producer b

abbrev pub any_feeds : ActorId → List (Option Inlet) → Bool
any_feeds b [] = false
any_feeds b (i ∷ ins) = if feeds b i then true else any_feeds b ins

abbrev pub any_reads : ActorId → List Reader → Bool
any_reads b [] = false
any_reads b (r ∷ rs) = if same_actor r.consumer b then true else any_reads b rs

abbrev pub any_is_read : ActorId → List OutView → Bool
any_is_read b [] = false
any_is_read b (o ∷ outs) = if any_reads b o.readers then true else any_is_read b outs

abbrev pub is_joined : ActorId → Actor → ActorId → Bool
is_joined a actor b =
    not (same_actor b a) && (if any_feeds b actor.ins then true else any_is_read b actor.outs)

abbrev pub hint_of : ActorId × Location → Hint
hint_of e = record { actor = e.0; attempt = e.1.attempt; node = e.1.node }

-- the hints that are kept of the other actors that are joined to this one, by rising actor
abbrev pub joined_hints : NodeState → ActorId → Actor → List Hint
joined_hints s a actor = map hint_of (filter (λ (e : ActorId × Location). is_joined a actor e.0) (map.entries s.hints))

abbrev pub captured : NodeState → ActorId → LiveState → StateView
captured s a l = capture l (joined_hints s a l.actor) s.now

-- the live actor becomes a frozen copy with the next attempt
abbrev pub frozen_state : NodeState → ActorId → LiveState → ℕ → NodeState
frozen_state s a l to = record s {
  live = map.remove s.live a;
  moves = record (s.moves) {
    frozen = map.insert s.moves.frozen a (record { state = captured s a l; attempt = l.attempt + 1; target = to });
  };
}

abbrev pub freeze_to : NodeState → ℕ → ActorId → LiveState → ℕ → Bool → Option Did
freeze_to s stamp a l to false = None
freeze_to s stamp a l to true = Some (record {
  next = frozen_state s a l to;
  sends = frame_to s stamp to (body.Transfer a (l.attempt + 1) (captured s a l)) ∷ [];
  deed = Froze a to (l.attempt + 1);
  fits = nat_lt (l.attempt + 1) limit;
})

abbrev pub freeze : NodeState → ℕ → ActorId → ℕ → Option LiveState → Option Did
freeze s stamp a to None = None
freeze s stamp a to (Some l) = freeze_to s stamp a l to (is_other_known s to)

abbrev pub resend : NodeState → ℕ → ActorId → Option Frozen → Option Did
resend s stamp a None = None
resend s stamp a (Some f) =
    Some (sends_alone s (frame_to s stamp f.target (body.Transfer a f.attempt f.state)))

abbrev pub withdraw : NodeState → ℕ → ActorId → Option Frozen → Option Did
withdraw s stamp a None = None
withdraw s stamp a (Some f) =
    Some (sends_alone s (frame_to s stamp f.target (body.Cancel a f.attempt)))

-- 9. Hint, Destroy

abbrev pub hint : NodeState → ActorId → ℕ → ℕ → Did
hint s a attempt node =
    record (becomes (raise s a attempt node)) { fits = nat_lt attempt limit }

-- the application is destroyed here, and its live actors go
abbrev pub destroyed_state : NodeState → AppId → NodeState
destroyed_state s app = record s {
  known = record (s.known) { apps = map.insert s.known.apps app known.Destroyed };
  live = map.retain_keys s.live (elsewhere app);
}

abbrev pub destroyed : NodeState → AppId → Did
destroyed s app = record (becomes (destroyed_state s app)) { deed = Destroyed_here app }

-- the other known nodes, by number
abbrev pub other_nodes : NodeState → List ℕ
other_nodes s = filter (λ node. not (node == s.spec.no)) (map.keys s.known.nodes)

abbrev pub destroy : NodeState → ℕ → AppId → Option Application → Option Did
destroy s stamp app None = None
destroy s stamp app (Some known.Destroyed) = None
destroy s stamp app (Some (known.Known name net)) =
    Some (record (destroyed s app) { sends = map (λ node. frame_to s stamp node (body.Destroy app)) (other_nodes s) })
