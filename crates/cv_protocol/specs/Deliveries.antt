-- The rows of a frame that comes, by what it says.
use Rattle.std.specs.Prelude.{ℕ, Bool, true, false, ◌==◌, ◌&&◌, nat_lt, nat_le, if◌then◌else◌, List, [], ◌∷◌, Option, Some, None}
use Rattle.std.specs.List.{list_all}
use Rattle.std.specs.FinMap as map
use Rattle.cv_token.specs.declared.token.Token.{Token}
use Rattle.cv_token.specs.declared.identifiers.ActorId.{ActorId}
use Rattle.cv_token.specs.declared.identifiers.ConnId.{ConnId}
use Rattle.cv_table.specs.Order.{conn_cmp}
use Rattle.cv_queue.specs.declared.reader.Reader.{Reader}
use Rattle.cv_queue.specs.declared.in_port.Offered.{Offered}
use Rattle.cv_queue.specs.declared.in_port.Offered.TheVariants as offered
use Rattle.cv_queue.specs.Ports.{OutView, received, answer_to, after_offer, after_ack}
use Rattle.cv_endpoint.specs.declared.ends.Answer.{Answer}
use Rattle.cv_endpoint.specs.declared.ends.Answer.TheVariants as answer
use Rattle.cv_endpoint.specs.Ends.{after_nack, answer_of}
use Rattle.cv_rules.specs.RuleHolds.{holds}
use Rattle.cv_protocol.specs.declared.frame.Body.{Body}
use Rattle.cv_protocol.specs.declared.frame.Body.TheVariants as body
use Rattle.cv_protocol.specs.declared.frame.Verdict.{Verdict}
use Rattle.cv_protocol.specs.declared.frame.Verdict.TheVariants as verdict
use Rattle.cv_protocol.specs.declared.moving.Frozen.{Frozen}
use Rattle.cv_protocol.specs.declared.moving.Judged.{Judged}
use Rattle.cv_protocol.specs.declared.moving.Location.{Location}
use Rattle.cv_protocol.specs.declared.state.Hint.{Hint}
use Rattle.cv_protocol.specs.Kinds.{rule_of}
use Rattle.cv_protocol.specs.Actors.{LiveState, StateView}
use Rattle.cv_protocol.specs.Poll.{limit, live_fits}
use Rattle.cv_protocol.specs.Travel.{restore}
use Rattle.cv_protocol.specs.NodeState.{NodeState, own_attrs, is_gone, raise}
use Rattle.cv_protocol.specs.Rows.{Did, Deed, Nothing, Used, Received, Accepted_here, Resumed, Removed, becomes, frame_to, sends_alone, with_live, with_inlet, with_out, uses, Seat, Spot, seat_of, spot_of}

-- 1. Token

-- what the producer is told of the token
abbrev pub told : ConnId → ActorId → Answer → Body
told conn producer (answer.Ack upto) = body.Ack conn producer upto
told conn producer (answer.Nack upto) = body.Nack conn producer upto

-- only a token that is taken comes into the inport
abbrev pub offer_deed : ActorId → ConnId → Token → Offered → Deed
offer_deed a conn t offered.Taken = Received a conn t
offer_deed a conn t offered.Old = Used a
offer_deed a conn t offered.Gap = Used a
offer_deed a conn t offered.Full = Used a

abbrev pub offer_to : NodeState → ℕ → ℕ → ActorId → LiveState → Seat → ℕ → Token → Did
offer_to s stamp sender a l y n t = record {
  next = with_live s a (with_inlet l y.inp (record (y.inlet) { port = after_offer y.inlet.port n t }));
  sends = frame_to s stamp sender (told y.inlet.conn y.inlet.producer (answer_of y.inlet.port n t)) ∷ [];
  deed = offer_deed a y.inlet.conn t (answer_to y.inlet.port n);
  fits = nat_lt (received (after_offer y.inlet.port n t)) limit;
}

-- the actor is at another node: the sender is told where
abbrev pub located : NodeState → ℕ → ℕ → ActorId → Location → Did
located s stamp sender a h = sends_alone s (frame_to s stamp sender (body.Located a h.attempt h.node))

abbrev pub located_away : NodeState → ℕ → ℕ → ActorId → Location → Bool → Did
located_away s stamp sender a h true = becomes s
located_away s stamp sender a h false = located s stamp sender a h

abbrev pub token_hinted : NodeState → ℕ → ℕ → ActorId → Option Location → Did
token_hinted s stamp sender a None = becomes s
token_hinted s stamp sender a (Some h) = located_away s stamp sender a h (h.node == s.spec.no)

-- the consumer is not here to take it: nothing while it is frozen here, else the sender is told where it is
abbrev pub token_missed : NodeState → ℕ → ℕ → ActorId → Option Frozen → Did
token_missed s stamp sender a (Some copy) = becomes s
token_missed s stamp sender a None = token_hinted s stamp sender a (map.get s.hints a)

abbrev pub token_into : NodeState → ℕ → ℕ → ActorId → LiveState → ℕ → Token → Option Seat → Did
token_into s stamp sender a l n t None = token_missed s stamp sender a (map.get s.moves.frozen a)
token_into s stamp sender a l n t (Some y) = offer_to s stamp sender a l y n t

abbrev pub token_comes : NodeState → ℕ → ℕ → ConnId → ActorId → ℕ → Token → Option LiveState → Did
token_comes s stamp sender conn a n t None = token_missed s stamp sender a (map.get s.moves.frozen a)
token_comes s stamp sender conn a n t (Some l) =
    token_into s stamp sender a l n t (seat_of conn 0 l.actor.ins)

-- 2. Ack, Nack: where the producer lives here with that reader

abbrev pub ack_at : NodeState → ActorId → LiveState → ℕ → Option Spot → Did
ack_at s a l upto None = becomes s
ack_at s a l upto (Some spot) =
    uses s a (with_out l spot.out (after_ack spot.port spot.number upto))

abbrev pub ack_comes : NodeState → ConnId → ActorId → ℕ → Option LiveState → Did
ack_comes s conn a upto None = becomes s
ack_comes s conn a upto (Some l) = ack_at s a l upto (spot_of conn 0 l.actor.outs)

abbrev pub nack_at : NodeState → ActorId → LiveState → ℕ → Option Spot → Did
nack_at s a l upto None = becomes s
nack_at s a l upto (Some spot) =
    uses s a (with_out l spot.out (after_nack spot.port spot.number upto))

abbrev pub nack_comes : NodeState → ConnId → ActorId → ℕ → Option LiveState → Did
nack_comes s conn a upto None = becomes s
nack_comes s conn a upto (Some l) = nack_at s a l upto (spot_of conn 0 l.actor.outs)

-- 3. An attempt that is not above `last`: its verdict, or where the actor is

abbrev pub old_hinted : NodeState → ℕ → ℕ → ActorId → Location → Bool → Did
old_hinted s stamp sender a h true = located s stamp sender a h
old_hinted s stamp sender a h false = becomes s

abbrev pub old_unjudged : NodeState → ℕ → ℕ → ActorId → ℕ → Option Location → Did
old_unjudged s stamp sender a attempt None = becomes s
old_unjudged s stamp sender a attempt (Some h) = old_hinted s stamp sender a h (nat_le attempt h.attempt)

abbrev pub old_judged : NodeState → ℕ → ℕ → ActorId → ℕ → Option Verdict → Did
old_judged s stamp sender a attempt None = old_unjudged s stamp sender a attempt (map.get s.hints a)
old_judged s stamp sender a attempt (Some v) =
    sends_alone s (frame_to s stamp sender (body.Verdict a attempt v))

-- the verdict of exactly this attempt
abbrev pub verdict_of : ℕ → Option Judged → Option Verdict
verdict_of attempt None = None
verdict_of attempt (Some j) = if j.attempt == attempt then j.verdict else None

abbrev pub old_attempt : NodeState → ℕ → ℕ → ActorId → ℕ → Did
old_attempt s stamp sender a attempt =
    old_judged s stamp sender a attempt (verdict_of attempt (map.get s.moves.judged a))

-- 4. Transfer

-- the first of these that applies: the application is destroyed here, this node's attributes fail the rule, as many actors
-- live here as there is room for
abbrev pub judgement : Bool → Bool → Bool → Verdict
judgement true fit room = verdict.Gone
judgement false false room = verdict.Unfit
judgement false true false = verdict.Full
judgement false true true = verdict.Accepted

abbrev pub judged_as : NodeState → ActorId → StateView → Verdict
judged_as s a state =
    judgement (is_gone s a.app) (holds (rule_of state.actor.spec) (own_attrs s)) (nat_lt (map.len s.live) s.spec.room)

abbrev pub with_verdict : NodeState → ActorId → ℕ → Verdict → NodeState
with_verdict s a attempt v = record s {
  moves = record (s.moves) { judged = map.insert s.moves.judged a (record { attempt = attempt; verdict = Some v }) };
}

-- the verdict is kept and told
abbrev pub refused : NodeState → ℕ → ℕ → ActorId → ℕ → Verdict → Did
refused s stamp sender a attempt v = record {
  next = with_verdict s a attempt v;
  sends = frame_to s stamp sender (body.Verdict a attempt v) ∷ [];
  deed = Nothing;
  fits = nat_lt attempt limit;
}

-- the connections of an outport are known to be this actor's
abbrev pub readers_noted : ActorId → List Reader → map.FinMap conn_cmp ActorId → map.FinMap conn_cmp ActorId
readers_noted a [] producers = producers
readers_noted a (r ∷ rs) producers = readers_noted a rs (map.insert producers r.conn a)

abbrev pub outs_noted : ActorId → List OutView → map.FinMap conn_cmp ActorId → map.FinMap conn_cmp ActorId
outs_noted a [] producers = producers
outs_noted a (o ∷ outs) producers = outs_noted a outs (readers_noted a o.readers producers)

abbrev pub all_raised : List Hint → NodeState → NodeState
all_raised [] s = s
all_raised (h ∷ hs) s = all_raised hs (raise s h.actor h.attempt h.node)

-- the actor lives here, by this attempt
abbrev pub arrived : NodeState → ActorId → ℕ → StateView → NodeState
arrived s a attempt state = record s {
  known = record (s.known) { producers = outs_noted a state.actor.outs s.known.producers };
  live = map.insert s.live a (restore state attempt s.now);
}

-- the record is made first, then the actor lives here, then its own hint is raised, which releases an older frozen copy, and
-- those of the state
abbrev pub accepted_state : NodeState → ActorId → ℕ → StateView → NodeState
accepted_state s a attempt state =
    all_raised state.hints (raise (arrived (with_verdict s a attempt verdict.Accepted) a attempt state) a attempt s.spec.no)

abbrev pub hints_fit : List Hint → Bool
hints_fit hints = list_all (λ (h : Hint). nat_lt h.attempt limit) hints

abbrev pub accepted : NodeState → ℕ → ℕ → ActorId → ℕ → StateView → Did
accepted s stamp sender a attempt state = record {
  next = accepted_state s a attempt state;
  sends = frame_to s stamp sender (body.Verdict a attempt verdict.Accepted) ∷ [];
  deed = Accepted_here a attempt;
  fits = live_fits (restore state attempt s.now) && hints_fit state.hints;
}

abbrev pub transfer_judged : NodeState → ℕ → ℕ → ActorId → ℕ → StateView → Verdict → Did
transfer_judged s stamp sender a attempt state verdict.Accepted = accepted s stamp sender a attempt state
transfer_judged s stamp sender a attempt state verdict.Unfit = refused s stamp sender a attempt verdict.Unfit
transfer_judged s stamp sender a attempt state verdict.Full = refused s stamp sender a attempt verdict.Full
transfer_judged s stamp sender a attempt state verdict.Gone = refused s stamp sender a attempt verdict.Gone
transfer_judged s stamp sender a attempt state verdict.Cancelled = refused s stamp sender a attempt verdict.Cancelled

abbrev pub transfer_comes : NodeState → ℕ → ℕ → ActorId → ℕ → StateView → Bool → Did
transfer_comes s stamp sender a attempt state true = old_attempt s stamp sender a attempt
transfer_comes s stamp sender a attempt state false = transfer_judged s stamp sender a attempt state (judged_as s a state)

-- 5. Cancel

abbrev pub cancel_comes : NodeState → ℕ → ℕ → ActorId → ℕ → Bool → Did
cancel_comes s stamp sender a attempt true = old_attempt s stamp sender a attempt
cancel_comes s stamp sender a attempt false = refused s stamp sender a attempt verdict.Cancelled

-- 6. Verdict: for a frozen copy of exactly that attempt

abbrev pub is_accepted : Verdict → Bool
is_accepted verdict.Accepted = true
is_accepted verdict.Unfit = false
is_accepted verdict.Full = false
is_accepted verdict.Gone = false
is_accepted verdict.Cancelled = false

abbrev pub without_frozen : NodeState → ActorId → NodeState
without_frozen s a = record s { moves = record (s.moves) { frozen = map.remove s.moves.frozen a } }

-- the actor lives here again, or goes with its application
abbrev pub resumed : NodeState → ActorId → Frozen → Bool → Did
resumed s a copy true =
    record (becomes (without_frozen s a)) { deed = Removed a copy.attempt }
resumed s a copy false = record {
  next = with_live (without_frozen s a) a (restore copy.state copy.attempt s.now);
  sends = [];
  deed = Resumed a copy.attempt;
  fits = live_fits (restore copy.state copy.attempt s.now);
}

abbrev pub verdict_by : NodeState → ActorId → Frozen → Bool → Did
verdict_by s a copy true = becomes (raise s a copy.attempt copy.target)
verdict_by s a copy false = resumed s a copy (is_gone s a.app)

abbrev pub verdict_for : NodeState → ActorId → Verdict → Frozen → Bool → Did
verdict_for s a v copy false = becomes s
verdict_for s a v copy true = verdict_by s a copy (is_accepted v)

abbrev pub verdict_comes : NodeState → ActorId → ℕ → Verdict → Option Frozen → Did
verdict_comes s a attempt v None = becomes s
verdict_comes s a attempt v (Some copy) = verdict_for s a v copy (copy.attempt == attempt)
