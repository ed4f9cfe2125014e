-- The ends of a connection that are here, as the code is told of them.
use Rattle.std.specs.Prelude.{ℕ, ◌==◌, if◌then◌else◌, is_some, Option, Some, None}
use Rattle.std.specs.Option.{option_map}
use Rattle.cv_token.specs.declared.token.Token.{Token}
use Rattle.cv_queue.specs.Ports.{OutView, after_rewind, after_sent, token_for}
use Rattle.cv_endpoint.specs.Ends.{next_number}
use Rattle.cv_protocol.specs.declared.moving.Location.{Location}
use Rattle.cv_protocol.specs.declared.refusal.StepRefusal.{StepRefusal}
use Rattle.cv_protocol.specs.declared.refusal.StepRefusal.TheVariants as refusal
use Rattle.cv_protocol.specs.NodeState.{NodeState}
use Rattle.cv_protocol.specs.Rows.{Outlet, Spot, with_live, with_out}
use Rattle.cv_actor.specs.Ends.{spot_in}
use Rattle.cv_state.specs.declared.outlet.Outlet.{Outlet as Found}

-- a producer, and where it keeps the reader
abbrev pub outlet_in : Outlet → Found
outlet_in x = record { producer = x.producer; spot = spot_in x.spot }

-- why no producer lives here, by the reader of one that is frozen here
abbrev pub gone : Option Spot → StepRefusal
gone left = if is_some left then refusal.Moving else refusal.NotHere

-- the other node where an actor was made live
abbrev pub away_by : ℕ → Option Location → Option ℕ
away_by here None = None
away_by here (Some h) = if h.node == here then None else Some h.node

-- the token of that number, with it
abbrev pub numbered : OutView → ℕ → Option ℕ → Option (ℕ × Token)
numbered o reader None = None
numbered o reader (Some n) = option_map (λ t. (n, t)) (token_for o reader n)

-- the token that goes to the reader next
abbrev pub next_of : OutView → ℕ → ℕ → Option (ℕ × Token)
next_of o reader window = numbered o reader (next_number o reader window)

abbrev pub next_at : ℕ → Option Outlet → Option (ℕ × Token)
next_at window None = None
next_at window (Some x) = next_of x.spot.port x.spot.number window

-- the state once it counts as sent, and once what the reader has not acknowledged is to be sent again
abbrev pub sent_at : NodeState → Option Outlet → NodeState
sent_at s None = s
sent_at s (Some x) = with_live s x.producer (with_out x.live x.spot.out (after_sent x.spot.port x.spot.number))

abbrev pub rewound_at : NodeState → Option Outlet → NodeState
rewound_at s None = s
rewound_at s (Some x) = with_live s x.producer (with_out x.live x.spot.out (after_rewind x.spot.port x.spot.number))
