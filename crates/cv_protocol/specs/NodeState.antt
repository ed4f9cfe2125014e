-- What a node is: what it knows, who lives here, who left it, and where others are.
use Rattle.std.specs.Prelude.{ℕ, Bool, true, false, not, ◌==◌, ◌&&◌, nat_lt, nat_le, max, if◌then◌else◌, map, Option, Some, None, is_some, unwrap_or, refl}
use Rattle.std.specs.Coded.{Coded, code_by, coded×, coded_ℕ}
use Rattle.std.specs.Ordering.{nat_cmp}
use Rattle.std.specs.FinMap as map
use Rattle.cv_token.specs.declared.identifiers.AppId.{AppId}
use Rattle.cv_token.specs.contracts.identifiers.AppId as app
use Rattle.cv_token.specs.declared.identifiers.ActorId.{ActorId}
use Rattle.cv_token.specs.contracts.identifiers.ActorId as actor
use Rattle.cv_token.specs.contracts.identifiers.ConnId as conn
use Rattle.cv_table.specs.Order.{app_cmp, actor_cmp, conn_cmp, same_actor}
use Rattle.cv_table.specs.Held.{map_values}
use Rattle.cv_queue.specs.declared.reader.Reader.{Reader}
use Rattle.cv_queue.specs.Ports.{OutView}
use Rattle.cv_rules.specs.declared.attrs.NodeSpec.{NodeSpec}
use Rattle.cv_rules.specs.contracts.attrs.NodeSpec as spec
use Rattle.cv_rules.specs.declared.attrs.Attrs.{Attrs}
use Rattle.cv_rules.specs.contracts.attrs.Attrs as attrs
use Rattle.cv_protocol.specs.declared.moving.Application.{Application}
use Rattle.cv_protocol.specs.contracts.moving.Application as application
use Rattle.cv_protocol.specs.declared.moving.Application.TheVariants as known
use Rattle.cv_protocol.specs.declared.moving.Frozen.{Frozen}
use Rattle.cv_protocol.specs.contracts.moving.Frozen as frozen
use Rattle.cv_protocol.specs.declared.moving.Judged.{Judged}
use Rattle.cv_protocol.specs.contracts.moving.Judged as judged
use Rattle.cv_protocol.specs.declared.moving.Location.{Location}
use Rattle.cv_protocol.specs.contracts.moving.Location as location
use Rattle.cv_protocol.specs.Actors.{LiveState, live_code}
use Rattle.cv_protocol.specs.Travel.{rewound_reader}

-- 1. The state

-- what a node knows: the nodes, itself too, with their attributes; the applications, and how many of them were deployed here;
-- and the producer of each connection that an actor which came to live here writes to
pub record Known : Type 0 where
  pub nodes : map.FinMap nat_cmp Attrs
  pub apps : map.FinMap app_cmp Application
  pub deployed : ℕ
  pub producers : map.FinMap conn_cmp ActorId

-- the actors that are frozen here, and the greatest attempt of each actor that was judged or released here
pub record Moves : Type 0 where
  pub frozen : map.FinMap actor_cmp Frozen
  pub judged : map.FinMap actor_cmp Judged

pub record NodeState : Type 0 where
  pub spec : NodeSpec
  pub stamp : ℕ
  pub now : ℕ
  pub known : Known
  pub live : map.FinMap actor_cmp LiveState
  pub moves : Moves
  pub hints : map.FinMap actor_cmp Location

abbrev pub known_code : Coded Known
known_code =
    code_by (map.FinMap nat_cmp Attrs × (map.FinMap app_cmp Application × (ℕ × map.FinMap conn_cmp ActorId))) (coded× (map.code coded_ℕ attrs.the_row.coded) (coded× (map.code app.the_row.coded application.the_row.coded) (coded× coded_ℕ (map.code conn.the_row.coded actor.the_row.coded)))) (λ k. (k.nodes, (k.apps, (k.deployed, k.producers)))) (λ p. record { nodes = p.0; apps = p.1.0; deployed = p.1.1.0; producers = p.1.1.1 }) (λ _. refl)

abbrev pub moves_code : Coded Moves
moves_code =
    code_by (map.FinMap actor_cmp Frozen × map.FinMap actor_cmp Judged) (coded× (map.code actor.the_row.coded frozen.the_row.coded) (map.code actor.the_row.coded judged.the_row.coded)) (λ m. (m.frozen, m.judged)) (λ p. record { frozen = p.0; judged = p.1 }) (λ _. refl)

abbrev pub node_code : Coded NodeState
node_code =
    code_by (NodeSpec × (ℕ × (ℕ × (Known × (map.FinMap actor_cmp LiveState × (Moves × map.FinMap actor_cmp Location)))))) (coded× spec.the_row.coded (coded× coded_ℕ (coded× coded_ℕ (coded× known_code (coded× (map.code actor.the_row.coded live_code) (coded× moves_code (map.code actor.the_row.coded location.the_row.coded))))))) (λ s. (s.spec, (s.stamp, (s.now, (s.known, (s.live, (s.moves, s.hints))))))) (λ p. record { spec = p.0; stamp = p.1.0; now = p.1.1.0; known = p.1.1.1.0; live = p.1.1.1.1.0; moves = p.1.1.1.1.1.0; hints = p.1.1.1.1.1.1 }) (λ _. refl)

-- a node before its first entry: it knows itself
abbrev pub opening : NodeSpec → NodeState
opening spec = record {
  spec = spec;
  stamp = 0;
  now = 0;
  known = record {
    nodes = map.insert map.empty spec.no spec.attrs;
    apps = map.empty;
    deployed = 0;
    producers = map.empty;
  };
  live = map.empty;
  moves = record { frozen = map.empty; judged = map.empty };
  hints = map.empty;
}

-- 2. What a node can tell

-- the attributes that it knows of itself
abbrev pub own_attrs : NodeState → Attrs
own_attrs s = unwrap_or (map.get s.known.nodes s.spec.no) s.spec.attrs

abbrev pub is_other_known : NodeState → ℕ → Bool
is_other_known s node = not (node == s.spec.no) && is_some (map.get s.known.nodes node)

abbrev pub is_destroyed : Option Application → Bool
is_destroyed None = false
is_destroyed (Some (known.Known name net)) = false
is_destroyed (Some known.Destroyed) = true

abbrev pub is_gone : NodeState → AppId → Bool
is_gone s app = is_destroyed (map.get s.known.apps app)

-- the attempt of a record, of a live actor and of a frozen copy; 0 where there is none
abbrev pub judged_attempt : Option Judged → ℕ
judged_attempt None = 0
judged_attempt (Some j) = j.attempt

abbrev pub live_attempt : Option LiveState → ℕ
live_attempt None = 0
live_attempt (Some l) = l.attempt

abbrev pub frozen_attempt : Option Frozen → ℕ
frozen_attempt None = 0
frozen_attempt (Some f) = f.attempt

-- the greatest attempt of the actor that this node keeps
abbrev pub last : NodeState → ActorId → ℕ
last s a =
    max (judged_attempt (map.get s.moves.judged a)) (max (live_attempt (map.get s.live a)) (frozen_attempt (map.get s.moves.frozen a)))

-- 3. To raise a hint

-- a live actor whose connections to this consumer are to be sent again
abbrev pub rewound_for : ActorId → Reader → Reader
rewound_for a r = if same_actor r.consumer a then rewound_reader r else r

abbrev pub rewound_towards : ActorId → LiveState → LiveState
rewound_towards a l = record l {
  actor = record (l.actor) { outs = map (λ (o : OutView). record o { readers = map (rewound_for a) o.readers }) l.actor.outs };
}

abbrev pub is_later : ℕ → Option Location → Bool
is_later attempt None = true
is_later attempt (Some h) = nat_lt h.attempt attempt

-- a later attempt replaces the hint, and each live producer's connections to that actor are rewound
abbrev pub with_hint : NodeState → ActorId → ℕ → ℕ → Bool → NodeState
with_hint s a attempt node false = s
with_hint s a attempt node true = record s {
  hints = map.insert s.hints a (record { attempt = attempt; node = node });
  live = map_values (rewound_towards a) s.live;
}

-- a record rises to a released attempt, which has no verdict here
abbrev pub noted : map.FinMap actor_cmp Judged → ActorId → ℕ → Bool → map.FinMap actor_cmp Judged
noted records a attempt false = records
noted records a attempt true = map.insert records a (record { attempt = attempt; verdict = None })

abbrev pub released_if : Moves → ActorId → ℕ → Bool → Moves
released_if m a attempt false = m
released_if m a attempt true = record {
  frozen = map.remove m.frozen a;
  judged = noted m.judged a attempt (nat_lt (judged_attempt (map.get m.judged a)) attempt);
}

abbrev pub release_of : Moves → ActorId → ℕ → Option Frozen → Moves
release_of m a upto None = m
release_of m a upto (Some f) = released_if m a f.attempt (nat_le f.attempt upto)

-- a frozen copy of an attempt of at most `upto` goes
abbrev pub released : Moves → ActorId → ℕ → Moves
released m a upto = release_of m a upto (map.get m.frozen a)

abbrev pub with_release : NodeState → ActorId → ℕ → NodeState
with_release s a upto = record s { moves = released s.moves a upto }

-- the hint of an actor is raised: it changes where the attempt is above the kept one, and a frozen copy of an attempt
-- of at most this one goes, whether or not the hint changes
abbrev pub raise : NodeState → ActorId → ℕ → ℕ → NodeState
raise s a attempt node =
    with_release (with_hint s a attempt node (is_later attempt (map.get s.hints a))) a attempt
