-- What hints that are raised change, table by table.
use Rattle.std.specs.Prelude.{ℕ, ◌+◌, Bool, true, false, List, [], ◌∷◌, length, Some}
use Rattle.std.specs.FinMap as map
use Rattle.cv_token.specs.declared.identifiers.ActorId.{ActorId}
use Rattle.cv_table.specs.Order.{actor_cmp}
use Rattle.cv_table.specs.Held.{map_values}
use Rattle.cv_queue.specs.Ports.{OutView}
use Rattle.cv_protocol.specs.declared.frame.Verdict.{Verdict}
use Rattle.cv_protocol.specs.declared.moving.Frozen.{Frozen}
use Rattle.cv_protocol.specs.declared.moving.Judged.{Judged}
use Rattle.cv_protocol.specs.declared.moving.Location.{Location}
use Rattle.cv_protocol.specs.declared.state.Hint.{Hint}
use Rattle.cv_protocol.specs.Actors.{LiveState}
use Rattle.cv_protocol.specs.NodeState.{Moves, is_later, released, rewound_towards}

-- 1. Frozen copies and records

abbrev pub moves_of : map.FinMap actor_cmp Frozen → map.FinMap actor_cmp Judged → Moves
moves_of frozen judged = record { frozen = frozen; judged = judged }

-- the verdict on an attempt is kept
abbrev pub with_record : Moves → ActorId → ℕ → Verdict → Moves
with_record m a attempt v =
    record m { judged = map.insert m.judged a (record { attempt = attempt; verdict = Some v }) }

-- the copies that these hints know to be old go
abbrev pub all_released : List Hint → Moves → Moves
all_released [] m = m
all_released (h ∷ hs) m = all_released hs (released m h.actor h.attempt)

-- 2. Hints and live actors

-- where actors are: by hints, and here
pub record Places : Type 0 where
  pub hints : map.FinMap actor_cmp Location
  pub live : map.FinMap actor_cmp LiveState

abbrev pub places_of : map.FinMap actor_cmp Location → map.FinMap actor_cmp LiveState → Places
places_of hints live = record { hints = hints; live = live }

abbrev pub hinted_if : Places → Hint → Bool → Places
hinted_if p h false = p
hinted_if p h true = record {
  hints = map.insert p.hints h.actor (record { attempt = h.attempt; node = h.node });
  live = map_values (rewound_towards h.actor) p.live;
}

-- a later attempt replaces the hint, and each live producer's connections to that actor are rewound
abbrev pub hinted : Places → Hint → Places
hinted p h = hinted_if p h (is_later h.attempt (map.get p.hints h.actor))

abbrev pub all_hinted : List Hint → Places → Places
all_hinted [] p = p
all_hinted (h ∷ hs) p = all_hinted hs (hinted p h)

-- 3. Connections

-- how many readers the outports have
abbrev pub readers_in : List OutView → ℕ
readers_in [] = 0
readers_in (o ∷ outs) = length o.readers + readers_in outs
