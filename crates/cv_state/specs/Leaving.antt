-- Actors that leave.
use Rattle.std.specs.Prelude.{ℕ, List, Option}
use Rattle.std.specs.FinMap as map
use Rattle.cv_token.specs.declared.identifiers.ActorId.{ActorId}
use Rattle.cv_protocol.specs.declared.moving.Frozen.{Frozen}
use Rattle.cv_protocol.specs.declared.moving.Location.{Location}
use Rattle.cv_protocol.specs.declared.state.Hint.{Hint}
use Rattle.cv_protocol.specs.Actors.{Actor}
use Rattle.cv_protocol.specs.NodeState.{NodeState}
use Rattle.cv_protocol.specs.Rows.{hint_of, is_joined}
use Rattle.cv_state.specs.Kept.{kept, kept_at}

-- the hint of an entry, where its actor is another one and joined to this one
abbrev pub joined_at : ActorId → Actor → Option (ActorId × Location) → Option Hint
joined_at a actor e = kept_at hint_of (λ (e : ActorId × Location). is_joined a actor e.0) e

-- and those of these entries
abbrev pub joined_among : ActorId → Actor → List (ActorId × Location) → List Hint
joined_among a actor entries = kept hint_of (λ (e : ActorId × Location). is_joined a actor e.0) entries

-- the live actor became this frozen copy
abbrev pub left_state : NodeState → ActorId → Frozen → NodeState
left_state s a copy = record s {
  live = map.remove s.live a;
  moves = record (s.moves) { frozen = map.insert s.moves.frozen a copy };
}

-- a frozen copy as callers are told of it: its actor, attempt and target
abbrev pub frozen_place : ActorId × Frozen → ActorId × ℕ × ℕ
frozen_place e = (e.0, e.1.attempt, e.1.target)
