-- Rewound ports, and what holds of every actor that travels.
use Rattle.std.specs.Prelude.{◌≡◌, ℕ, max, List, map, slice_set}
use Rattle.cv_token.specs.declared.identifiers.ActorId.{ActorId}
use Rattle.cv_queue.specs.declared.reader.Reader.{Reader}
use Rattle.cv_queue.specs.Ports.{OutView}
use Rattle.cv_protocol.specs.declared.state.Hint.{Hint}
use Rattle.cv_protocol.specs.Actors.{LiveState}
use Rattle.cv_protocol.specs.NodeState.{rewound_for}
use Rattle.cv_protocol.specs.Travel.{capture, restore, settled}

-- an outport whose readers at this actor are rewound
abbrev pub rewound_out_for : ActorId → OutView → OutView
rewound_out_for a o = record o { readers = map (rewound_for a) o.readers }

-- and one of which that reader is, where it is at this actor
abbrev pub IsRewoundAt : OutView → ℕ → ActorId → OutView → Reader → Type 0
IsRewoundAt o number a next r = next ≡ record o { readers = slice_set o.readers number (rewound_for a r) }

-- restored at the moment of its capture, an actor is settled and by the new attempt, and its timed action may fire as before,
-- but not in the past
abbrev pub ComesBackAsItLeft : Type 0
ComesBackAsItLeft =
    (l : LiveState) (hints : List Hint) (now attempt : ℕ) → restore (capture l hints now) attempt now ≡ record { actor = settled l.actor; due = max l.due now; attempt = attempt }
