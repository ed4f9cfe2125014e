-- How an actor comes to live, leaves and comes to live again.
use Rattle.std.specs.Prelude.{ℕ, zero, suc, ◌+◌, ◌-◌, Bool, true, false, ◌==◌, ◌&&◌, if◌then◌else◌, List, [], ◌∷◌, map, Option, Some, None}
use Rattle.cv_token.specs.declared.identifiers.AppId.{AppId}
use Rattle.cv_kinds.specs.declared.network.ActorSpec.{ActorSpec}
use Rattle.cv_kinds.specs.declared.network.Connection.{Connection}
use Rattle.cv_queue.specs.declared.reader.Reader.{Reader}
use Rattle.cv_queue.specs.declared.reader.Subscription.{Subscription}
use Rattle.cv_queue.specs.Ports.{OutView, new_out, new_in, after_cancel}
use Rattle.cv_protocol.specs.declared.state.Hint.{Hint}
use Rattle.cv_protocol.specs.declared.state.Inlet.{Inlet}
use Rattle.cv_kinds.specs.KindRow.{row_of}
use Rattle.cv_protocol.specs.Actors.{Actor, LiveState, StateView}

-- a port holds at most this many tokens
abbrev pub queue_length : ℕ
queue_length = 4

-- 1. The start

-- the connection that feeds an inport, for the connections from number `place` on
abbrev pub inlet_of : AppId → ℕ → List Connection → ℕ → ℕ → Option Inlet
inlet_of app place [] actor port = None
inlet_of app place (j ∷ connections) actor port =
    if (j.to == actor) && (j.inp == port)
    then
    Some (record {
      conn = record { app = app; place = place };
      producer = record { app = app; actor = j.from };
      port = new_in queue_length;
    })
    else inlet_of app (suc place) connections actor port

abbrev pub added_if : {X : Type 0} → Bool → X → List X → List X
added_if true x xs = x ∷ xs
added_if false x xs = xs

-- the readers of an outport, by rising connection
abbrev pub readers_of : AppId → ℕ → List Connection → ℕ → ℕ → List Subscription
readers_of app place [] actor port = []
readers_of app place (j ∷ connections) actor port =
    added_if ((j.from == actor) && (j.out == port)) (record {
      conn = record { app = app; place = place };
      consumer = record { app = app; actor = j.to };
      acked = 0;
    }) (readers_of app (suc place) connections actor port)

-- so many inports from number `port` on, and so many outports
abbrev pub inlets_of : AppId → List Connection → ℕ → ℕ → ℕ → List (Option Inlet)
inlets_of app connections actor port zero = []
inlets_of app connections actor port (suc count) =
    inlet_of app 0 connections actor port ∷ inlets_of app connections actor (suc port) count

abbrev pub outs_of : AppId → List Connection → ℕ → ℕ → ℕ → List OutView
outs_of app connections actor port zero = []
outs_of app connections actor port (suc count) =
    new_out queue_length (readers_of app 0 connections actor port) ∷ outs_of app connections actor (suc port) count

-- an actor of a network at the start: the slots of its row, and empty ports
abbrev pub new_actor : AppId → List Connection → ℕ → ActorSpec → Actor
new_actor app connections actor spec = record {
  id = record { app = app; actor = actor };
  spec = spec;
  slots = (row_of spec.kind).start spec.args;
  ins = inlets_of app connections actor 0 (row_of spec.kind).inports;
  outs = outs_of app connections actor 0 (row_of spec.kind).outports;
}

abbrev pub first_due : ActorSpec → ℕ → ℕ
first_due spec now = now + (row_of spec.kind).pause spec.args

abbrev pub new_live : AppId → List Connection → ℕ → ActorSpec → ℕ → LiveState
new_live app connections actor spec now =
    record { actor = new_actor app connections actor spec; due = first_due spec now; attempt = 0 }

-- 2. Leaving

-- tentative reads are given up, and each reader is to be sent again what it has not acknowledged
abbrev pub cancelled : Option Inlet → Option Inlet
cancelled None = None
cancelled (Some i) = Some (record i { port = after_cancel i.port })

abbrev pub rewound_reader : Reader → Reader
rewound_reader r = record r { sent = r.acked }

abbrev pub rewound_out : OutView → OutView
rewound_out o = record o { readers = map rewound_reader o.readers }

abbrev pub rewound : Actor → Actor
rewound a = record a { outs = map rewound_out a.outs }

abbrev pub settled : Actor → Actor
settled a = record (rewound a) { ins = map cancelled a.ins }

-- what travels of a live actor: it waits as long as it would have here
abbrev pub capture : LiveState → List Hint → ℕ → StateView
capture l hints now = record { actor = settled l.actor; wait = l.due - now; hints = hints }

-- 3. Coming to live again

abbrev pub restore : StateView → ℕ → ℕ → LiveState
restore s attempt now = record { actor = rewound s.actor; due = now + s.wait; attempt = attempt }
