-- One runtime that fires actions one after the other: unbounded lists, no space, no priority, no time.
use Rattle.std.specs.Prelude.{◌≡◌, ℕ, zero, suc, ◌+◌, ◌-◌, min, length, Bool, true, false, ◌==◌, ◌&&◌, if◌then◌else◌, List, [], ◌∷◌, ◌++◌, drop, map, replicate, slice_get, slice_set, unwrap_or, Option, Some, None, option_and_then}
use Rattle.cv_token.specs.declared.token.Token.{Token}
use Rattle.cv_behave.specs.declared.behave.Effect.{Effect}
use Rattle.cv_behave.specs.KindRow.{needed, given_at, heads_of, is_ready, effect_of}
use Rattle.cv_kinds.specs.declared.network.ActorSpec.{ActorSpec}
use Rattle.cv_kinds.specs.declared.network.Connection.{Connection}
use Rattle.cv_kinds.specs.Net.{Net}
use Rattle.cv_kinds.specs.KindRow.{row_of}
use Rattle.cv_solo.specs.declared.stream.Stream.{Stream}

-- the slots of each actor, and of each connection what was ever written to it and how much of that was taken
pub record Runtime : Type 0 where
  pub slots : List (List Token)
  pub streams : List Stream

-- before the first firing: the slots of the rows, nothing written, nothing taken
abbrev pub opening : Net → Runtime
opening net = record {
  slots = map (λ a. (row_of a.kind).start a.args) net.actors;
  streams = replicate (length net.connections) (record { wrote = []; took = 0 });
}

-- the tokens that wait at an inport: those of its connection that were written and not taken
abbrev pub waiting : List Connection → List Stream → ℕ → ℕ → List Token
waiting [] streams actor port = []
waiting (j ∷ js) [] actor port = []
waiting (j ∷ js) (s ∷ ss) actor port = if (j.to == actor) && (j.inp == port) then drop s.took s.wrote else waiting js ss actor port

-- the same for `count` inports from number `port` on
abbrev pub inputs_from : List Connection → List Stream → ℕ → ℕ → ℕ → List (List Token)
inputs_from connections streams actor port zero = []
inputs_from connections streams actor port (suc count) = waiting connections streams actor port ∷ inputs_from connections streams actor (suc port) count

-- a connection after a firing of an actor: of the tokens that wait at its inport those needed are taken, and the token
-- given to its outport is written
abbrev pub taken_on : ActorSpec → ℕ → ℕ → Connection → Stream → ℕ
taken_on spec actor action j s = if j.to == actor then min (needed (row_of spec.kind) spec.args action j.inp) (length s.wrote - s.took) else 0

abbrev pub given_on : List (Option Token) → ℕ → Connection → List Token
given_on out actor j = if j.from == actor then given_at out j.out else []

abbrev pub stream_after : ActorSpec → ℕ → ℕ → List (Option Token) → Connection → Stream → Stream
stream_after spec actor action out j s = record { wrote = s.wrote ++ given_on out actor j; took = s.took + taken_on spec actor action j s }

abbrev pub streams_after : ActorSpec → ℕ → ℕ → List (Option Token) → List Connection → List Stream → List Stream
streams_after spec actor action out [] streams = []
streams_after spec actor action out (j ∷ js) [] = []
streams_after spec actor action out (j ∷ js) (s ∷ ss) = stream_after spec actor action out j s ∷ streams_after spec actor action out js ss

-- a firing is allowed where its action is ready on the slots and on what waits at the inports
abbrev pub inputs_of : ActorSpec → List Connection → List Stream → ℕ → List (List Token)
inputs_of spec connections streams actor = inputs_from connections streams actor 0 (row_of spec.kind).inports

abbrev pub ready_of : ActorSpec → List Connection → ℕ → ℕ → List Token → List Stream → Bool
ready_of spec connections actor action slots streams = is_ready (row_of spec.kind) spec.args slots action (inputs_of spec connections streams actor)

abbrev pub effect_at : ActorSpec → List Connection → ℕ → ℕ → List Token → List Stream → Effect
effect_at spec connections actor action slots streams = effect_of (row_of spec.kind) spec.args slots action (heads_of (row_of spec.kind) spec.args action 0 (inputs_of spec connections streams actor))

-- what one firing does to the actor's slots and to the streams
pub record FiresOne (spec : ActorSpec) (connections : List Connection) (actor action : ℕ) (slots : List Token) (streams : List Stream) (slots_after : List Token) (all_after : List Stream) : Type 0 where
  pub ready : ready_of spec connections actor action slots streams ≡ true
  pub slots_are : slots_after ≡ (effect_at spec connections actor action slots streams).state
  pub streams_are : all_after ≡ streams_after spec actor action (effect_at spec connections actor action slots streams).out connections streams

abbrev pub fired_if : Net → Runtime → ℕ → ActorSpec → ℕ → List Token → Bool → Option Runtime
fired_if net r actor spec action slots false = None
fired_if net r actor spec action slots true = Some (record {
  slots = slice_set r.slots actor (effect_at spec net.connections actor action slots r.streams).state;
  streams = streams_after spec actor action (effect_at spec net.connections actor action slots r.streams).out net.connections r.streams;
})

abbrev pub slots_of : Runtime → ℕ → List Token
slots_of r actor = unwrap_or (slice_get r.slots actor) []

abbrev pub fire : Net → Runtime → ℕ → ℕ → Option Runtime
fire net r actor action = option_and_then (λ spec. fired_if net r actor spec action (slots_of r actor) (ready_of spec net.connections actor action (slots_of r actor) r.streams)) (slice_get net.actors actor)

-- the firings in their order, where each is allowed
abbrev pub solo_from : Net → Runtime → List (ℕ × ℕ) → Option Runtime
solo_from net r [] = Some r
solo_from net r (f ∷ fs) = option_and_then (λ next. solo_from net next fs) (fire net r f.0 f.1)

abbrev pub solo : Net → List (ℕ × ℕ) → Option Runtime
solo net firings = solo_from net (opening net) firings
