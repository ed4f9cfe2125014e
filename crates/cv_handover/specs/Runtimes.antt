-- An application's part of the meaning, as the one runtime of its network alone shows it: lists by place.
use Rattle.std.specs.Prelude.{◌≡◌, ℕ, zero, suc, if◌then◌else◌, List, [], ◌∷◌, length}
use Rattle.std.specs.List.{flat_map}
use Rattle.cv_token.specs.declared.token.Token.{Token}
use Rattle.cv_token.specs.declared.identifiers.AppId.{AppId}
use Rattle.cv_table.specs.Order.{same_app}
use Rattle.cv_solo.specs.declared.stream.Stream.{Stream}
use Rattle.cv_solo.specs.OneRuntime.{Runtime}
use Rattle.cv_protocol.specs.declared.event.Event.{Event}
use Rattle.cv_protocol.specs.declared.event.Event.TheVariants as event
use Rattle.cv_protocol.specs.declared.event.Step.{Step}
use Rattle.cv_protocol.specs.Rows.{Deed, Nothing, Deployed, Used, Fired_action, Passed, Received, Froze, Accepted_here, Resumed, Removed, Destroyed_here}
use Rattle.cv_handover.specs.Meaning.{Nets, Meaning}

-- f of so many numbers, from one on
abbrev pub listed : {X : Type 0} → (ℕ → X) → ℕ → ℕ → List X
listed f from zero = []
listed f from (suc count) = f from ∷ listed f (suc from) count

abbrev pub slots_in : Meaning → AppId → ℕ → List Token
slots_in m app k = m.slots (record { app = app; actor = k })

abbrev pub stream_in : Meaning → AppId → ℕ → Stream
stream_in m app k = record { wrote = m.wrote (record { app = app; place = k }); took = m.took (record { app = app; place = k }) }

abbrev pub runtime_of : Nets → Meaning → AppId → Runtime
runtime_of n m app = record {
  slots = listed (slots_in m app) 0 (length (n.net app).actors);
  streams = listed (stream_in m app) 0 (length (n.net app).connections);
}

-- the actor and the action of a firing of the application
abbrev pub firing_of : AppId → Deed → List (ℕ × ℕ)
firing_of app (Fired_action a action) = if same_app a.app app then (a.actor, action) ∷ [] else []
firing_of app Nothing = []
firing_of app (Deployed other net) = []
firing_of app (Used a) = []
firing_of app (Passed a b c token) = []
firing_of app (Received a c t) = []
firing_of app (Froze a to e) = []
firing_of app (Accepted_here a e) = []
firing_of app (Resumed a e) = []
firing_of app (Removed a e) = []
firing_of app (Destroyed_here other) = []

-- the same of an event, and of steps in their order
abbrev pub firing_at : AppId → Event → List (ℕ × ℕ)
firing_at app (event.Fire a action) = if same_app a.app app then (a.actor, action) ∷ [] else []
firing_at app (event.Meet node attrs) = []
firing_at app (event.Deploy name net) = []
firing_at app (event.Tick now) = []
firing_at app (event.Peek a port) = []
firing_at app (event.Pass conn) = []
firing_at app (event.Send conn) = []
firing_at app (event.Rewind conn) = []
firing_at app (event.Freeze a to) = []
firing_at app (event.Resend a) = []
firing_at app (event.Withdraw a) = []
firing_at app (event.Hint a attempt node) = []
firing_at app (event.Destroy other) = []
firing_at app (event.Lose f) = []
firing_at app (event.Deliver f) = []

abbrev pub firings : AppId → List Step → List (ℕ × ℕ)
firings app steps = flat_map (λ (s : Step). firing_at app s.event) steps

-- a deployment is one of these networks
abbrev pub IsOfNets : Nets → Deed → Type 0
IsOfNets n (Deployed app net) = net ≡ n.net app
IsOfNets n Nothing = Unit {0}
IsOfNets n (Used a) = Unit {0}
IsOfNets n (Fired_action a action) = Unit {0}
IsOfNets n (Passed a b c token) = Unit {0}
IsOfNets n (Received a c t) = Unit {0}
IsOfNets n (Froze a to e) = Unit {0}
IsOfNets n (Accepted_here a e) = Unit {0}
IsOfNets n (Resumed a e) = Unit {0}
IsOfNets n (Removed a e) = Unit {0}
IsOfNets n (Destroyed_here app) = Unit {0}
