-- An actor: what it is, its slots and its ports, wherever it is.
use Rattle.std.specs.Prelude.{◌≡◌, ℕ, List, Option, refl}
use Rattle.std.specs.Coded.{Coded, code_by, coded×, coded_ℕ, coded_list, coded_option}
use Rattle.cv_token.specs.declared.token.Token.{Token}
use Rattle.cv_token.specs.contracts.token.Token as token
use Rattle.cv_token.specs.declared.identifiers.ActorId.{ActorId}
use Rattle.cv_token.specs.contracts.identifiers.ActorId as actor
use Rattle.cv_kinds.specs.declared.kind.Kind.{Kind}
use Rattle.cv_kinds.specs.declared.network.ActorSpec.{ActorSpec}
use Rattle.cv_kinds.specs.contracts.network.ActorSpec as spec
use Rattle.cv_kinds.specs.KindRow.{row_of}
use Rattle.cv_queue.specs.Ports.{OutView, out_code}
use Rattle.cv_protocol.specs.declared.state.Inlet.{Inlet}
use Rattle.cv_protocol.specs.contracts.state.Inlet as inlet
use Rattle.cv_protocol.specs.declared.state.Hint.{Hint}
use Rattle.cv_protocol.specs.contracts.state.Hint as hint

-- an actor: its identifier, what its network says of it, its slots, its inports, None for one that nothing feeds, and its
-- outports, each with its readers
pub record Actor : Type 0 where
  pub id : ActorId
  pub spec : ActorSpec
  pub slots : List Token
  pub ins : List (Option Inlet)
  pub outs : List OutView

-- an actor has the ports of its kind's row
pub record IsShaped (k : Kind) (ins outs : ℕ) : Type 0 where
  pub inports : ins ≡ (row_of k).inports
  pub outports : outs ≡ (row_of k).outports

-- an actor that lives: the moment from which a timed action may fire, and the attempt by which it came to live
pub record LiveState : Type 0 where
  pub actor : Actor
  pub due : ℕ
  pub attempt : ℕ

-- an actor that travels: how long it still waits, and the hints of the actors that are joined to it
pub record StateView : Type 0 where
  pub actor : Actor
  pub wait : ℕ
  pub hints : List Hint

abbrev pub actor_code : Coded Actor
actor_code =
    code_by (ActorId × (ActorSpec × (List Token × (List (Option Inlet) × List OutView)))) (coded× actor.the_row.coded (coded× spec.the_row.coded (coded× (coded_list token.the_row.coded) (coded× (coded_list (coded_option inlet.the_row.coded)) (coded_list out_code))))) (λ a. (a.id, (a.spec, (a.slots, (a.ins, a.outs))))) (λ p. record { id = p.0; spec = p.1.0; slots = p.1.1.0; ins = p.1.1.1.0; outs = p.1.1.1.1 }) (λ _. refl)

abbrev pub live_code : Coded LiveState
live_code =
    code_by (Actor × (ℕ × ℕ)) (coded× actor_code (coded× coded_ℕ coded_ℕ)) (λ l. (l.actor, (l.due, l.attempt))) (λ p. record { actor = p.0; due = p.1.0; attempt = p.1.1 }) (λ _. refl)

abbrev pub state_code : Coded StateView
state_code =
    code_by (Actor × (ℕ × List Hint)) (coded× actor_code (coded× coded_ℕ (coded_list hint.the_row.coded))) (λ s. (s.actor, (s.wait, s.hints))) (λ p. record { actor = p.0; wait = p.1.0; hints = p.1.1 }) (λ _. refl)
