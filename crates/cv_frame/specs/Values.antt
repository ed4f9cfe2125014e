-- The values that travel: those of which each part is in its range, its order and its limit.
use Rattle.std.specs.Prelude.{◌≡◌, ℕ, ◌-◌, ◌<◌, ◌≤◌, ◌^◌, true, List, length, Option, Some, None, All, slice_index_or}
use Rattle.std.specs.declared.cmp.Ordering.TheVariants.{Less}
use Rattle.cv_token.specs.declared.identifiers.ActorId.{ActorId}
use Rattle.cv_token.specs.declared.identifiers.AppId.{AppId}
use Rattle.cv_token.specs.declared.identifiers.ConnId.{ConnId}
use Rattle.cv_token.specs.declared.token.Token.{Token}
use Rattle.cv_token.specs.Bounds.{Fits}
use Rattle.cv_table.specs.Order.{actor_cmp}
use Rattle.cv_kinds.specs.Sorts.{is_state}
use Rattle.cv_kinds.specs.WellFormed.{IsSpec}
use Rattle.cv_queue.specs.declared.reader.Subscription.{Subscription}
use Rattle.cv_queue.specs.Ports.{OutView, IsOutPort, IsInPort, out_at, in_at}
use Rattle.cv_protocol.specs.Actors.{StateView, IsShaped}
use Rattle.cv_protocol.specs.Travel.{queue_length}
use Rattle.cv_protocol.specs.declared.state.Hint.{Hint}
use Rattle.cv_protocol.specs.declared.state.Inlet.{Inlet}
use Rattle.cv_protocol.specs.declared.frame.Body.{Body}
use Rattle.cv_protocol.specs.declared.frame.Body.TheVariants as body
use Rattle.cv_protocol.specs.declared.frame.Frame.{Frame}
use Rattle.cv_frame.specs.Trees.{most_readers}
use Rattle.cv_protocol.specs.Rows.{most_nodes}

-- 1. Numbers and identifiers

-- a number that counts tokens, attempts or stamps
abbrev pub IsCount : ℕ → Type 0
IsCount n = n < 2 ^ 62

-- the number of a node
abbrev pub IsNode : ℕ → Type 0
IsNode n = (1 ≤ n) × (n ≤ most_nodes)

pub record IsApp (a : AppId) : Type 0 where
  pub node : IsNode a.node
  pub seq : a.seq < 2 ^ 32

pub record IsActor (a : ActorId) : Type 0 where
  pub app : IsApp a.app
  pub actor : a.actor < 2 ^ 16

pub record IsConn (c : ConnId) : Type 0 where
  pub app : IsApp c.app
  pub place : c.place < 2 ^ 16

-- 2. States

-- the tokens that a port holds: at most four, each of which fits
pub record AreHeld (ts : List Token) : Type 0 where
  pub few : length ts ≤ queue_length
  pub fit : All Fits ts

-- an inport that is fed: it stands with room for four tokens, none of which is read
pub record IsInlet (i : Inlet) : Type 0 where
  pub conn : IsConn i.conn
  pub producer : IsActor i.producer
  pub taken : IsCount i.port.taken
  pub stands : i.port ≡ in_at queue_length i.port.taken i.port.held
  pub positions : IsInPort i.port
  pub held : AreHeld i.port.held

-- nothing feeds it, or a connection does
abbrev pub IsIn : Option Inlet → Type 0
IsIn None = Unit {0}
IsIn (Some i) = IsInlet i

pub record IsReader (s : Subscription) : Type 0 where
  pub conn : IsConn s.conn
  pub consumer : IsActor s.consumer
  pub acked : IsCount s.acked

-- the readers of a port
pub record AreReaders (readers : List Subscription) : Type 0 where
  pub each : All IsReader readers
  pub few : length readers ≤ most_readers

-- an outport that stands with room for four tokens and these readers, to whom nothing was sent that they have not acknowledged
pub record IsOut (o : OutView) : Type 0 where
  pub readers : List Subscription
  pub stands : o ≡ out_at queue_length o.write o.held readers
  pub these : AreReaders readers
  pub write : IsCount o.write
  pub positions : IsOutPort o
  pub held : AreHeld o.held

pub record IsHint (h : Hint) : Type 0 where
  pub actor : IsActor h.actor
  pub attempt : IsCount h.attempt
  pub node : IsNode h.node

-- the actor of the hint at a place is above that of the hint before it
abbrev pub RisesAt : List Hint → ℕ → Type 0
RisesAt hints i = (d : Hint) → 0 < i → i < length hints → actor_cmp (slice_index_or hints (i - 1) d).actor (slice_index_or hints i d).actor ≡ Less

abbrev pub Rise : List Hint → Type 0
Rise hints = (i : ℕ) → RisesAt hints i

-- the hints of a state
pub record AreHints (hints : List Hint) : Type 0 where
  pub each : All IsHint hints
  pub rise : Rise hints

-- the milliseconds that an actor still waits
abbrev pub IsWait : ℕ → Type 0
IsWait n = n ≤ 2147483647

pub record IsState (s : StateView) : Type 0 where
  pub spec : IsSpec s.actor.spec
  pub slots : is_state s.actor.spec.kind s.actor.spec.args s.actor.slots ≡ true
  pub wait : IsWait s.wait
  pub ins : All IsIn s.actor.ins
  pub outs : All IsOut s.actor.outs
  pub shaped : IsShaped s.actor.spec.kind (length s.actor.ins) (length s.actor.outs)
  pub hints : AreHints s.hints

-- 3. Frames

abbrev pub IsBody : Body → Type 0
IsBody (body.Token conn actor n t) = IsConn conn × IsActor actor × IsCount n × Fits t
IsBody (body.Ack conn actor upto) = IsConn conn × IsActor actor × IsCount upto
IsBody (body.Nack conn actor upto) = IsConn conn × IsActor actor × IsCount upto
IsBody (body.Transfer actor attempt state) = IsActor actor × IsCount attempt × IsState state × (state.actor.id ≡ actor)
IsBody (body.Verdict actor attempt v) = IsActor actor × IsCount attempt
IsBody (body.Cancel actor attempt) = IsActor actor × IsCount attempt
IsBody (body.Located actor attempt node) = IsActor actor × IsCount attempt × IsNode node
IsBody (body.Destroy app) = IsApp app

-- it holds neither a token nor a state
abbrev pub IsPlain : Body → Type 0
IsPlain (body.Token conn actor n t) = ⊥
IsPlain (body.Transfer actor attempt state) = ⊥
IsPlain _ = Unit {0}

pub record IsFrame (f : Frame) : Type 0 where
  pub from : IsNode f.from
  pub to : IsNode f.to
  pub stamp : IsCount f.stamp
  pub body : IsBody f.body
