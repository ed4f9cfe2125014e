-- What a poll of a node's actor does, and why it is refused.
use Rattle.std.specs.Prelude.{◌≡◌, List, Option, Some, None}
use Rattle.cv_protocol.specs.declared.poll.Need.{Need}
use Rattle.std.specs.FinMap as map
use Rattle.cv_token.specs.declared.identifiers.ActorId.{ActorId}
use Rattle.cv_protocol.specs.declared.event.Event.TheVariants as event
use Rattle.cv_protocol.specs.declared.event.Sent.TheVariants as sent
use Rattle.cv_protocol.specs.declared.refusal.StepRefusal.{StepRefusal}
use Rattle.cv_protocol.specs.Actors.{LiveState}
use Rattle.cv_protocol.specs.Poll.{Answer, Fired, Held, Waiting, poll}
use Rattle.cv_protocol.specs.NodeState.{NodeState}
use Rattle.cv_protocol.specs.NodeRow.{cause_of}
use Rattle.cv_actor.specs.declared.act.Polled.{Polled}
use Rattle.cv_actor.specs.declared.act.Polled.TheVariants as polled
use Rattle.cv_actor.specs.declared.outlook.Outlook.TheVariants as outlook
use Rattle.cv_actor.specs.Polled.{foreseen}
use Rattle.cv_node.specs.Journalled.{Journalled, MakesStep}

-- the actor lives here and waits for these lacks
pub record Waits (s : NodeState) (a : ActorId) (lacks : List (Option Need)) : Type 0 where
  pub live : LiveState
  pub here : map.get s.live a ≡ Some live
  pub lacking : foreseen (poll live s.now) ≡ outlook.Waits lacks

-- the action fired, or the inport was read, as a step; or nothing changed, since each action lacks something
abbrev pub HasPolled : Journalled → ActorId → Polled → Journalled → Type 0
HasPolled old a (polled.Fired action) new = MakesStep old (event.Fire a action) sent.Nothing new
HasPolled old a (polled.Held port) new = MakesStep old (event.Peek a port) sent.Nothing new
HasPolled old a (polled.Waiting lacks) new = (new ≡ old) × Waits old.state a lacks

-- why what the poll would do is refused; that it waits is no refusal
abbrev pub answer_cause : NodeState → ActorId → Answer → Option StepRefusal
answer_cause s a (Fired action) = cause_of s (event.Fire a action)
answer_cause s a (Held port count) = cause_of s (event.Peek a port)
answer_cause s a (Waiting lacks) = None

abbrev pub live_cause : NodeState → ActorId → Option LiveState → Option StepRefusal
live_cause s a (Some l) = answer_cause s a (poll l s.now)
live_cause s a None = cause_of s (event.Fire a 0)

abbrev pub poll_cause : NodeState → ActorId → Option StepRefusal
poll_cause s a = live_cause s a (map.get s.live a)
