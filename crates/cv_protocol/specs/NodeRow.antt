-- The table of rows: what each event does to a node, and why an event is no row of a state.
use Rattle.std.specs.Prelude.{ℕ, ◌+◌, Bool, true, false, not, ◌==◌, ◌&&◌, ◌||◌, nat_lt, nat_le, max, Option, Some, None}
use Rattle.std.specs.FinMap as map
use Rattle.cv_token.specs.declared.identifiers.ActorId.{ActorId}
use Rattle.cv_token.specs.declared.identifiers.ConnId.{ConnId}
use Rattle.cv_protocol.specs.declared.event.Event.{Event}
use Rattle.cv_protocol.specs.declared.event.Event.TheVariants as event
use Rattle.cv_protocol.specs.declared.frame.Body.{Body}
use Rattle.cv_protocol.specs.declared.frame.Body.TheVariants as body
use Rattle.cv_protocol.specs.declared.frame.Frame.{Frame}
use Rattle.cv_protocol.specs.declared.moving.Frozen.{Frozen}
use Rattle.cv_protocol.specs.declared.refusal.StepRefusal.{StepRefusal}
use Rattle.cv_protocol.specs.declared.refusal.StepRefusal.TheVariants as refusal
use Rattle.cv_protocol.specs.Poll.{limit}
use Rattle.cv_protocol.specs.NodeState.{NodeState, is_other_known, last}
use Rattle.cv_protocol.specs.Rows.{Did, becomes, is_node, meet, tick, most_applications, deploy, peek, fire, Outlet, outlet, spot_of, Spot, pass, send, rewind, freeze, resend, withdraw, hint, destroyed, destroy}
use Rattle.cv_protocol.specs.Deliveries.{token_comes, ack_comes, nack_comes, transfer_comes, cancel_comes, verdict_comes}

-- 1. The rows

-- the stamp of the entry: one more than the node's, and than that of a frame that came
abbrev pub stamp_of : NodeState → Event → ℕ
stamp_of s (event.Lose f) = max s.stamp f.stamp + 1
stamp_of s (event.Deliver f) = max s.stamp f.stamp + 1
stamp_of s (event.Meet node attrs) = s.stamp + 1
stamp_of s (event.Deploy name net) = s.stamp + 1
stamp_of s (event.Tick now) = s.stamp + 1
stamp_of s (event.Peek a port) = s.stamp + 1
stamp_of s (event.Fire a action) = s.stamp + 1
stamp_of s (event.Pass conn) = s.stamp + 1
stamp_of s (event.Send conn) = s.stamp + 1
stamp_of s (event.Rewind conn) = s.stamp + 1
stamp_of s (event.Freeze a to) = s.stamp + 1
stamp_of s (event.Resend a) = s.stamp + 1
stamp_of s (event.Withdraw a) = s.stamp + 1
stamp_of s (event.Hint a attempt node) = s.stamp + 1
stamp_of s (event.Destroy app) = s.stamp + 1

-- what a node sent here
abbrev pub comes : NodeState → ℕ → ℕ → Body → Did
comes s stamp sender (body.Token conn a n t) = token_comes s stamp sender conn a n t (map.get s.live a)
comes s stamp sender (body.Ack conn a upto) = ack_comes s conn a upto (map.get s.live a)
comes s stamp sender (body.Nack conn a upto) = nack_comes s conn a upto (map.get s.live a)
comes s stamp sender (body.Transfer a attempt state) = transfer_comes s stamp sender a attempt state (nat_le attempt (last s a))
comes s stamp sender (body.Verdict a attempt v) = verdict_comes s a attempt v (map.get s.moves.frozen a)
comes s stamp sender (body.Cancel a attempt) = cancel_comes s stamp sender a attempt (nat_le attempt (last s a))
comes s stamp sender (body.Located a attempt node) = hint s a attempt node
comes s stamp sender (body.Destroy app) = destroyed s app

-- a frame that is addressed here, and to deliver with a stamp below the limit
abbrev pub deliver : NodeState → ℕ → Frame → Bool → Option Did
deliver s stamp f false = None
deliver s stamp f true = Some (comes s stamp f.from f.body)

abbrev pub lose : NodeState → Bool → Option Did
lose s false = None
lose s true = Some (becomes s)

-- what the event does, whatever numbers it makes
abbrev pub attempted : NodeState → ℕ → Event → Option Did
attempted s stamp (event.Meet node attrs) = meet s node attrs (is_node node)
attempted s stamp (event.Deploy name net) = deploy s name net (nat_lt s.known.deployed most_applications)
attempted s stamp (event.Tick now) = tick s now (nat_le s.now now && nat_lt now limit)
attempted s stamp (event.Peek a port) = peek s a port (map.get s.live a)
attempted s stamp (event.Fire a action) = fire s a action (map.get s.live a)
attempted s stamp (event.Pass conn) = pass s (outlet s conn)
attempted s stamp (event.Send conn) = send s stamp (outlet s conn)
attempted s stamp (event.Rewind conn) = rewind s (outlet s conn)
attempted s stamp (event.Freeze a to) = freeze s stamp a to (map.get s.live a)
attempted s stamp (event.Resend a) = resend s stamp a (map.get s.moves.frozen a)
attempted s stamp (event.Withdraw a) = withdraw s stamp a (map.get s.moves.frozen a)
attempted s stamp (event.Hint a attempt node) = Some (hint s a attempt node)
attempted s stamp (event.Destroy app) = destroy s stamp app (map.get s.known.apps app)
attempted s stamp (event.Lose f) = lose s (f.to == s.spec.no)
attempted s stamp (event.Deliver f) = deliver s stamp f ((f.to == s.spec.no) && nat_lt f.stamp limit)

-- no number that the row makes reaches the limit, the stamp too
abbrev pub is_bounded : ℕ → Did → Bool
is_bounded stamp d = d.fits && nat_lt stamp limit

abbrev pub stamped_if : ℕ → Did → Bool → Option Did
stamped_if stamp d false = None
stamped_if stamp d true = Some (record d { next = record (d.next) { stamp = stamp } })

abbrev pub stamped : ℕ → Option Did → Option Did
stamped stamp None = None
stamped stamp (Some d) = stamped_if stamp d (is_bounded stamp d)

-- what the event does to a node in this state, where it is a row of it
abbrev pub row : NodeState → Event → Option Did
row s e = stamped (stamp_of s e) (attempted s (stamp_of s e) e)

-- 2. Why an event is no row

-- where an actor is
pub data Whereabouts : Type 0 where
  Lives_here : Whereabouts
  Is_frozen : Whereabouts
  Is_absent : Whereabouts

abbrev pub whereabouts : {L F : Type 0} → Option L → Option F → Whereabouts
whereabouts (Some l) f = Lives_here
whereabouts None (Some f) = Is_frozen
whereabouts None None = Is_absent

abbrev pub where_is : NodeState → ActorId → Whereabouts
where_is s a = whereabouts (map.get s.live a) (map.get s.moves.frozen a)

abbrev pub is_absent : Whereabouts → Bool
is_absent Lives_here = false
is_absent Is_frozen = false
is_absent Is_absent = true

abbrev pub is_moving : Whereabouts → Bool
is_moving Lives_here = false
is_moving Is_frozen = true
is_moving Is_absent = false

-- the reader of a connection at its producer, where that is frozen here
abbrev pub spot_frozen : ConnId → Option Frozen → Option Spot
spot_frozen conn None = None
spot_frozen conn (Some f) = spot_of conn 0 f.state.actor.outs

abbrev pub spot_left : NodeState → ConnId → Option ActorId → Option Spot
spot_left s conn None = None
spot_left s conn (Some a) = spot_frozen conn (map.get s.moves.frozen a)

-- where the producer of a connection is, with its reader of that connection
abbrev pub producer_is : NodeState → ConnId → Whereabouts
producer_is s conn = whereabouts (outlet s conn) (spot_left s conn (map.get s.known.producers conn))

-- where the consumer is that this reader names; it is absent where nobody here has the reader
abbrev pub consumer_by : NodeState → Option Outlet → Option Spot → Whereabouts
consumer_by s (Some x) left = where_is s x.spot.reader.consumer
consumer_by s None (Some spot) = where_is s spot.reader.consumer
consumer_by s None None = Is_absent

abbrev pub consumer_is : NodeState → ConnId → Whereabouts
consumer_is s conn = consumer_by s (outlet s conn) (spot_left s conn (map.get s.known.producers conn))

-- an actor of the event is neither live nor frozen here
abbrev pub lacks_actor : NodeState → Event → Bool
lacks_actor s (event.Peek a port) = is_absent (where_is s a)
lacks_actor s (event.Fire a action) = is_absent (where_is s a)
lacks_actor s (event.Pass conn) = is_absent (producer_is s conn) || is_absent (consumer_is s conn)
lacks_actor s (event.Send conn) = is_absent (producer_is s conn)
lacks_actor s (event.Rewind conn) = is_absent (producer_is s conn)
lacks_actor s (event.Freeze a to) = is_absent (where_is s a)
lacks_actor s (event.Resend a) = is_absent (where_is s a)
lacks_actor s (event.Withdraw a) = is_absent (where_is s a)
lacks_actor s (event.Meet node attrs) = false
lacks_actor s (event.Deploy name net) = false
lacks_actor s (event.Tick now) = false
lacks_actor s (event.Hint a attempt node) = false
lacks_actor s (event.Destroy app) = false
lacks_actor s (event.Lose f) = false
lacks_actor s (event.Deliver f) = false

-- an actor of the event is frozen here, and the event is neither Resend nor Withdraw
abbrev pub finds_moving : NodeState → Event → Bool
finds_moving s (event.Peek a port) = is_moving (where_is s a)
finds_moving s (event.Fire a action) = is_moving (where_is s a)
finds_moving s (event.Pass conn) = is_moving (producer_is s conn) || is_moving (consumer_is s conn)
finds_moving s (event.Send conn) = is_moving (producer_is s conn)
finds_moving s (event.Rewind conn) = is_moving (producer_is s conn)
finds_moving s (event.Freeze a to) = is_moving (where_is s a)
finds_moving s (event.Resend a) = false
finds_moving s (event.Withdraw a) = false
finds_moving s (event.Meet node attrs) = false
finds_moving s (event.Deploy name net) = false
finds_moving s (event.Tick now) = false
finds_moving s (event.Hint a attempt node) = false
finds_moving s (event.Destroy app) = false
finds_moving s (event.Lose f) = false
finds_moving s (event.Deliver f) = false

-- the target is no other known node
abbrev pub lacks_target : NodeState → Event → Bool
lacks_target s (event.Freeze a to) = not (is_other_known s to)
lacks_target s (event.Meet node attrs) = false
lacks_target s (event.Deploy name net) = false
lacks_target s (event.Tick now) = false
lacks_target s (event.Peek a port) = false
lacks_target s (event.Fire a action) = false
lacks_target s (event.Pass conn) = false
lacks_target s (event.Send conn) = false
lacks_target s (event.Rewind conn) = false
lacks_target s (event.Resend a) = false
lacks_target s (event.Withdraw a) = false
lacks_target s (event.Hint a attempt node) = false
lacks_target s (event.Destroy app) = false
lacks_target s (event.Lose f) = false
lacks_target s (event.Deliver f) = false

-- another condition lacks; that of Deploy is that fewer applications were deployed here than may be
abbrev pub condition_cause : Event → StepRefusal
condition_cause (event.Deploy name net) = refusal.AppsSpent
condition_cause (event.Meet node attrs) = refusal.NotEnabled
condition_cause (event.Tick now) = refusal.NotEnabled
condition_cause (event.Peek a port) = refusal.NotEnabled
condition_cause (event.Fire a action) = refusal.NotEnabled
condition_cause (event.Pass conn) = refusal.NotEnabled
condition_cause (event.Send conn) = refusal.NotEnabled
condition_cause (event.Rewind conn) = refusal.NotEnabled
condition_cause (event.Freeze a to) = refusal.NotEnabled
condition_cause (event.Resend a) = refusal.NotEnabled
condition_cause (event.Withdraw a) = refusal.NotEnabled
condition_cause (event.Hint a attempt node) = refusal.NotEnabled
condition_cause (event.Destroy app) = refusal.NotEnabled
condition_cause (event.Lose f) = refusal.NotEnabled
condition_cause (event.Deliver f) = refusal.NotEnabled

abbrev pub spent_unless : Bool → Option StepRefusal
spent_unless true = None
spent_unless false = Some refusal.StampSpent

abbrev pub last_cause : ℕ → Event → Option Did → Option StepRefusal
last_cause stamp e None = Some (condition_cause e)
last_cause stamp e (Some d) = spent_unless (is_bounded stamp d)

-- the first of the causes that are true
abbrev pub first_cause : Bool → Bool → Bool → Option StepRefusal → Option StepRefusal
first_cause true moving target later = Some refusal.NotHere
first_cause false true target later = Some refusal.Moving
first_cause false false true later = Some refusal.NoNode
first_cause false false false later = later

-- why the event is no row of this state
abbrev pub cause_of : NodeState → Event → Option StepRefusal
cause_of s e =
    first_cause (lacks_actor s e) (finds_moving s e) (lacks_target s e) (last_cause (stamp_of s e) e (attempted s (stamp_of s e) e))
