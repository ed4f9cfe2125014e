-- Where a node sees an actor.
use Rattle.std.specs.Prelude.{Bool, true, false, Option, Some, None}
use Rattle.std.specs.FinMap as map
use Rattle.cv_token.specs.declared.identifiers.ActorId.{ActorId}
use Rattle.cv_protocol.specs.declared.moving.Location.{Location}
use Rattle.cv_protocol.specs.NodeState.{NodeState, is_gone}
use Rattle.cv_protocol.specs.NodeRow.{Whereabouts, Lives_here, Is_frozen, Is_absent, where_is}
use Rattle.cv_node.specs.declared.seen.Seen.{Seen}
use Rattle.cv_node.specs.declared.seen.Seen.TheVariants as seen

-- an actor that is not here is known where a hint names its node. Each actor of an application that was deployed here has one
abbrev pub hinted_at : Option Location → Option Seen
hinted_at None = None
hinted_at (Some h) = Some (seen.Away h.node)

-- an actor of an application that is destroyed here is not known, unless it is frozen here
abbrev pub seen_as : Whereabouts → Bool → Option Location → Option Seen
seen_as Is_frozen gone h = Some seen.Moving
seen_as Lives_here true h = None
seen_as Lives_here false h = Some seen.Live
seen_as Is_absent true h = None
seen_as Is_absent false h = hinted_at h

abbrev pub seen_actor : NodeState → ActorId → Option Seen
seen_actor s a = seen_as (where_is s a) (is_gone s a.app) (map.get s.hints a)
