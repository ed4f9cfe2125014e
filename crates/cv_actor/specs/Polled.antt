-- What an actor tells of its actions, in the words of the node table.
use Rattle.std.specs.Prelude.{◌≡◌, ℕ, suc, List, [], ◌∷◌, slice_set, Option, Some, None}
use Rattle.cv_token.specs.declared.identifiers.ActorId.{ActorId}
use Rattle.cv_kinds.specs.declared.network.ActorSpec.{ActorSpec}
use Rattle.cv_kinds.specs.Net.{Net}
use Rattle.cv_queue.specs.Ports.{after_peek}
use Rattle.cv_protocol.specs.declared.poll.Need.{Need}
use Rattle.cv_protocol.specs.declared.state.Inlet.{Inlet}
use Rattle.cv_protocol.specs.Actors.{LiveState}
use Rattle.cv_protocol.specs.Rows.{inlet_at}
use Rattle.cv_protocol.specs.Travel.{new_live}
use Rattle.cv_protocol.specs.Poll.{Look, Lacks, Reads, Fires, Answer, Fired, Held, Waiting}
use Rattle.cv_actor.specs.declared.outlook.Sight.{Sight}
use Rattle.cv_actor.specs.declared.outlook.Sight.TheVariants as sight
use Rattle.cv_actor.specs.declared.outlook.Outlook.{Outlook}
use Rattle.cv_actor.specs.declared.outlook.Outlook.TheVariants as outlook

-- what is seen of one action
abbrev pub seen : Look → Sight
seen (Lacks need) = sight.Lacks need
seen (Reads port count) = sight.Reads port count
seen Fires = sight.Fires

-- the lacks put at their places, the first one at place `at`
abbrev pub put_from : List (Option Need) → ℕ → List Need → List (Option Need)
put_from places at [] = places
put_from places at (lack ∷ lacks) = put_from (slice_set places at (Some lack)) (suc at) lacks

-- what is foreseen of all actions, where those below number `at` have these lacks
abbrev pub foreseen_from : List (Option Need) → ℕ → Answer → Outlook
foreseen_from places at (Fired action) = outlook.Fires action
foreseen_from places at (Held port count) = outlook.Reads port count
foreseen_from places at (Waiting lacks) = outlook.Waits (put_from places at lacks)

-- a place for each action that a kind may have
abbrev pub no_lacks : List (Option Need)
no_lacks = None ∷ None ∷ None ∷ None ∷ []

-- what is foreseen of an answer
abbrev pub foreseen : Answer → Outlook
foreseen a = foreseen_from no_lacks 0 a

-- the actor after so many tokens of an inport were read
abbrev pub read_more : ℕ → Option Inlet → Option Inlet
read_more count None = None
read_more count (Some i) = Some (record i { port = after_peek i.port count })

abbrev pub peeked : LiveState → ℕ → ℕ → LiveState
peeked l port count = record l { actor = record (l.actor) { ins = slice_set l.actor.ins port (read_more count (inlet_at l port)) } }

-- the actor is one of the network at the start, where this is its specification
abbrev pub IsNew : LiveState → ActorId → Net → ℕ → ActorSpec → Type 0
IsNew l id net now spec = l ≡ new_live id.app net.connections id.actor spec now
