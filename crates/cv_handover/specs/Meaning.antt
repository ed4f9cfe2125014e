-- What the rows mean: who owns which actor, what one runtime that fires the same actions would have written and taken, and what
-- each consumer got. It knows nothing of nodes' states, frames, queues or attempts.
use Rattle.std.specs.Prelude.{ℕ, suc, ◌+◌, Bool, true, false, if◌then◌else◌, List, [], ◌∷◌, ◌++◌, map, drop, slice_get, Option, Some, None, unwrap_or, option_to_list}
use Rattle.std.specs.List.{list_any}
use Rattle.cv_token.specs.declared.token.Token.{Token}
use Rattle.cv_token.specs.declared.identifiers.AppId.{AppId}
use Rattle.cv_token.specs.declared.identifiers.ActorId.{ActorId}
use Rattle.cv_token.specs.declared.identifiers.ConnId.{ConnId}
use Rattle.cv_table.specs.Order.{same_actor, same_conn}
use Rattle.cv_behave.specs.declared.behave.Effect.{Effect}
use Rattle.cv_behave.specs.KindRow.{needed, is_ready, effect_of, heads_of}
use Rattle.cv_kinds.specs.declared.network.ActorSpec.{ActorSpec}
use Rattle.cv_kinds.specs.Net.{Net}
use Rattle.cv_kinds.specs.KindRow.{row_of}
use Rattle.cv_queue.specs.declared.reader.Reader.{Reader}
use Rattle.cv_queue.specs.Ports.{OutView}
use Rattle.cv_protocol.specs.declared.state.Inlet.{Inlet}
use Rattle.cv_protocol.specs.Actors.{Actor}
use Rattle.cv_protocol.specs.Poll.{first_given}
use Rattle.cv_protocol.specs.Travel.{new_actor}
use Rattle.cv_protocol.specs.Rows.{Deed, Nothing, Deployed, Used, Fired_action, Passed, Received, Froze, Accepted_here, Resumed, Removed, Destroyed_here}
use Rattle.cv_protocol.specs.Owners.{Owners, owners_after}

-- 1. Networks, one for each application

-- the network of each application that is ever deployed, and what it says of an actor that it does not have
pub record Nets : Type 0 where
  pub net : AppId → Net
  pub nobody : ActorSpec

abbrev pub spec_of : Nets → ActorId → ActorSpec
spec_of n a = unwrap_or (slice_get (n.net a.app).actors a.actor) n.nobody

-- the actor at its start
abbrev pub fresh : Nets → ActorId → Actor
fresh n a = new_actor a.app (n.net a.app).connections a.actor (spec_of n a)

-- the connection that feeds an inport, and those that read an outport
abbrev pub fed_by : Option Inlet → Option ConnId
fed_by None = None
fed_by (Some i) = Some i.conn

abbrev pub read_by : OutView → List ConnId
read_by o = map (λ (r : Reader). r.conn) o.readers

-- 2. The meaning

pub record Meaning : Type 0 where
  pub owner : Owners
  pub slots : ActorId → List Token
  pub wrote : ConnId → List Token
  pub took : ConnId → ℕ
  pub got : ConnId → List Token

-- the tokens that wait at an inport
abbrev pub waiting : Meaning → Option ConnId → List Token
waiting m None = []
waiting m (Some c) = drop (m.took c) (m.wrote c)

abbrev pub waiting_all : Nets → Meaning → ActorId → List (List Token)
waiting_all n m a = map (λ i. waiting m (fed_by i)) (fresh n a).ins

abbrev pub may_fire : Nets → Meaning → ActorId → ℕ → Bool
may_fire n m a action =
    is_ready (row_of (spec_of n a).kind) (spec_of n a).args (m.slots a) action (waiting_all n m a)

abbrev pub effect_in : Nets → Meaning → ActorId → ℕ → Effect
effect_in n m a action =
    let row = row_of (spec_of n a).kind in
    effect_of row (spec_of n a).args (m.slots a) action (heads_of row (spec_of n a).args action 0 (waiting_all n m a))

-- what is needed at the inport that the connection feeds, of those from number `port` on; 0 where it feeds none
abbrev pub need_of : (ℕ → ℕ) → ℕ → List (Option Inlet) → ConnId → ℕ
need_of needs port [] c = 0
need_of needs port (None ∷ ins) c = need_of needs (suc port) ins c
need_of needs port (Some i ∷ ins) c =
    if same_conn i.conn c then needs port else need_of needs (suc port) ins c

-- what is given to the outport that the connection reads; nothing where it reads none
abbrev pub gift_of : List (Option Token) → List OutView → ConnId → List Token
gift_of out [] c = []
gift_of out (o ∷ outs) c =
    if list_any (λ (r : Reader). same_conn r.conn c) o.readers
    then option_to_list (first_given out)
    else gift_of (drop 1 out) outs c

-- the streams after the action: unbounded lists, to which what is given is added, and of which what is needed is taken
abbrev pub wrote_after : Nets → Meaning → ActorId → ℕ → ConnId → List Token
wrote_after n m a action c = m.wrote c ++ gift_of (effect_in n m a action).out (fresh n a).outs c

abbrev pub took_after : Nets → Meaning → ActorId → ℕ → ConnId → ℕ
took_after n m a action c =
    m.took c + need_of (needed (row_of (spec_of n a).kind) (spec_of n a).args action) 0 (fresh n a).ins c

abbrev pub with_slots : (ActorId → List Token) → ActorId → List Token → ActorId → List Token
with_slots slots a new b = if same_actor b a then new else slots b

abbrev pub fires : Nets → Meaning → ActorId → ℕ → Meaning
fires n m a action = record m {
  slots = with_slots m.slots a (effect_in n m a action).state;
  wrote = wrote_after n m a action;
  took = took_after n m a action;
}

-- one more token came
abbrev pub gets : (ConnId → List Token) → ConnId → List Token → ConnId → List Token
gets got c more d = if same_conn d c then got d ++ more else got d

abbrev pub comes_in : Meaning → ConnId → List Token → Meaning
comes_in m c more = record m { got = gets m.got c more }

-- 3. The fold over what the rows did

abbrev pub fires_if : Nets → Meaning → ActorId → ℕ → Bool → Option Meaning
fires_if n m a action false = None
fires_if n m a action true = Some (fires n m a action)

-- the streams after a deed, with owners that are set already
abbrev pub streams_after : Nets → Meaning → Deed → Option Meaning
streams_after n m Nothing = Some m
streams_after n m (Deployed app net) = Some m
streams_after n m (Used a) = Some m
streams_after n m (Fired_action a action) = fires_if n m a action (may_fire n m a action)
streams_after n m (Passed a b c token) = Some (comes_in m c (option_to_list token))
streams_after n m (Received a c t) = Some (comes_in m c (t ∷ []))
streams_after n m (Froze a to e) = Some m
streams_after n m (Accepted_here a e) = Some m
streams_after n m (Resumed a e) = Some m
streams_after n m (Removed a e) = Some m
streams_after n m (Destroyed_here app) = Some m

abbrev pub with_owners : Nets → Meaning → Deed → Option Owners → Option Meaning
with_owners n m d None = None
with_owners n m d (Some owner) = streams_after n (record m { owner = owner }) d

-- the meaning after a deed at node i, undefined where the owners are, or where one runtime could not fire
abbrev pub means : Nets → Meaning → ℕ → Deed → Option Meaning
means n m i d = with_owners n m d (owners_after m.owner i d)
