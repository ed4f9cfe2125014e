-- A node that opens with the actors of an application in their places, before its first entry.
use Rattle.std.specs.Prelude.{◌≡◌, ℕ, suc, ◌==◌, Bool, true, false, if◌then◌else◌, List, [], ◌∷◌, slice_get, Some, None}
use Rattle.std.specs.FinMap as map
use Rattle.cv_token.specs.declared.identifiers.AppId.{AppId}
use Rattle.cv_token.specs.declared.identifiers.ActorId.{ActorId}
use Rattle.cv_table.specs.Order.{actor_cmp}
use Rattle.cv_kinds.specs.declared.network.ActorSpec.{ActorSpec}
use Rattle.cv_kinds.specs.declared.network.Connection.{Connection}
use Rattle.cv_kinds.specs.Net.{Net}
use Rattle.cv_rules.specs.declared.attrs.NodeSpec.{NodeSpec}
use Rattle.cv_rules.specs.declared.attrs.Attrs.{Attrs}
use Rattle.cv_protocol.specs.declared.moving.Application.TheVariants as known
use Rattle.cv_protocol.specs.declared.moving.Location.{Location}
use Rattle.cv_protocol.specs.Actors.{LiveState}
use Rattle.cv_protocol.specs.NodeState.{Known, NodeState, opening}
use Rattle.cv_protocol.specs.Rows.{producers_noted}
use Rattle.cv_protocol.specs.Travel.{new_live}

-- 1. The state. `at` has the node of each actor, in the order of the network

-- the name of the application, which is `run`
abbrev pub opened_name : List ℕ
opened_name = 114 ∷ 117 ∷ 110 ∷ []

abbrev pub settled_if : Bool → map.FinMap actor_cmp LiveState → LiveState → map.FinMap actor_cmp LiveState
settled_if false live l = live
settled_if true live l = map.insert live l.actor.id l

-- the actors from number `actor` on that this node is the place of live here, at their start
abbrev pub all_placed : AppId → List Connection → ℕ → ℕ → List ActorSpec → List ℕ → map.FinMap actor_cmp LiveState → map.FinMap actor_cmp LiveState
all_placed app connections home actor [] at live = live
all_placed app connections home actor (spec ∷ specs) [] live = live
all_placed app connections home actor (spec ∷ specs) (node ∷ at) live =
    all_placed app connections home (suc actor) specs at (settled_if (node == home) live (new_live app connections actor spec 0))

-- each actor is known to live at its place, by the attempt 0
abbrev pub all_located : AppId → ℕ → List ℕ → map.FinMap actor_cmp Location → map.FinMap actor_cmp Location
all_located app actor [] hints = hints
all_located app actor (node ∷ at) hints =
    all_located app (suc actor) at (map.insert hints (record { app = app; actor = actor }) (record { attempt = 0; node = node }))

abbrev pub own_count : AppId → ℕ → ℕ
own_count app node = if app.node == node then 1 else 0

-- the application and its connections are known, and the node that it names counts it as deployed
abbrev pub opened_known : ℕ → Attrs → AppId → Net → Known
opened_known home attrs app net = record {
  nodes = map.insert map.empty home attrs;
  apps = map.insert map.empty app (known.Known opened_name net);
  deployed = own_count app home;
  producers = producers_noted app 0 net.connections map.empty;
}

abbrev pub opened : NodeSpec → AppId → Net → List ℕ → NodeState
opened spec app net at = record (opening spec) {
  known = opened_known spec.no spec.attrs app net;
  live = all_placed app net.connections spec.no 0 net.actors at map.empty;
  hints = all_located app 0 at map.empty;
}

-- 2. What it says of one node

-- the actors whose place this node is live here, at their start and by the attempt 0, and nobody else; nobody left, and nothing
-- was judged; and the node that the application names counts it
pub record IsOpened (s : NodeState) (app : AppId) (net : Net) (at : List ℕ) : Type 0 where
  pub there : (actor : ℕ) (spec : ActorSpec) → slice_get at actor ≡ Some s.spec.no → slice_get net.actors actor ≡ Some spec → map.get s.live (record { app = app; actor = actor }) ≡ Some (new_live app net.connections actor spec 0)
  pub nobody_else : (a : ActorId) (l : LiveState) → map.get s.live a ≡ Some l → (a.app ≡ app) × (slice_get at a.actor ≡ Some s.spec.no)
  pub none_frozen : (a : ActorId) → map.get s.moves.frozen a ≡ None
  pub none_judged : (a : ActorId) → map.get s.moves.judged a ≡ None
  pub counted : app.node ≡ s.spec.no → s.known.deployed ≡ 1

abbrev pub OpensInPlaces : Type 0
OpensInPlaces =
    (spec : NodeSpec) (app : AppId) (net : Net) (at : List ℕ) → IsOpened (opened spec app net at) app net at
