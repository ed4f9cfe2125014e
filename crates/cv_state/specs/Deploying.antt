-- An application that comes to live at a node.
use Rattle.std.specs.Prelude.{ℕ, suc, ◌+◌, Bool, nat_lt, List, [], ◌∷◌}
use Rattle.std.specs.List.{list_all}
use Rattle.std.specs.FinMap as map
use Rattle.cv_token.specs.declared.identifiers.AppId.{AppId}
use Rattle.cv_table.specs.Order.{actor_cmp}
use Rattle.cv_kinds.specs.declared.network.ActorSpec.{ActorSpec}
use Rattle.cv_kinds.specs.declared.network.Connection.{Connection}
use Rattle.cv_kinds.specs.Net.{Net}
use Rattle.cv_protocol.specs.declared.moving.Application.TheVariants as known
use Rattle.cv_protocol.specs.Actors.{LiveState}
use Rattle.cv_protocol.specs.NodeState.{Known}
use Rattle.cv_protocol.specs.Poll.{limit}
use Rattle.cv_protocol.specs.Rows.{producers_noted}
use Rattle.cv_protocol.specs.Travel.{first_due, new_live}

-- whether the first moments of these actors are below the limit
abbrev pub are_due : ℕ → List ActorSpec → Bool
are_due now actors = list_all (λ (spec : ActorSpec). nat_lt (first_due spec now) limit) actors

-- the actors of a network from number `actor` on, at the start
abbrev pub new_lives : AppId → List Connection → ℕ → ℕ → List ActorSpec → List LiveState
new_lives app connections now actor [] = []
new_lives app connections now actor (spec ∷ specs) =
    new_live app connections actor spec now ∷ new_lives app connections now (suc actor) specs

-- these actors live here, the first one as this number of the application
abbrev pub all_settled : AppId → ℕ → List LiveState → map.FinMap actor_cmp LiveState → map.FinMap actor_cmp LiveState
all_settled app actor [] live = live
all_settled app actor (l ∷ ls) live =
    all_settled app (suc actor) ls (map.insert live (record { app = app; actor = actor }) l)

-- what is known once the application is, with its connections, and once it was deployed here
abbrev pub learned : Known → AppId → List ℕ → Net → Known
learned k app name net = record k {
  apps = map.insert k.apps app (known.Known name net);
  producers = producers_noted app 0 net.connections k.producers;
}

abbrev pub deployed_known : Known → AppId → List ℕ → Net → Known
deployed_known k app name net = record (learned k app name net) { deployed = k.deployed + 1 }
