use Rattle.std.proofs.Common.{◌≡◌, ◌∙◌, length, ap, arith}
use Rattle.std.specs.FinMap as map
use Rattle.cv_table.specs.Order.{actor_cmp}
use Rattle.cv_protocol.specs.Actors.{LiveState}
use Rattle.cv_protocol.specs.NodeState.{NodeState}
use Rattle.cv_protocol.specs.Rows.{all_hinted, deployed_state, elsewhere}
use Rattle.cv_state.specs.Deploying.{all_settled, new_lives}
use Rattle.cv_state.proofs.Deploys.{installed, lives_count}
use Rattle.cv_state.proofs.state.State.install.Goals as goal

pub settle-requires-clause-few : goal.settle-requires-clause-few
settle-requires-clause-few c =
    let count : length c.in_ok-lives.lives.items ≡ length c.actors-actors.result.now = ap length c.in_ok-lives.ensures ∙ lives_count c.args.app _ _ _ _ in
    omega (arith, c.actors-actors.ensures.few)

pub settle-requires-clause-room : goal.settle-requires-clause-room
settle-requires-clause-room c =
    let count : length c.in_ok-lives.lives.items ≡ length c.actors-actors.result.now = ap length c.in_ok-lives.ensures ∙ lives_count c.args.app _ _ _ _ in
    omega (arith, c.in_ok-reserve.ensures.room, c.drop_app.ensures.room)

pub returns-clause-ok : goal.returns-clause-ok
returns-clause-ok c =
    let i = c.self.inside in
    let s : NodeState = record { spec = i.spec; stamp = i.stamp; now = i.moment; known = i.known; live = i.live.map; moves = i.moves; hints = i.hints.map } in
    let app = c.args.app in
    let name = c.args.name.now in
    let net = c.args.net.now in
    let actors = c.actors-actors.ensures.value in
    let connections = c.connections.ensures.value in
    let lives = c.in_ok-lives.ensures ∙ (λ i. new_lives app (connections i) s.now 0 (actors i)) in
    let live = c.settle.ensures ∙ ap (λ (m : map.FinMap actor_cmp LiveState). all_settled app 0 c.in_ok-lives.lives.items m) (c.drop_app.ensures.map ∙ ap (λ (m : map.FinMap actor_cmp LiveState). map.retain_keys m (elsewhere app)) c.in_ok-reserve.ensures.map) in
    let hints = c.hint_all.ensures ∙ (λ i. all_hinted app s.spec.no 0 (actors i) (c.in_ok-reserve-2.ensures.map i)) in
    let done = installed s name net app c.deploy.new.self c.settle.new.live.map c.drop_app-2.new.self c.hint_all.new.hints.map c.in_ok-lives.lives.items c.in_ok-deploy.ensures.ok lives live c.drop_app-2.ensures hints in
    done ∙ ap (λ (s : NodeState). deployed_state s name net app) c.self.view_is
