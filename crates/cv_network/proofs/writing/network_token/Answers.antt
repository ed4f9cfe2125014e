use Rattle.std.proofs.Common.{ap, ◌∙◌, ◌++◌, ◌∷◌, [], refl}
use Rattle.cv_network.proofs.Keys.{one_rises, two_rise}
use Rattle.cv_network.proofs.writing.network_token.Goals as goal

pub push-requires : goal.push-requires
push-requires c = one_rises c.new-members.result c.in_ok-first.first c.new-members.ensures

pub push-requires-2 : goal.push-requires-2
push-requires-2 c =
    two_rise c.push.new.self c.in_ok-first.first c.in_ok-second.second (c.in_ok-push.ensures.ok ∙ ap (λ ps. ps ++ c.in_ok-first.first ∷ []) c.new-members.ensures) (ap (λ p. p.key) c.in_ok-first.ensures) (ap (λ p. p.key) c.in_ok-second.ensures)

pub returns : goal.returns
returns c =
    rw (c.in_ok-push-2.ensures.ok, c.in_ok-push.ensures.ok, c.new-members.ensures, c.in_ok-first.ensures, c.in_ok-second.ensures, c.in_ok-actor_list.ensures, c.in_ok-connection_list.ensures, c.actors.ensures.value, c.actors-2.ensures.value, c.connections.ensures.value) refl
