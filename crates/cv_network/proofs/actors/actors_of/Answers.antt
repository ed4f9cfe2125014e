use Rattle.std.proofs.Common.{List, [], ◌∷◌, ◌++◌, take, sym, ap, ◌∙◌}
use Rattle.cv_kinds.specs.declared.network.ActorSpec.{ActorSpec}
use Rattle.cv_kinds.specs.WellFormed.{IsSpec}
use Rattle.cv_network.specs.Written.{actor_token}
use Rattle.cv_network.proofs.Images.{none_some, some_same, stands_at}
use Rattle.cv_network.proofs.actors.actors_of.Goals as goal

pub returns-in_default : goal.returns-in_default
returns-in_default c = λ specs all e.
    let s = stands_at IsSpec actor_token c.args.items.now c.loop-item.item-index c.item-item.result specs c.loop-item-test.true c.item-item.is all e in
    none_some c.in_ok-actor.field-0 s.value c.in_default.is (c.in_ok-actor.ensures s.value s.valid s.tree)

pub loop-item-preserved : goal.loop-item-preserved
loop-item-preserved c = λ specs all e.
    let i = c.loop-item.item-index in
    let s = stands_at IsSpec actor_token c.args.items.now i c.item-item.result specs c.loop-item-test.true c.item-item.is all e in
    let same = some_same c.in-Some.actor s.value (sym c.in-Some.is ∙ c.in_ok-actor.ensures s.value s.valid s.tree) in
    c.in_ok-push.ensures.items ∙ ap (λ (xs : List ActorSpec). xs ++ c.in-Some.actor ∷ []) (c.loop-item.invariant specs all e) ∙ ap (λ (a : ActorSpec). take i specs ++ a ∷ []) same ∙ sym s.next
