use Rattle.std.proofs.Common.{List, [], ◌∷◌, ◌++◌, take, sym, ap, ◌∙◌}
use Rattle.cv_kinds.specs.declared.network.Connection.{Connection}
use Rattle.cv_kinds.specs.Wired.{HasPorts}
use Rattle.cv_network.specs.Written.{connection_token}
use Rattle.cv_network.proofs.Images.{none_some, some_same, stands_at}
use Rattle.cv_network.proofs.connections.connections_of.Goals as goal

pub returns-in_default : goal.returns-in_default
returns-in_default c = λ connections few all e.
    let actors = c.args.actors.now in
    let s = stands_at (HasPorts actors) (connection_token actors) c.args.items.now c.loop-item.item-index c.item-item.result connections c.loop-item-test.true c.item-item.is all e in
    none_some c.connection_of.result s.value c.in_default.is (c.connection_of.ensures s.value few s.valid s.tree)

pub loop-item-preserved : goal.loop-item-preserved
loop-item-preserved c = λ connections few all e.
    let actors = c.args.actors.now in
    let i = c.loop-item.item-index in
    let s = stands_at (HasPorts actors) (connection_token actors) c.args.items.now i c.item-item.result connections c.loop-item-test.true c.item-item.is all e in
    let same = some_same c.in-Some.connection s.value (sym c.in-Some.is ∙ c.connection_of.ensures s.value few s.valid s.tree) in
    c.in_ok-push.ensures.items ∙ ap (λ (xs : List Connection). xs ++ c.in-Some.connection ∷ []) (c.loop-item.invariant connections few all e) ∙ ap (λ (j : Connection). take i connections ++ j ∷ []) same ∙ sym s.next
