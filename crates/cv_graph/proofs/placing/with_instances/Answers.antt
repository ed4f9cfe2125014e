use Rattle.std.proofs.Common.{[], ◌∷◌, ◌++◌, map, take, refl, sym, ◌∙◌, subst, ap, append_assoc}
use Rattle.cv_graph.specs.Ports.{actor_places, instance_place}
use Rattle.cv_graph.specs.Tables.{AreTabled}
use Rattle.cv_graph.proofs.Lists.{map_take_read}
use Rattle.cv_graph.proofs.placing.with_instances.Goals as goal

pub loop-instance-preserved : goal.loop-instance-preserved
loop-instance-preserved c =
    let xs = c.as_slice-instance-items.result.now in
    let i = c.loop-instance.instance-index in
    let x = c.instance-item.result in
    let first = actor_places c.args.parts.now in
    subst (λ ps. AreTabled ps c.in_ok-table.table) (append_assoc first (map instance_place (take i xs)) (instance_place x ∷ []) ∙ ap (λ ps. first ++ ps) (sym (map_take_read instance_place xs i x c.loop-instance-test.true c.instance-item.is)))
    (c.in_ok-table.ensures (first ++ map instance_place (take i xs)) (instance_place x) c.loop-instance.invariant refl (sym c.in_ok-head.ensures))
