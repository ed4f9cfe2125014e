use Rattle.std.proofs.Common.{map, take, sym, subst}
use Rattle.cv_graph.specs.Ports.{actor_place}
use Rattle.cv_graph.specs.Tables.{AreTabled}
use Rattle.cv_graph.proofs.Lists.{map_take_read}
use Rattle.cv_graph.proofs.Segments.{actor_path}
use Rattle.cv_graph.proofs.placing.with_actors.Goals as goal

pub loop-actor-preserved : goal.loop-actor-preserved
loop-actor-preserved c =
    let xs = c.as_slice-actor-items.result.now in
    let i = c.loop-actor.actor-index in
    let x = c.actor-item.result in
    subst (λ ps. AreTabled ps c.in_ok-table.table) (sym (map_take_read actor_place xs i x c.loop-actor-test.true c.actor-item.is))
    (c.in_ok-table.ensures (map actor_place (take i xs)) (actor_place x) c.loop-actor.invariant (actor_path x) (sym c.in_ok-head.ensures))
