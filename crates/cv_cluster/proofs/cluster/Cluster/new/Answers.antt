use Rattle.std.proofs.Common.{List, map, subst}
use Rattle.cv_link.specs.declared.items.Item.{Item}
use Rattle.cv_node.specs.Journalled.{Journalled}
use Rattle.cv_mesh.specs.Joining.{AreNew}
use Rattle.cv_cluster.specs.Opening.{new_node}
use Rattle.cv_cluster.proofs.Nodes.{new_holds}
use Rattle.cv_cluster.proofs.cluster.Cluster.new.Goals as goal

pub invariant_of-result : goal.invariant_of-result
invariant_of-result c =
    let ss = c.in_ok-stations.stations.items in
    let joined = subst (λ (ns : List Journalled). AreNew c.deref.result.now ns ss) c.in_ok-nodes.ensures c.in_ok-stations.ensures in
    let new = subst (λ (is : List Item). AreNew is (map new_node c.args.specs.items) ss) c.deref.ensures.value joined in
    new_holds c.args.items.items c.args.specs.items ss new c.requires.rising c.requires.nodes
