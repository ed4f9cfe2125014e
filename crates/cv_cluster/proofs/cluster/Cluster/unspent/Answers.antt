use Rattle.std.proofs.Common.{subst}
use Rattle.cv_cluster.specs.Cluster.{ClusterView, NothingIsSpent}
use Rattle.cv_cluster.proofs.Unspent.{nobody, nobody_starts, unspent}
use Rattle.cv_cluster.proofs.cluster.Cluster.unspent.Goals as goal

pub returns : goal.returns
returns c =
    let i = c.self.inside in
    subst (λ (x : ClusterView). NothingIsSpent x.nodes) c.self.view_is (unspent i.items.items i.failed i.stations.items c.self.invariant nobody nobody_starts)
