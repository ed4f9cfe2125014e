use Rattle.std.proofs.Common.{subst}
use Rattle.cv_cluster.specs.Cluster.{ClusterView, AreAtOneMoment}
use Rattle.cv_cluster.proofs.Unspent.{nobody, nobody_starts, one_moment}
use Rattle.cv_cluster.proofs.cluster.Cluster.at_one_moment.Goals as goal

pub returns : goal.returns
returns c =
    let i = c.self.inside in
    subst (λ (x : ClusterView). AreAtOneMoment x.nodes) c.self.view_is (one_moment i.items.items i.failed i.stations.items c.self.invariant nobody nobody_starts)
