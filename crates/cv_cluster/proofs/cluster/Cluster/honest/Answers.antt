use Rattle.std.proofs.Common.{subst}
use Rattle.cv_cluster.specs.Cluster.{IsHonest}
use Rattle.cv_cluster.proofs.Honest.{kept_honest}
use Rattle.cv_cluster.proofs.cluster.Cluster.honest.Goals as goal

pub returns : goal.returns
returns c =
    let i = c.self.inside in subst IsHonest c.self.view_is (kept_honest i.items.items i.failed i.stations.items c.self.invariant.kept)
