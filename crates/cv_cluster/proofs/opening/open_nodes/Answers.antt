use Rattle.cv_cluster.proofs.Nodes.{spec_at}
use Rattle.cv_cluster.proofs.opening.open_nodes.Goals as goal

pub open_node-requires-clause-spec : goal.open_node-requires-clause-spec
open_node-requires-clause-spec c =
    spec_at c.args.stations.now c.loop-station.station-index c.station-item.result c.loop-station-test.true c.station-item.is c.requires.specs
