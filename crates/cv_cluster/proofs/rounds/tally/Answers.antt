use Rattle.cv_cluster.proofs.Quotas.{tallied_more}
use Rattle.cv_cluster.proofs.rounds.tally.Goals as goal

pub loop-station-preserved : goal.loop-station-preserved
loop-station-preserved c =
    tallied_more c.args.stations.now c.loop-station.station-index c.loop-station.outcome.fired c.loop-station.outcome.failed c.station-item.result c.loop-station-test.true c.station-item.is c.loop-station.invariant
