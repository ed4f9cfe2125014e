use Rattle.std.proofs.Common.{arith}
use Rattle.cv_cluster.proofs.Quotas.{given_more}
use Rattle.cv_cluster.proofs.sharing.give.Goals as goal

pub loop-place-preserved : goal.loop-place-preserved
loop-place-preserved c =
    given_more c.args.stations.now c.loop-place.stations c.args.most c.loop-place.left c.part-quota.result c.loop-place.place c.index-stations-place.result c.raise.new.station c.loop-place.invariant c.part-quota.ensures (omega (arith, c.loop-place-test.true, c.requires)) c.index-stations-place.is c.raise.ensures
