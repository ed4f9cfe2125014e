use Rattle.std.proofs.Common.{sym, arith}
use Rattle.cv_cluster.specs.Rounds.{Cleared}
use Rattle.cv_mesh.proofs.Passing.{passed_all, passed_more}
use Rattle.cv_cluster.proofs.sharing.clear_all.Goals as goal

pub loop-place-preserved : goal.loop-place-preserved
loop-place-preserved c =
    passed_more Cleared c.args.stations.now c.loop-place.stations c.loop-place.place c.loop-place.invariant c.index-stations-place.result c.clear.new.station (let l = c.loop-place.invariant.long in omega (arith, c.loop-place-test.true, l)) (sym c.index-stations-place.is) c.clear.ensures

pub returns : goal.returns
returns c =
    passed_all Cleared c.args.stations.now c.loop-place.stations c.loop-place.place c.loop-place.invariant (let l = c.loop-place.invariant.long in omega (arith, c.loop-place-test.false, l))
