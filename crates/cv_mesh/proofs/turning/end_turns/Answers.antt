use Rattle.std.proofs.Common.{sym, arith}
use Rattle.cv_mesh.specs.Moving.{Turns}
use Rattle.cv_mesh.proofs.Passing.{passed_all, passed_more}
use Rattle.cv_mesh.proofs.turning.end_turns.Goals as goal

pub loop-place-preserved : goal.loop-place-preserved
loop-place-preserved c =
    passed_more Turns c.args.stations.now c.loop-place.stations c.loop-place.place c.loop-place.invariant c.index-stations-place.result c.end_turn.new.station (let l = c.loop-place.invariant.long in omega (arith, c.loop-place-test.true, l)) (sym c.index-stations-place.is) c.end_turn.ensures

pub returns : goal.returns
returns c =
    passed_all Turns c.args.stations.now c.loop-place.stations c.loop-place.place c.loop-place.invariant (let l = c.loop-place.invariant.long in omega (arith, c.loop-place-test.false, l))
