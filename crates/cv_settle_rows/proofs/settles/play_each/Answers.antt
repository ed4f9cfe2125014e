use Rattle.std.proofs.Common.{arith}
use Rattle.cv_settle_rows.proofs.Played.{one_played}
use Rattle.cv_settle_rows.proofs.settles.play_each.Goals as goal

pub loop-place-preserved : goal.loop-place-preserved
loop-place-preserved c =
    one_played c.loop-place.stations c.loop-place.place c.index-stations-place.result c.play.new.station c.loop-place.invariant (omega (arith, c.loop-place-test.true, c.loop-place.auto.stations)) c.play.ensures
