use Rattle.cv_settle_rows.proofs.Played.{played}
use Rattle.cv_settle_rows.proofs.settles.play.Goals as goal

pub returns : goal.returns
returns c = played c.args.station.now c.work.new.self 100 c.work.ensures.works c.work.ensures.few
