use Rattle.cv_feed.proofs.Reading.{Reads-unique}
use Rattle.cv_feed.proofs.laws.one_reading.Goals as goal

pub returns : goal.returns
returns g c = Reads-unique g.T.Format.Spells g.met.T.Format.one
