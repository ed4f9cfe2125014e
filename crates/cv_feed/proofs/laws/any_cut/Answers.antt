use Rattle.cv_feed.proofs.Reading.{Reads-append}
use Rattle.cv_feed.proofs.laws.any_cut.Goals as goal

pub returns : goal.returns
returns g c = Reads-append g.T.Format.Spells
