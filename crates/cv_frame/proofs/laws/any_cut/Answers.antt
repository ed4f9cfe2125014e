use Rattle.cv_feed.proofs.Reading.{Reads-append}
use Rattle.cv_frame.specs.Wire.{IsFramed}
use Rattle.cv_frame.proofs.laws.any_cut.Goals as goal

pub returns : goal.returns
returns c = Reads-append IsFramed
