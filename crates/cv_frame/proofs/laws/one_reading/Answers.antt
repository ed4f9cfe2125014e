use Rattle.cv_feed.proofs.Reading.{Reads-unique}
use Rattle.cv_frame.specs.Wire.{IsFramed}
use Rattle.cv_frame.specs.laws.Streams.{one}
use Rattle.cv_frame.proofs.Readable.{readable}
use Rattle.cv_frame.proofs.laws.one_reading.Goals as goal

pub returns : goal.returns
returns c = Reads-unique IsFramed (λ m n a b x y s t. one m n a b x y (readable m a s) (readable n b t))
