use Rattle.cv_frame.specs.laws.Streams.{stuck}
use Rattle.cv_frame.proofs.Readable.{readable}
use Rattle.cv_frame.proofs.laws.no_frame_at_a_fault.Goals as goal

pub returns : goal.returns
returns c = λ f m bytes more front rest s framed. stuck f m bytes more front rest s (readable m front framed)
