use Rattle.std.proofs.lemmas.Result.{IfOk-weaker}
use Rattle.cv_frame.specs.Trees.{frame_tree}
use Rattle.cv_frame.specs.Values.{IsFrame}
use Rattle.cv_entry.proofs.Behind.{one_behind}
use Rattle.cv_entry.proofs.carried.frame_behind.Goals as goal

pub returns : goal.returns
returns c = IfOk-weaker c.frame_of.result _ _ (λ o at. one_behind IsFrame frame_tree _ _ _ _ o c.in-Some.ensures.0 c.in-Some.ensures.1 c.index-rest-0.is at) c.frame_of.ensures
