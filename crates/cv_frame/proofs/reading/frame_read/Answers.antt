use Rattle.std.proofs.lemmas.Result.{IfOk-weaker}
use Rattle.cv_frame.specs.Trees.{frame_tree}
use Rattle.cv_frame.specs.Values.{IsFrame}
use Rattle.cv_frame.specs.laws.OneFrame.{one_frame}
use Rattle.cv_frame.proofs.Held.{again, frame_held, spelled_at}
use Rattle.cv_frame.proofs.reading.frame_read.Goals as goal

pub returns-in_default : goal.returns-in_default
returns-in_default c =
    let none = rw c.in_default.is at c.in_ok-tree.ensures in record {
      exact = λ v k e. none (frame_tree v) (frame_held v k) e;
      again = λ v k e. absurd (none (frame_tree v) (frame_held v k) e);
    }

pub returns : goal.returns
returns c =
    let tree = rw c.in-Some.is at c.in_ok-tree.ensures in record {
      exact = IfOk-weaker c.frame_of.result _ _ (λ o at. spelled_at IsFrame frame_tree frame_held _ _ o tree at) c.frame_of.ensures;
      again = λ v k e. IfOk-weaker c.frame_of.result _ _ (λ o at. again IsFrame frame_tree frame_held one_frame _ o v (spelled_at IsFrame frame_tree frame_held _ _ o tree at) k e) c.frame_of.ensures;
    }
