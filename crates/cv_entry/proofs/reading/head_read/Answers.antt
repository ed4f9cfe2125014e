use Rattle.std.proofs.lemmas.Result.{IfOk-weaker}
use Rattle.cv_frame.proofs.Held.{again, spelled_at}
use Rattle.cv_entry.specs.Trees.{head_tree}
use Rattle.cv_entry.specs.Values.{IsHead}
use Rattle.cv_entry.specs.laws.OneEntry.{one_head}
use Rattle.cv_entry.proofs.Held.{head_held}
use Rattle.cv_entry.proofs.reading.head_read.Goals as goal

pub returns-in_default : goal.returns-in_default
returns-in_default c =
    let none = rw c.in_default.is at c.in_ok-tree.ensures in record {
      exact = λ v k e. none (head_tree v) (head_held v k) e;
      again = λ v k e. absurd (none (head_tree v) (head_held v k) e);
    }

pub returns : goal.returns
returns c =
    let tree = rw c.in-Some.is at c.in_ok-tree.ensures in record {
      exact = IfOk-weaker c.head_of.result _ _ (λ o at. spelled_at IsHead head_tree head_held _ _ o tree at) c.head_of.ensures;
      again = λ v k e. IfOk-weaker c.head_of.result _ _ (λ o at. again IsHead head_tree head_held one_head _ o v (spelled_at IsHead head_tree head_held _ _ o tree at) k e) c.head_of.ensures;
    }
