use Rattle.std.proofs.lemmas.Result.{IfOk-weaker}
use Rattle.cv_frame.proofs.Held.{again, spelled_at}
use Rattle.cv_entry.specs.Trees.{entry_tree}
use Rattle.cv_entry.specs.Values.{IsEntry}
use Rattle.cv_entry.specs.laws.OneEntry.{one_entry}
use Rattle.cv_entry.proofs.Held.{entry_held}
use Rattle.cv_entry.proofs.reading.entry_read.Goals as goal

pub returns-in_default : goal.returns-in_default
returns-in_default c =
    let none = rw c.in_default.is at c.in_ok-tree.ensures in record {
      exact = λ v k e. none (entry_tree v) (entry_held v k) e;
      again = λ v k e. absurd (none (entry_tree v) (entry_held v k) e);
    }

pub returns : goal.returns
returns c =
    let tree = rw c.in-Some.is at c.in_ok-tree.ensures in record {
      exact = IfOk-weaker c.entry_of.result _ _ (λ o at. spelled_at IsEntry entry_tree entry_held _ _ o tree at) c.entry_of.ensures;
      again = λ v k e. IfOk-weaker c.entry_of.result _ _ (λ o at. again IsEntry entry_tree entry_held one_entry _ o v (spelled_at IsEntry entry_tree entry_held _ _ o tree at) k e) c.entry_of.ensures;
    }
