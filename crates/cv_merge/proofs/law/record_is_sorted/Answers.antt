use Rattle.cv_merge.proofs.Sorting.{record_is_sorted}
use Rattle.cv_merge.proofs.law.record_is_sorted.Goals as goal

pub returns : goal.returns
returns c = record_is_sorted
