use Rattle.std.proofs.lemmas.Bool.Decides.{same_from_decides}
use Rattle.cv_behave.proofs.Sameness.{Decides-are_same}
use Rattle.cv_behave.proofs.values.same.Goals as goal

pub returns : goal.returns
returns c = same_from_decides _ _ c.are_equal.ensures (Decides-are_same _ _)
