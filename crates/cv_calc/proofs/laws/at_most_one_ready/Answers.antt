use Rattle.std.proofs.lemmas.Bool.{and_parts}
use Rattle.cv_behave.proofs.Ready.{one_alone}
use Rattle.cv_calc.proofs.laws.at_most_one_ready.Goals as goal

pub returns : goal.returns
returns c = λ args state inputs i j l d e. one_alone i j _ (and_parts _ _ d).1 (and_parts _ _ e).1
