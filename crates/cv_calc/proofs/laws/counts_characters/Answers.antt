use Rattle.cv_calc.proofs.Characters.{counted}
use Rattle.cv_calc.proofs.laws.counts_characters.Goals as goal

pub returns : goal.returns
returns c = counted
