use Rattle.cv_actor.proofs.Settled.{comes_back}
use Rattle.cv_actor.proofs.law.comes_back_as_it_left.Goals as goal

pub returns : goal.returns
returns c = comes_back
