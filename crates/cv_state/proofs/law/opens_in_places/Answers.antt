use Rattle.cv_state.proofs.Openings.{opens_in_places}
use Rattle.cv_state.proofs.law.opens_in_places.Goals as goal

pub returns : goal.returns
returns c = opens_in_places
