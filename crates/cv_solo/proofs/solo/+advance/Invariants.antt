use Rattle.std.proofs.Common.{length}
use Rattle.cv_solo.proofs.solo.+advance.Given as goal

abbrev pub decreases-advance_all : goal.decreases-advance_all
decreases-advance_all l = length l.places.now
