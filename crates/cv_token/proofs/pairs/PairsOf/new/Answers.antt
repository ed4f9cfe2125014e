-- No keys rise.
use Rattle.std.proofs.Common.{subst, sym}
use Rattle.std.specs.List.Sorted.{IsStrictlySortedBy}
use Rattle.cv_token.specs.Rising.{AreRising}
use Rattle.cv_token.proofs.pairs.PairsOf.new.Goals as goal

pub invariant_of-result : goal.invariant_of-result
unfolding IsStrictlySortedBy
invariant_of-result g c = subst AreRising (sym c.new.ensures) tt
