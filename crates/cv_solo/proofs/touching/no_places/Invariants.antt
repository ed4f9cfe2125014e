use Rattle.std.proofs.Common.{◌≡◌, [], replicate}
use Rattle.cv_solo.proofs.touching.no_places.Given as goal

abbrev pub invariant-loop : goal.invariant-loop
invariant-loop l = l.places.items ≡ replicate l.counter []
