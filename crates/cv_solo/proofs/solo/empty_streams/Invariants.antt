use Rattle.std.proofs.Common.{◌≡◌, [], replicate}
use Rattle.cv_solo.proofs.solo.empty_streams.Given as goal

abbrev pub invariant-loop : goal.invariant-loop
invariant-loop l = l.streams.items ≡ replicate l.counter (record { wrote = []; took = 0 })
