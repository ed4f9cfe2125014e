use Rattle.std.proofs.Common.{◌≡◌, ◌++◌, take}
use Rattle.cv_solo.proofs.solo.copy_first.Given as goal

abbrev pub invariant-loop-token : goal.invariant-loop-token
invariant-loop-token l = l.heads ≡ l.fn.heads ++ take l.token-index l.token-items
