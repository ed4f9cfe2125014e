use Rattle.std.proofs.Common.{◌≡◌, ℕ, suc, ◌<◌, slice_get, Some}
use Rattle.cv_kinds.specs.declared.network.Connection.{Connection}
use Rattle.cv_kinds.specs.Wired.{IsBelow}
use Rattle.cv_kinds.proofs.forming.rise.Given as goal

-- each connection passed so far is below the next
abbrev pub invariant-loop-i : goal.invariant-loop-i
invariant-loop-i l = (c : ℕ) (j k : Connection) → suc c < l.i → slice_get l.connections c ≡ Some j → slice_get l.connections (suc c) ≡ Some k → IsBelow j k
