use Rattle.std.proofs.Common.{◌≡◌, length, drop}
use Rattle.json.specs.Print.{quoted, escape}
use Rattle.cv_token.specs.Bounds.{left}
use Rattle.cv_token.proofs.room.left_after_quoted.Given as goal

-- the rest is paid out of what is left
abbrev pub invariant-loop-byte : goal.invariant-loop-byte
invariant-loop-byte l = left l.room (length (escape (drop l.byte-index l.byte-items))) ≡ left l.fn.room (length (quoted l.fn.text))
