use Rattle.std.proofs.Common.{◌≡◌, take}
use Rattle.cv_token.proofs.equality.+equal.Given as goal

-- what has been compared is the same
abbrev pub invariant-are_equal_items-loop-i : goal.invariant-are_equal_items-loop-i
invariant-are_equal_items-loop-i l = take l.i l.xs ≡ take l.i l.ys

abbrev pub invariant-are_equal_pairs-loop-i : goal.invariant-are_equal_pairs-loop-i
invariant-are_equal_pairs-loop-i l = take l.i l.xs ≡ take l.i l.ys
