use Rattle.std.proofs.Common.{◌≡◌, ℕ, ◌<◌, ◌≤◌, length, get_or}
use Rattle.cv_frame.proofs.stamps.split_last.Given as goal

-- the byte does not stand from here on
abbrev pub invariant-loop-at : goal.invariant-loop-at
invariant-loop-at l = record {
  within : l.at ≤ length l.bytes;
  lacks : (k d : ℕ) → l.at ≤ k → k < length l.bytes → get_or l.bytes k d ≡ l.byte → ⊥;
}

abbrev pub decreases-loop-at : goal.decreases-loop-at
decreases-loop-at l = l.at
