use Rattle.std.proofs.Common.{◌≡◌, ◌+◌, ◌≤◌, not, take, reverse}
use Rattle.std.specs.List.{prefix_len, count_by}
use Rattle.cv_deploy.specs.Faults.{is_feed}
use Rattle.cv_deploy.proofs.placing.fault_at.Given as goal

abbrev pub invariant-loop-byte : goal.invariant-loop-byte
invariant-loop-byte l = record {
  line : l.line ≡ 1 + count_by is_feed (take l.byte-index l.byte-items);
  col : l.col ≡ 1 + prefix_len (λ b. not (is_feed b)) (reverse (take l.byte-index l.byte-items));
  low : (l.line ≤ l.byte-index + 1) × (l.col ≤ l.byte-index + 1);
}
