use Rattle.std.proofs.Common.{◌≡◌, ◌≤◌, ◌++◌, ◌-◌, length, take, drop}
use Rattle.cv_http.specs.Windows.{window_at, window, line_feeds}
use Rattle.cv_http.specs.declared.window.TheConstants.{MOST_HEAD, MOST_LINES}
use Rattle.cv_http.proofs.window.window_of.Given as goal

abbrev pub invariant-loop-len : goal.invariant-loop-len
invariant-loop-len l = record {
  within : l.len ≤ length l.bytes;
  room : l.len ≤ MOST_HEAD;
  some : l.lines ≤ MOST_LINES;
  count : l.lines ≡ line_feeds (take l.len l.bytes);
  window : window l.bytes ≡ take l.len l.bytes ++ window_at (MOST_HEAD - l.len) (MOST_LINES - l.lines) (drop l.len l.bytes);
}

abbrev pub decreases-loop-len : goal.decreases-loop-len
decreases-loop-len l = length l.bytes - l.len
