use Rattle.std.proofs.Common.{◌≡◌, ℕ, ◌+◌, ◌-◌, ◌++◌, get_or, take, drop, arith, sym, ◌∙◌, subst}
use Rattle.cv_http.specs.Windows.{window, window_at}
use Rattle.cv_http.specs.declared.window.TheConstants.{MOST_HEAD, MOST_LINES}
use Rattle.cv_http.proofs.WindowLemmas.{window_step, feeds_step, feed_most, window_end, full_end, room_left, no_room}
use Rattle.cv_http.proofs.window.window_of.Goals as goal
use Rattle.cv_http.proofs.window.window_of.Goals.{then-loop-len-test+else-not-is_full, else-loop-len-test}

pub loop-len-preserved : goal.loop-len-preserved
loop-len-preserved c =
    let bytes = c.args.bytes.now in
    let len = c.loop-len.len in
    let lines = c.loop-len.lines in
    let room = room_left len lines (sym c.is_full.ensures ∙ c.if-not-is_full.true) c.loop-len.invariant.room c.loop-len.invariant.some in
    let feeds = feeds_step bytes len c.loop-len-test.true in
    let step = window_step bytes len lines c.loop-len-test.true room.0 room.1 c.loop-len.invariant.window in
    let most = feed_most (get_or bytes len 0) in
    record {
      within = omega (arith, c.loop-len-test.true);
      room = omega (arith, room.0);
      some = omega (arith, c.line_feeds-lines.ensures, most, room.1);
      count = omega (arith, c.line_feeds-lines.ensures, feeds, c.loop-len.invariant.count);
      window = subst (λ (n : ℕ). window bytes ≡ take (len + 1) bytes ++ window_at (MOST_HEAD - (len + 1)) (MOST_LINES - (lines + n)) (drop (len + 1) bytes)) (sym c.line_feeds-lines.ensures) step;
    }

pub returns-clause-window : goal.returns-clause-window
returns-clause-window c =
    let end = window_end c.args.bytes.now c.loop-len.len c.loop-len.lines in
    elim c.loop-len-test.branch [
      | then-loop-len-test+else-not-is_full w ↦
          end (λ room few. absurd (no_room _ _ (sym w.is_full.ensures ∙ w.if-not-is_full.false) room few)) c.loop-len.invariant.window
      | else-loop-len-test w ↦ end (λ room few. w.loop-len-test.false) c.loop-len.invariant.window
    ]

pub returns-clause-full : goal.returns-clause-full
returns-clause-full c =
    c.is_full-2.ensures ∙ full_end c.args.bytes.now c.loop-len.len c.loop-len.lines c.loop-len.invariant.within
    (returns-clause-window c) c.loop-len.invariant.count
