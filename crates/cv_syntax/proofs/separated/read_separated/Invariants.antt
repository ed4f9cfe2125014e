use Rattle.std.proofs.Common.{◌≡◌, ◌<◌, length}
use Rattle.cv_readers.specs.Reading.{is_mark}
use Rattle.cv_readers.specs.Combining.{with_front, after, many, sep}
use Rattle.cv_syntax.proofs.separated.read_separated.Given as goal

-- what is left decides
abbrev pub invariant-loop-after : goal.invariant-loop-after
invariant-loop-after g l =
    (with_front l.row (many (is_mark l.mark) (after l.mark g.T.Readable.readable_at) l.rest) ≡ sep l.mark g.T.Readable.readable_at l.fn.words)
    × (length l.rest < length l.fn.words)

abbrev pub decreases-loop-after : goal.decreases-loop-after
decreases-loop-after g l = length l.rest
