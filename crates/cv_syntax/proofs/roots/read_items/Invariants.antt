use Rattle.std.proofs.Common.{◌≡◌, length}
use Rattle.cv_readers.specs.Combining.{with_front, many}
use Rattle.cv_syntax.specs.Whole.{most_levels, is_anything, item_at}
use Rattle.cv_syntax.proofs.roots.read_items.Given as goal

-- what is left decides
abbrev pub invariant-loop-alloc : goal.invariant-loop-alloc
invariant-loop-alloc l =
    with_front l.row (many is_anything (item_at most_levels) l.rest) ≡ many is_anything (item_at most_levels) l.fn.words

abbrev pub decreases-loop-alloc : goal.decreases-loop-alloc
decreases-loop-alloc l = length l.rest
