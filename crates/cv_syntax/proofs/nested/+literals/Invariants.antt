use Rattle.std.proofs.Common.{◌≡◌, ◌+◌, ◌*◌, ◌<◌, length}
use Rattle.cv_lex.specs.declared.word.Mark.TheVariants.{Comma}
use Rattle.cv_readers.specs.Reading.{is_mark}
use Rattle.cv_readers.specs.Combining.{with_front, after, many, sep}
use Rattle.cv_syntax.specs.Nested.{literal_at, pair_with}
use Rattle.cv_syntax.proofs.nested.+literals.Given as goal

-- what is left decides
abbrev pub invariant-read_literal_row-loop-after : goal.invariant-read_literal_row-loop-after
invariant-read_literal_row-loop-after l =
    (with_front l.row (many (is_mark Comma) (after Comma (literal_at l.levels)) l.rest) ≡ sep Comma (literal_at l.levels) l.fn.words)
    × (length l.rest < length l.fn.words)

abbrev pub decreases-read_literal_row-loop-after : goal.decreases-read_literal_row-loop-after
decreases-read_literal_row-loop-after l = length l.rest

abbrev pub invariant-read_pair_row-loop-after : goal.invariant-read_pair_row-loop-after
invariant-read_pair_row-loop-after l =
    (with_front l.row (many (is_mark Comma) (after Comma (pair_with (literal_at l.levels))) l.rest) ≡ sep Comma (pair_with (literal_at l.levels)) l.fn.words)
    × (length l.rest < length l.fn.words)

abbrev pub decreases-read_pair_row-loop-after : goal.decreases-read_pair_row-loop-after
decreases-read_pair_row-loop-after l = length l.rest

-- the levels that are left
abbrev pub decreases-read_literal : goal.decreases-read_literal
decreases-read_literal l = 8 * l.levels + 1

abbrev pub decreases-read_nest : goal.decreases-read_nest
decreases-read_nest l = 8 * l.levels

abbrev pub decreases-read_list : goal.decreases-read_list
decreases-read_list l = 8 * l.levels + 4

abbrev pub decreases-read_literal_row : goal.decreases-read_literal_row
decreases-read_literal_row l = 8 * l.levels + 3

abbrev pub decreases-read_dict : goal.decreases-read_dict
decreases-read_dict l = 8 * l.levels + 4

abbrev pub decreases-read_pair_row : goal.decreases-read_pair_row
decreases-read_pair_row l = 8 * l.levels + 3

abbrev pub decreases-read_pair : goal.decreases-read_pair
decreases-read_pair l = 8 * l.levels + 2
