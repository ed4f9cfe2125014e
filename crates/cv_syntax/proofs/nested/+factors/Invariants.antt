use Rattle.std.proofs.Common.{◌≡◌, ◌+◌, ◌*◌, ◌<◌, length}
use Rattle.cv_lex.specs.declared.word.Mark.TheVariants.{Ampersand, Bar}
use Rattle.cv_readers.specs.Reading.{is_mark}
use Rattle.cv_readers.specs.Combining.{with_front, after, many, sep}
use Rattle.cv_syntax.specs.Nested.{factor_at}
use Rattle.cv_syntax.proofs.nested.+factors.Given as goal

-- what is left decides
abbrev pub invariant-read_term-loop-after : goal.invariant-read_term-loop-after
invariant-read_term-loop-after l =
    (with_front l.row (many (is_mark Ampersand) (after Ampersand (factor_at l.levels)) l.rest) ≡ sep Ampersand (factor_at l.levels) l.fn.words)
    × (length l.rest < length l.fn.words)

abbrev pub decreases-read_term-loop-after : goal.decreases-read_term-loop-after
decreases-read_term-loop-after l = length l.rest

abbrev pub invariant-read_terms-loop-after : goal.invariant-read_terms-loop-after
invariant-read_terms-loop-after l =
    (with_front l.row (many (is_mark Bar) (after Bar (sep Ampersand (factor_at l.levels))) l.rest) ≡ sep Bar (sep Ampersand (factor_at l.levels)) l.fn.words)
    × (length l.rest < length l.fn.words)

abbrev pub decreases-read_terms-loop-after : goal.decreases-read_terms-loop-after
decreases-read_terms-loop-after l = length l.rest

-- the levels that are left
abbrev pub decreases-read_factor : goal.decreases-read_factor
decreases-read_factor l = 4 * l.levels + 1

abbrev pub decreases-read_lift : goal.decreases-read_lift
decreases-read_lift l = 4 * l.levels

abbrev pub decreases-read_term : goal.decreases-read_term
decreases-read_term l = 4 * l.levels + 2

abbrev pub decreases-read_terms : goal.decreases-read_terms
decreases-read_terms l = 4 * l.levels + 3
