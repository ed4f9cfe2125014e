use Rattle.std.proofs.Common.{◌≡◌, ◌+◌, ◌*◌, ◌++◌, drop, string_bytes}
use Rattle.cv_lex.specs.declared.word.Mark.TheVariants.{Ampersand, Bar}
use Rattle.cv_readers.specs.Slots.{sep_slots}
use Rattle.cv_syntax.specs.Spelling.{factor_slots, terms_slots}
use Rattle.cv_writing.specs.Printing.{printed, row}
use Rattle.cv_syntax.proofs.Weights.{weight, term_weight, terms_weight}
use Rattle.cv_writing.proofs.print_rules.+print_factors.Given as goal

-- what is left, behind what is printed
abbrev pub invariant-print_term-loop-factor : goal.invariant-print_term-loop-factor
invariant-print_term-loop-factor l = string_bytes l.out ++ row Ampersand factor_slots (drop l.factor-index l.rest) ≡ string_bytes l.fn.out ++ printed (sep_slots Ampersand factor_slots l.fn.term)

abbrev pub invariant-print_terms-loop-term : goal.invariant-print_terms-loop-term
invariant-print_terms-loop-term l = string_bytes l.out ++ row Bar (sep_slots Ampersand factor_slots) (drop l.term-index l.rest) ≡ string_bytes l.fn.out ++ printed (terms_slots l.fn.terms)

-- a group holds terms, a term factors
abbrev pub decreases-print_factor : goal.decreases-print_factor
decreases-print_factor l = 4 * weight l.factor.now

abbrev pub decreases-print_group : goal.decreases-print_group
decreases-print_group l = 4 * terms_weight l.terms.now + 3

abbrev pub decreases-print_terms : goal.decreases-print_terms
decreases-print_terms l = 4 * terms_weight l.terms.now + 2

abbrev pub decreases-print_term : goal.decreases-print_term
decreases-print_term l = 4 * term_weight l.term.now + 1
