use Rattle.std.proofs.Common.{◌≡◌, ◌+◌, ◌*◌, take}
use Rattle.cv_syntax.proofs.Weights.{weight, term_weight, terms_weight}
use Rattle.cv_expand.proofs.rules.+copy.Given as goal

-- what has been copied is what has been passed
abbrev pub invariant-copy_term-loop-factor : goal.invariant-copy_term-loop-factor
invariant-copy_term-loop-factor l = l.copies ≡ take l.factor-index l.factor-items

abbrev pub invariant-copy_terms-loop-term : goal.invariant-copy_terms-loop-term
invariant-copy_terms-loop-term l = l.copies ≡ take l.term-index l.term-items

-- a group holds terms, a term factors
abbrev pub decreases-copy_factor : goal.decreases-copy_factor
decreases-copy_factor l = 3 * weight l.factor.now

abbrev pub decreases-copy_terms : goal.decreases-copy_terms
decreases-copy_terms l = 3 * terms_weight l.terms.now + 2

abbrev pub decreases-copy_term : goal.decreases-copy_term
decreases-copy_term l = 3 * term_weight l.term.now + 1
