use Rattle.std.proofs.Common.{sym, ◌∙◌, arith}
use Rattle.cv_lex.specs.declared.word.Mark.TheVariants.{Ampersand, Bar, OpenParen, CloseParen}
use Rattle.cv_readers.specs.Slots.{mark, sep_slots}
use Rattle.cv_syntax.specs.Spelling.{factor_slots, terms_slots}
use Rattle.cv_writing.proofs.Prints.{on_ok, adds_closed, adds_not, row_begun, row_next, group_parts}
use Rattle.cv_syntax.proofs.Weights.{weight, term_weight, rest_within}
use Rattle.cv_writing.proofs.print_rules.+print_factors.Goals as goal

pub print_group-returns : goal.print_group-returns
print_group-returns t c =
    on_ok c.push_mark-2.result (adds_closed _ _ _ _ (mark OpenParen) (mark CloseParen) (terms_slots c.args.terms.now) _ (group_parts c.args.terms.now) c.in_ok-push_mark.ensures c.in_ok-print_terms.ensures) c.push_mark-2.ensures

pub print_term-loop-factor-init : goal.print_term-loop-factor-init
print_term-loop-factor-init t c = row_begun Ampersand factor_slots _ _ c.in-Some.first.now c.in-Some.rest.now c.args.term.now (sym c.as_slice.ensures ∙ c.in-Some.ensures.cases.0) c.in_ok-print_factor.ensures

pub print_term-loop-factor-preserved : goal.print_term-loop-factor-preserved
print_term-loop-factor-preserved t c =
    row_next Ampersand factor_slots _ _ _ _ c.in-Some.rest.now c.loop-factor.factor-index c.factor-item.result c.loop-factor-test.true c.factor-item.is c.loop-factor.invariant c.in_ok-push_mark.ensures c.in_ok-print_factor-2.ensures

pub print_terms-loop-term-init : goal.print_terms-loop-term-init
print_terms-loop-term-init t c = row_begun Bar (sep_slots Ampersand factor_slots) _ _ c.in-Some.first.now c.in-Some.rest.now c.args.terms.now (sym c.as_slice.ensures ∙ c.in-Some.ensures.cases.0) c.in_ok-print_term.ensures

pub print_terms-loop-term-preserved : goal.print_terms-loop-term-preserved
print_terms-loop-term-preserved t c =
    row_next Bar (sep_slots Ampersand factor_slots) _ _ _ _ c.in-Some.rest.now c.loop-term.term-index c.term-item.result c.loop-term-test.true c.term-item.is c.loop-term.invariant c.in_ok-push_mark.ensures c.in_ok-print_term-2.ensures

pub print_factor-returns-in_ok-push_mark-in-Not : goal.print_factor-returns-in_ok-push_mark-in-Not
print_factor-returns-in_ok-push_mark-in-Not t c =
    on_ok c.print_factor.result (adds_not _ _ _ c.args.factor.now c.in-Not.inner c.get.result.now c.in-Not.is c.get.ensures c.in_ok-push_mark-in-Not.ensures) c.print_factor.ensures

-- what is inside weighs less

pub print_term-print_factor-requires-in-loop-factor : goal.print_term-print_factor-requires-in-loop-factor
print_term-print_factor-requires-in-loop-factor t c =
    let all = sym c.as_slice.ensures ∙ c.in-Some.ensures.cases.0 in
    let within = rest_within weight c.args.term.now c.in-Some.first.now c.in-Some.rest.now c.loop-factor.factor-index c.factor-item.result all c.loop-factor-test.true c.factor-item.is in
    (omega (arith, within, c.decreases), tt)

pub print_terms-print_term-requires-in-loop-term : goal.print_terms-print_term-requires-in-loop-term
print_terms-print_term-requires-in-loop-term t c =
    let all = sym c.as_slice.ensures ∙ c.in-Some.ensures.cases.0 in
    let within = rest_within term_weight c.args.terms.now c.in-Some.first.now c.in-Some.rest.now c.loop-term.term-index c.term-item.result all c.loop-term-test.true c.term-item.is in
    (omega (arith, within, c.decreases), tt)
