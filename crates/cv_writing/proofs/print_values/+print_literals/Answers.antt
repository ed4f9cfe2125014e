use Rattle.std.proofs.Common.{sym, ◌∙◌}
use Rattle.cv_lex.specs.declared.word.Mark.TheVariants.{Comma, OpenBracket, CloseBracket, OpenBrace, CloseBrace}
use Rattle.cv_readers.specs.Slots.{mark, sep_slots}
use Rattle.cv_syntax.specs.Spelling.{literal_slots}
use Rattle.cv_writing.specs.Printing.{pair_slots}
use Rattle.cv_writing.proofs.Prints.{on_ok, adds_closed, row_begun, row_next, list_parts, dict_parts}
use Rattle.cv_writing.proofs.print_values.+print_literals.Goals as goal

pub print_dict-returns : goal.print_dict-returns
print_dict-returns t c =
    on_ok c.push_mark-2.result (adds_closed _ _ _ _ (mark OpenBrace) (mark CloseBrace) (sep_slots Comma pair_slots c.args.pairs.now) _ (dict_parts c.args.pairs.now) c.in_ok-push_mark.ensures c.in_ok-print_pairs.ensures) c.push_mark-2.ensures

pub print_list-returns : goal.print_list-returns
print_list-returns t c =
    on_ok c.push_mark-2.result (adds_closed _ _ _ _ (mark OpenBracket) (mark CloseBracket) (sep_slots Comma literal_slots c.args.list.now) _ (list_parts c.args.list.now) c.in_ok-push_mark.ensures c.in_ok-print_literals.ensures) c.push_mark-2.ensures

pub print_literals-loop-literal-init : goal.print_literals-loop-literal-init
print_literals-loop-literal-init t c = row_begun Comma literal_slots _ _ c.in-Some.first.now c.in-Some.rest.now c.args.list.now (sym c.as_slice.ensures ∙ c.in-Some.ensures.cases.0) c.in_ok-print_literal.ensures

pub print_literals-loop-literal-preserved : goal.print_literals-loop-literal-preserved
print_literals-loop-literal-preserved t c =
    row_next Comma literal_slots _ _ _ _ c.in-Some.rest.now c.loop-literal.literal-index c.literal-item.result c.loop-literal-test.true c.literal-item.is c.loop-literal.invariant c.in_ok-push_mark.ensures c.in_ok-print_literal-2.ensures

pub print_pairs-loop-pair-init : goal.print_pairs-loop-pair-init
print_pairs-loop-pair-init t c = row_begun Comma pair_slots _ _ c.in-Some.first.now c.in-Some.rest.now c.args.pairs.now (sym c.as_slice.ensures ∙ c.in-Some.ensures.cases.0) c.in_ok-print_pair.ensures

pub print_pairs-loop-pair-preserved : goal.print_pairs-loop-pair-preserved
print_pairs-loop-pair-preserved t c =
    row_next Comma pair_slots _ _ _ _ c.in-Some.rest.now c.loop-pair.pair-index c.pair-item.result c.loop-pair-test.true c.pair-item.is c.loop-pair.invariant c.in_ok-push_mark.ensures c.in_ok-print_pair-2.ensures
