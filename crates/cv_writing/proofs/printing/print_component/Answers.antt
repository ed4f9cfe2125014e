use Rattle.std.proofs.Common.{[], ◌∷◌, ◌++◌}
use Rattle.cv_lex.specs.declared.word.Mark.TheVariants.{CloseBrace}
use Rattle.cv_lex.specs.declared.word.Reserved.TheVariants as reserved
use Rattle.cv_lex.specs.declared.word.Word.TheVariants as words
use Rattle.cv_readers.specs.Slots.{just, mark, all_slots}
use Rattle.cv_syntax.specs.Spelling.{statement_slots}
use Rattle.cv_writing.specs.Printing.{head_slots}
use Rattle.cv_writing.proofs.Prints.{on_ok, adds_both}
use Rattle.cv_writing.proofs.printing.print_component.Goals as goal

pub returns : goal.returns
returns c =
    let head = head_slots c.args.component.now in
    let body = all_slots statement_slots c.args.component.now.body in
    on_ok c.push_mark.result
    (λ h. adds_both _ _ _ (just (words.Reserved reserved.Component) ∷ []) (head ++ (body ++ mark CloseBrace ∷ [])) c.in_ok-push_reserved.ensures
    (adds_both _ _ _ head (body ++ mark CloseBrace ∷ []) c.in_ok-print_head.ensures (adds_both _ _ _ body (mark CloseBrace ∷ []) c.in_ok-print_statements.ensures h)))
    c.push_mark.ensures
