use Rattle.std.proofs.Common.{[], ◌∷◌, ◌++◌}
use Rattle.cv_lex.specs.declared.word.Mark.TheVariants.{Colon, OpenParen, CloseParen}
use Rattle.cv_readers.specs.Slots.{mark, listed_slots}
use Rattle.cv_syntax.specs.Spelling.{name_slots, kind_slots, arg_slots}
use Rattle.cv_writing.proofs.Prints.{on_ok, adds_both}
use Rattle.cv_writing.proofs.print_statements.print_declare.Goals as goal

pub returns : goal.returns
returns c =
    let d = c.args.declare.now in
    let args = listed_slots CloseParen arg_slots d.args in
    let made = kind_slots d.kind ++ mark OpenParen ∷ args in
    on_ok c.close_args.result
    (λ h. adds_both _ _ _ (name_slots d.name) (mark Colon ∷ made) c.in_ok-print_name.ensures
    (adds_both _ _ _ (mark Colon ∷ []) made c.in_ok-push_mark.ensures
    (adds_both _ _ _ (kind_slots d.kind) (mark OpenParen ∷ args) c.in_ok-print_kind.ensures (adds_both _ _ _ (mark OpenParen ∷ []) args c.in_ok-push_mark-2.ensures h))))
    c.close_args.ensures
