use Rattle.std.proofs.Common.{[], ◌∷◌, ◌++◌}
use Rattle.cv_lex.specs.declared.word.Mark.TheVariants.{Arrow, CloseParen, OpenBrace, OpenParen}
use Rattle.cv_readers.specs.Slots.{mark, listed_slots}
use Rattle.cv_syntax.specs.Spelling.{name_slots}
use Rattle.cv_writing.proofs.Prints.{on_ok, adds_both}
use Rattle.cv_writing.proofs.printing.print_head.Goals as goal

pub returns : goal.returns
returns c =
    let head = c.args.component.now in
    let name = name_slots head.name in
    let args = listed_slots CloseParen name_slots head.args in
    let ins = listed_slots Arrow name_slots head.inports in
    let outs = listed_slots OpenBrace name_slots head.outports in
    on_ok c.close_names-3.result
    (adds_both _ _ _ (name ++ (mark OpenParen ∷ args) ++ ins) outs
    (adds_both _ _ _ (name ++ (mark OpenParen ∷ args)) ins
    (adds_both _ _ _ name (mark OpenParen ∷ args) c.in_ok-print_name.ensures (adds_both _ _ _ (mark OpenParen ∷ []) args c.in_ok-push_mark.ensures c.in_ok-close_names.ensures)) c.in_ok-close_names-2.ensures))
    c.close_names-3.ensures
