use Rattle.std.proofs.Common.{[], ◌∷◌, ◌++◌}
use Rattle.cv_lex.specs.declared.word.Mark.TheVariants.{Colon, Comma}
use Rattle.cv_lex.specs.declared.word.Reserved.TheVariants as reserved
use Rattle.cv_lex.specs.declared.word.Word.TheVariants as words
use Rattle.cv_readers.specs.Slots.{placed, mark, sep_slots}
use Rattle.cv_syntax.specs.Spelling.{name_slots, terms_slots}
use Rattle.cv_writing.proofs.Prints.{on_ok, adds_both}
use Rattle.cv_writing.proofs.printing.print_apply.Goals as goal

pub returns : goal.returns
returns c =
    let a = c.args.apply.now in
    let names = sep_slots Comma name_slots a.names in
    let terms = terms_slots a.terms in
    on_ok c.print_terms.result
    (λ h. adds_both _ _ _ (placed (words.Reserved reserved.Apply) a.at ∷ []) (names ++ mark Colon ∷ terms) c.in_ok-push_reserved.ensures
    (adds_both _ _ _ names (mark Colon ∷ terms) c.in_ok-print_separated.ensures (adds_both _ _ _ (mark Colon ∷ []) terms c.in_ok-push_mark.ensures h)))
    c.print_terms.ensures
