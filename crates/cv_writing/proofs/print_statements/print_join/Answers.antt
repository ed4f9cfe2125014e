use Rattle.std.proofs.Common.{[], ◌∷◌, ◌++◌, string_bytes, sym, ap, ◌∙◌}
use Rattle.cv_lex.specs.declared.word.Mark.TheVariants.{Comma, Greater}
use Rattle.cv_readers.specs.Slots.{mark, sep_slots}
use Rattle.cv_syntax.specs.Spelling.{source_slots, aim_slots}
use Rattle.cv_writing.proofs.Prints.{on_ok, adds_both, source_anywhere}
use Rattle.cv_writing.proofs.print_statements.print_join.Goals as goal

pub returns : goal.returns
returns c =
    let join = c.args.join.now in
    let aims = sep_slots Comma aim_slots join.targets in
    on_ok c.print_separated.result
    (λ h. adds_both _ _ _ (source_slots join.at join.source) (mark Greater ∷ aims)
    (c.in_ok-print_source.ensures ∙ ap (λ z. string_bytes c.args.out.now ++ z) (sym (source_anywhere join.at join.source)))
    (adds_both _ _ _ (mark Greater ∷ []) aims c.in_ok-push_mark.ensures h))
    c.print_separated.ensures
