use Rattle.std.proofs.Common.{[], ◌∷◌, ◌++◌}
use Rattle.cv_lex.specs.declared.word.Mark.TheVariants.{Equals, OpenBracket, CloseBracket, CloseParen}
use Rattle.cv_lex.specs.declared.word.Word.TheVariants as words
use Rattle.cv_readers.specs.Slots.{just, mark, opening}
use Rattle.cv_syntax.specs.Small.{index_name}
use Rattle.cv_syntax.specs.Spelling.{in_level, index_slots}
use Rattle.cv_writing.proofs.Prints.{on_ok, adds_both}
use Rattle.cv_writing.proofs.print_rules.print_named.Goals as goal

pub returns : goal.returns
returns c =
    let name = just (words.Name index_name) in
    let inside = in_level (opening OpenBracket) (index_slots c.args.found.now ++ mark CloseBracket ∷ []) in
    on_ok c.push_mark-2.result
    (adds_both _ _ _ (name ∷ mark Equals ∷ inside) (mark CloseParen ∷ [])
    (adds_both _ _ _ (name ∷ []) (mark Equals ∷ inside) c.in_ok-push_name.ensures (adds_both _ _ _ (mark Equals ∷ []) inside c.in_ok-push_mark.ensures c.in_ok-print_bracket.ensures)))
    c.push_mark-2.ensures
