use Rattle.std.proofs.Common.{[], ◌∷◌, ◌++◌}
use Rattle.cv_lex.specs.declared.word.Mark.TheVariants.{OpenBracket, CloseBracket}
use Rattle.cv_readers.specs.Slots.{mark, opening}
use Rattle.cv_syntax.specs.Spelling.{in_level, index_slots}
use Rattle.cv_writing.proofs.Prints.{on_ok, adds_closed, level_parts}
use Rattle.cv_writing.proofs.print_rules.print_bracket.Goals as goal

pub returns : goal.returns
returns c =
    on_ok c.push_mark-2.result
    (adds_closed _ _ _ _ (mark OpenBracket) (mark CloseBracket) (index_slots c.args.found.now) (in_level (opening OpenBracket) (index_slots c.args.found.now ++ mark CloseBracket ∷ [])) (level_parts OpenBracket (index_slots c.args.found.now ++ mark CloseBracket ∷ [])) c.in_ok-push_mark.ensures c.in_ok-print_index.ensures)
    c.push_mark-2.ensures
