use Rattle.cv_lex.specs.declared.word.Mark.TheVariants.{Comma, OpenBrace, CloseBrace}
use Rattle.cv_readers.specs.Slots.{mark, opening, sep_slots, listed_slots}
use Rattle.cv_syntax.specs.Spelling.{in_level, field_slots}
use Rattle.cv_writing.proofs.Prints.{on_ok, adds_closed, level_parts}
use Rattle.cv_writing.proofs.print_rules.print_braced.Goals as goal

pub returns : goal.returns
returns c =
    on_ok c.push_mark-2.result
    (adds_closed _ _ _ _ (mark OpenBrace) (mark CloseBrace) (sep_slots Comma field_slots c.args.fields.now) (in_level (opening OpenBrace) (listed_slots CloseBrace field_slots c.args.fields.now)) (level_parts OpenBrace (listed_slots CloseBrace field_slots c.args.fields.now)) c.in_ok-push_mark.ensures c.in_ok-print_separated.ensures)
    c.push_mark-2.ensures
