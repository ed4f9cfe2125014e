use Rattle.std.proofs.Common.{[], ◌∷◌}
use Rattle.cv_lex.specs.declared.word.Mark.TheVariants.{Comma}
use Rattle.cv_readers.specs.Slots.{mark, sep_slots}
use Rattle.cv_syntax.specs.Spelling.{name_slots}
use Rattle.cv_writing.proofs.Prints.{on_ok, adds_both}
use Rattle.cv_writing.proofs.printing.close_names.Goals as goal

pub returns : goal.returns
returns c = on_ok c.push_mark.result (adds_both _ _ _ (sep_slots Comma name_slots c.args.names.now) (mark c.args.close ∷ []) c.in_ok-print_separated.ensures) c.push_mark.ensures
