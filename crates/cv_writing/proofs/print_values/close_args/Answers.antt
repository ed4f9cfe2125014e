use Rattle.std.proofs.Common.{[], ◌∷◌}
use Rattle.cv_lex.specs.declared.word.Mark.TheVariants.{Comma, CloseParen}
use Rattle.cv_readers.specs.Slots.{mark, sep_slots}
use Rattle.cv_syntax.specs.Spelling.{arg_slots}
use Rattle.cv_writing.proofs.Prints.{on_ok, adds_both}
use Rattle.cv_writing.proofs.print_values.close_args.Goals as goal

pub returns : goal.returns
returns c = on_ok c.push_mark.result (adds_both _ _ _ (sep_slots Comma arg_slots c.args.args.now) (mark CloseParen ∷ []) c.in_ok-print_separated.ensures) c.push_mark.ensures
