use Rattle.std.proofs.Common.{[], ◌∷◌}
use Rattle.cv_lex.specs.declared.word.Mark.TheVariants.{OpenParen}
use Rattle.cv_lex.specs.declared.word.Word.TheVariants as words
use Rattle.cv_readers.specs.Slots.{just, opening}
use Rattle.cv_syntax.specs.Small.{match_name}
use Rattle.cv_syntax.specs.Spelling.{in_level, group_slots}
use Rattle.cv_writing.proofs.Prints.{on_ok, adds_both, adds_level}
use Rattle.cv_writing.proofs.print_rules.print_match.Goals as goal

pub returns : goal.returns
returns c =
    let name = just (words.Name match_name) in
    let inside = group_slots c.args.found.now in
    on_ok c.print_named.result
    (λ h. adds_both _ _ _ (name ∷ []) (in_level (opening OpenParen) inside) c.in_ok-push_name.ensures (adds_level _ _ _ OpenParen inside c.in_ok-push_mark.ensures h))
    c.print_named.ensures
