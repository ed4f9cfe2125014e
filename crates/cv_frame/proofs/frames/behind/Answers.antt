use Rattle.std.proofs.Common.{◌≡◌, List, ◌∷◌, get_or, sym, ap, ◌∙◌}
use Rattle.cv_token.specs.declared.token.Token.{Token}
use Rattle.cv_token.specs.declared.token.Token.TheVariants as tree
use Rattle.cv_frame.specs.Trees.{word}
use Rattle.cv_frame.specs.laws.Shapes.{same_list}
use Rattle.cv_frame.proofs.frames.behind.Goals as goal

pub returns-else-is_word : goal.returns-else-is_word
returns-else-is_word c = λ ts n e.
    let same : c.in_ok-first.first.now ∷ c.in_ok-first.rest.now ≡ word c.args.text.now ∷ ts = sym c.in_ok-first.ensures.cases.0 ∙ same_list _ _ _ c.in_ok-parts_of.ensures.1 e in
    let no = c.if-is_word.ensures.1 (ap (λ (l : List Token). get_or l 0 tree.Null) same) in cc
