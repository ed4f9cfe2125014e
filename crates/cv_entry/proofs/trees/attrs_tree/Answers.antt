use Rattle.std.proofs.Common.{List, map, ap, sym, subst, ◌∙◌}
use Rattle.std.proofs.lemmas.List.{take_all}
use Rattle.cv_token.specs.declared.pairs.Pair.{Pair}
use Rattle.cv_token.specs.declared.token.Token.{Token}
use Rattle.cv_token.specs.Rising.{AreRising}
use Rattle.cv_entry.specs.Trees.{attr_member}
use Rattle.cv_entry.proofs.Keyed.{members_rise}
use Rattle.cv_entry.proofs.trees.attrs_tree.Goals as goal

pub from_items-requires : goal.from_items-requires
from_items-requires c =
    let all = take_all c.loop-attr.attr-index c.as_slice-attr-items.result.now c.loop-attr-test.false ∙ c.as_slice-attr-items.ensures.value in
    subst (λ (ps : List (Pair Token)). AreRising ps) (sym (c.loop-attr.invariant ∙ ap (map attr_member) all)) (members_rise c.args.attrs.now c.as_slice-attr-items.ensures.rising)
