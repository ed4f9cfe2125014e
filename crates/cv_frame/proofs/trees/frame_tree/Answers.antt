use Rattle.std.proofs.Common.{List, subst, sym, ◌∙◌}
use Rattle.cv_token.specs.declared.pairs.Pair.{Pair}
use Rattle.cv_token.specs.declared.token.Token.{Token}
use Rattle.cv_token.specs.Rising.{AreRising}
use Rattle.cv_frame.specs.laws.Members.{frame_rises}
use Rattle.cv_frame.proofs.trees.frame_tree.Goals as goal

pub from_items-requires : goal.from_items-requires
from_items-requires c =
    subst (λ (ps : List (Pair Token)). AreRising ps) (sym (c.from_vec.ensures ∙ c.in_ok-members.ensures.items))
    (frame_rises c.in_ok-body.body c.in_ok-from.from c.in_ok-stamp.stamp c.in_ok-to.to _ _ _ _ c.in_ok-body.ensures c.in_ok-from.ensures c.in_ok-stamp.ensures c.in_ok-to.ensures)
