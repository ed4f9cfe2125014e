-- The members of a frame's tree.
use Rattle.std.proofs.Common.{◌≡◌, ℕ, List, [], ◌∷◌, get_or, Option, Some, None, refl, sym, ap, ◌∙◌, codes}
use Rattle.cv_token.specs.declared.pairs.Pair.{Pair}
use Rattle.cv_token.specs.declared.token.Token.{Token}
use Rattle.cv_token.specs.declared.token.Token.TheOpen.{Token-F}
use Rattle.cv_token.specs.declared.token.Token.TheVariants as tree
use Rattle.cv_token.specs.declared.token.Token.TheViews.{out-Token, out-roll-Token, rolls-Dict}
use Rattle.cv_token.specs.Rising.{AreRising}
use Rattle.cv_token.proofs.Rises.{AreRising-from_test}
use Rattle.cv_frame.specs.Trees.{member}

-- their keys rise
pub frame_rises : (b f s t : Pair Token) (w x y z : Token) → b ≡ member (codes "body") w → f ≡ member (codes "from") x → s ≡ member (codes "stamp") y → t ≡ member (codes "to") z → AreRising (b ∷ f ∷ s ∷ t ∷ [])
frame_rises b f s t w x y z e g h k =
    let plain : AreRising (member (codes "body") w ∷ member (codes "from") x ∷ member (codes "stamp") y ∷ member (codes "to") z ∷ []) = AreRising-from_test (member (codes "body") w ∷ member (codes "from") x ∷ member (codes "stamp") y ∷ member (codes "to") z ∷ []) refl in
    rw (e, g, h, k) plain

pairs_step : Token-F Token → Option (List (Pair Token))
pairs_step (Token-F.Dict ps) = Some ps
pairs_step _ = None

pairs_of_Dict : (ps : List (Pair Token)) → pairs_step (out-Token (tree.Dict ps)) ≡ Some ps
unfolding pairs_step
pairs_of_Dict ps = ap pairs_step (ap out-Token (sym (rolls-Dict ps)) ∙ out-roll-Token (Token-F.Dict ps))

pub same_pairs : (t : Token) (ps qs : List (Pair Token)) → t ≡ tree.Dict ps → t ≡ tree.Dict qs → ps ≡ qs
same_pairs t ps qs e f =
    let h : Some ps ≡ Some qs = sym (pairs_of_Dict ps) ∙ ap (λ (u : Token). pairs_step (out-Token u)) (sym e ∙ f) ∙ pairs_of_Dict qs in cc

-- a tree has one value behind each key
pub value_at : (t : Token) (ps qs : List (Pair Token)) (i : ℕ) → t ≡ tree.Dict ps → t ≡ tree.Dict qs → (get_or ps i (member [] tree.Null)).value ≡ (get_or qs i (member [] tree.Null)).value
value_at t ps qs i e f = ap (λ (l : List (Pair Token)). (get_or l i (member [] tree.Null)).value) (same_pairs t ps qs e f)
