use Rattle.std.proofs.Common.{◌≡◌, List, ◌∷◌, codes, sym, ap, subst, ◌∙◌, arith}
use Rattle.cv_token.specs.declared.token.Token.{Token}
use Rattle.cv_token.specs.declared.token.Token.TheVariants as tree
use Rattle.cv_protocol.specs.Actors.{StateView}
use Rattle.cv_protocol.specs.declared.frame.Body.TheVariants as body
use Rattle.cv_frame.specs.Trees.{body_tree, word}
use Rattle.cv_frame.specs.Values.{IsBody}
use Rattle.cv_frame.specs.laws.Ones.{one_actor}
use Rattle.cv_frame.specs.laws.Shapes.{listed, part_behind, stands}
use Rattle.cv_frame.proofs.frames.transfer_body.Goals as goal

pub returns-in_default-actor_of : goal.returns-in_default-actor_of
returns-in_default-actor_of c = λ actor n state k e. c.in_default-actor_of.ensures actor k.0 (part_behind _ _ _ _ _ 0 _ c.in-Some.ensures.1 c.index-rest-0.is e)

pub returns-in_default-count_of : goal.returns-in_default-count_of
returns-in_default-count_of c = λ actor n state k e. c.in_default-count_of.ensures n k.1 (part_behind _ _ _ _ _ 1 _ c.in-Some.ensures.1 c.index-rest-1.is e)

pub returns-in_default-2 : goal.returns-in_default-2
returns-in_default-2 c = λ actor n state k e.
    let same = one_actor c.in-Some-actor_of.actor actor c.in-Some-actor_of.ensures.0 k.0 (sym c.in-Some-actor_of.ensures.1 ∙ part_behind _ _ _ _ _ 0 _ c.in-Some.ensures.1 c.index-rest-0.is e) in
    (rw c.in_default-2.is at c.in_ok-state.ensures) state (k.2, k.3 ∙ sym same) (part_behind _ _ _ _ _ 2 _ c.in-Some.ensures.1 c.index-rest-2.is e)

pub returns : goal.returns
returns c =
    let s = rw c.in-Some-2.is at c.in_ok-state.ensures in
    subst (λ (x : StateView). IsBody (body.Transfer c.in-Some-actor_of.actor c.in-Some-count_of.attempt x) × (c.args.token.now ≡ body_tree (body.Transfer c.in-Some-actor_of.actor c.in-Some-count_of.attempt x))) (sym c.in_ok-state-2.ensures) (
      (c.in-Some-actor_of.ensures.0, c.in-Some-count_of.ensures.0, s.0.0, s.0.1),
      c.in-Some.ensures.1 ∙ ap (λ (l : List Token). tree.List (word (codes "transfer") ∷ l)) (listed _ _ (omega (arith, c.in-Some.ensures.0)) (
        stands c.in-Some.rest.now 0 _ _ c.in-Some-actor_of.ensures.1 c.index-rest-0.is,
        (
          stands c.in-Some.rest.now 1 _ _ c.in-Some-count_of.ensures.1 c.index-rest-1.is,
          (stands c.in-Some.rest.now 2 _ _ s.1 c.index-rest-2.is, tt),
        ),
      )),
    )
