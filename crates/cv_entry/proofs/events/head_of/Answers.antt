use Rattle.std.proofs.Common.{List, ◌∷◌, codes, ap, ◌∙◌, arith}
use Rattle.cv_token.specs.declared.token.Token.{Token}
use Rattle.cv_token.specs.declared.token.Token.TheVariants as tree
use Rattle.cv_frame.specs.Trees.{word}
use Rattle.cv_frame.specs.laws.Shapes.{listed, part_behind, stands}
use Rattle.cv_entry.proofs.events.head_of.Goals as goal

pub returns-in_default-node_of : goal.returns-in_default-node_of
returns-in_default-node_of c = λ v k e. c.in_default-node_of.ensures v.spec.no k.no (part_behind _ _ _ _ _ 0 _ c.in-Some.ensures.1 c.index-rest-0.is e)

pub returns-in_default-room_of : goal.returns-in_default-room_of
returns-in_default-room_of c = λ v k e. c.in_default-room_of.ensures v.spec.room k.room (part_behind _ _ _ _ _ 1 _ c.in-Some.ensures.1 c.index-rest-1.is e)

pub returns-in_default-node_of-2 : goal.returns-in_default-node_of-2
returns-in_default-node_of-2 c = λ v k e. c.in_default-node_of-2.ensures v.spec.window k.window (part_behind _ _ _ _ _ 2 _ c.in-Some.ensures.1 c.index-rest-2.is e)

pub returns-in_default-count_of : goal.returns-in_default-count_of
returns-in_default-count_of c = λ v k e. c.in_default-count_of.ensures v.dropped k.dropped (part_behind _ _ _ _ _ 4 _ c.in-Some.ensures.1 c.index-rest-4.is e)

pub returns-in_default-2 : goal.returns-in_default-2
returns-in_default-2 c = λ v k e. (rw c.in_default-2.is at c.in_ok-attrs.ensures) v.spec.attrs k.attrs (part_behind _ _ _ _ _ 3 _ c.in-Some.ensures.1 c.index-rest-3.is e)

pub returns : goal.returns
returns c =
    let a = rw c.in-Some-2.is at c.in_ok-attrs.ensures in (
      record { no = c.in-Some-node_of.ensures.0; room = c.in-Some-room_of.ensures.0; window = c.in-Some-node_of-2.ensures.0; attrs = a.0; dropped = c.in-Some-count_of.ensures.0 },
      c.in-Some.ensures.1 ∙ ap (λ (l : List Token). tree.List (word (codes "node") ∷ l)) (listed _ _ (omega (arith, c.in-Some.ensures.0)) (
        stands c.in-Some.rest.now 0 _ _ c.in-Some-node_of.ensures.1 c.index-rest-0.is,
        (
          stands c.in-Some.rest.now 1 _ _ c.in-Some-room_of.ensures.1 c.index-rest-1.is,
          (
            stands c.in-Some.rest.now 2 _ _ c.in-Some-node_of-2.ensures.1 c.index-rest-2.is,
            (
              stands c.in-Some.rest.now 3 _ _ a.1 c.index-rest-3.is,
              (stands c.in-Some.rest.now 4 _ _ c.in-Some-count_of.ensures.1 c.index-rest-4.is, tt),
            ),
          ),
        ),
      )),
    )
