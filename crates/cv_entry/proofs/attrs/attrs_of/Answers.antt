use Rattle.std.proofs.Common.{◌≡◌, ◌+◌, ℕ, List, [], map, take, sym, ap, subst, ◌∙◌}
use Rattle.std.proofs.lemmas.List.{take_all}
use Rattle.std.proofs.lemmas.List.Elements.{All-append, All-cons, All-nil}
use Rattle.std.specs.List.{All}
use Rattle.cv_token.specs.declared.pairs.Pair.{Pair}
use Rattle.cv_token.specs.declared.token.Token.{Token}
use Rattle.cv_token.specs.declared.token.Token.TheVariants as tree
use Rattle.cv_token.specs.Rising.{AreRising}
use Rattle.cv_frame.specs.laws.Members.{same_pairs}
use Rattle.cv_frame.proofs.Lists.{no_image}
use Rattle.cv_entry.specs.Trees.{attr_member}
use Rattle.cv_entry.specs.Values.{IsAttr}
use Rattle.cv_entry.proofs.Keyed.{more_members, rising_front}
use Rattle.cv_entry.proofs.attrs.attrs_of.Goals as goal

-- the members of a tree whose keys rise
rising : (ps qs : List (Pair Token)) → ps ≡ qs → AreRising qs → AreRising ps
rising ps qs e h = subst (λ (xs : List (Pair Token)). AreRising xs) (sym e) h

pub returns-in_default-2 : goal.returns-in_default-2
returns-in_default-2 c = λ v k e.
    let none = rw c.in_default-2.is at c.in_ok-attr.ensures in
    no_image IsAttr attr_member _ c.loop-pair.pair-index c.pair-item.result v c.loop-pair-test.true c.pair-item.is (λ x. none x) k.each (c.as_slice-pair-items.ensures.value ∙ same_pairs _ _ _ c.in-Dict.is e)

pub push-requires-clause-rising : goal.push-requires-clause-rising
push-requires-clause-rising c =
    let s = rw c.in-Some.is at c.in_ok-attr.ensures in
    rising_front _ c.as_slice-pair-items.result.now (c.loop-pair.pair-index + 1) (rising _ _ c.as_slice-pair-items.ensures.value c.as_slice-pair-items.ensures.rising)
    (more_members c.loop-pair.attrs c.in-Some.attr _ c.loop-pair.pair-index c.pair-item.result c.loop-pair.invariant.1 c.loop-pair-test.true c.pair-item.is s.1)

pub loop-pair-preserved : goal.loop-pair-preserved
loop-pair-preserved c =
    let s = rw c.in-Some.is at c.in_ok-attr.ensures in
    subst (λ (xs : List (Pair (List ℕ))). All IsAttr xs × (map attr_member xs ≡ take (c.loop-pair.pair-index + 1) c.as_slice-pair-items.result.now)) (sym c.in_ok-push.ensures.ok) (
      All-append IsAttr _ _ c.loop-pair.invariant.0 (All-cons IsAttr c.in-Some.attr [] s.0 (All-nil IsAttr)),
      more_members c.loop-pair.attrs c.in-Some.attr _ c.loop-pair.pair-index c.pair-item.result c.loop-pair.invariant.1 c.loop-pair-test.true c.pair-item.is s.1,
    )

pub returns : goal.returns
returns c = (
  record {
    each = c.loop-pair.invariant.0;
    rising = rising_front _ c.as_slice-pair-items.result.now c.loop-pair.pair-index (rising _ _ c.as_slice-pair-items.ensures.value c.as_slice-pair-items.ensures.rising) c.loop-pair.invariant.1;
  },
  c.in-Dict.is ∙ ap tree.Dict (sym (c.loop-pair.invariant.1 ∙ take_all c.loop-pair.pair-index c.as_slice-pair-items.result.now c.loop-pair-test.false ∙ c.as_slice-pair-items.ensures.value)),
)
