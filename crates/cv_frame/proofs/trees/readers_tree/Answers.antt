use Rattle.std.proofs.Common.{◌≡◌, [], ◌∷◌, ◌++◌, List, Some, slice_get, sym, ap₂, ◌∙◌, arith}
use Rattle.std.proofs.lemmas.Option.{slice_get_within}
use Rattle.cv_token.specs.declared.token.Token.{Token}
use Rattle.cv_frame.specs.Trees.{reader_tree}
use Rattle.cv_frame.proofs.Lists.{mapped_more}
use Rattle.cv_frame.proofs.Readers.{readers_whole, readers_full}
use Rattle.cv_frame.proofs.trees.readers_tree.Goals as goal

pub returns-in_default : goal.returns-in_default
returns-in_default c =
    readers_whole c.args.port.now.readers c.loop-i.i c.loop-i.readers c.loop-i.invariant.0 (sym c.reader.ensures.value ∙ c.in_default.is) c.loop-i.auto.i-end

pub returns : goal.returns
returns c = readers_full c.args.port.now.readers c.loop-i.i c.loop-i.readers c.loop-i.invariant.0 c.loop-i-test.false c.loop-i.auto.i-end

pub loop-i-preserved : goal.loop-i-preserved
loop-i-preserved c =
    let xs = c.args.port.now.readers in
    let got : slice_get xs c.loop-i.i ≡ Some c.in-Some.reader = sym c.reader.ensures.value ∙ c.in-Some.is in
    let there = slice_get_within xs c.loop-i.i c.in-Some.reader got in (
      c.in_ok-push.ensures.ok
          ∙ ap₂ (λ (ts : List Token) (t : Token). ts ++ t ∷ []) c.loop-i.invariant.0 c.in_ok-reader_tree.ensures
          ∙ sym (mapped_more reader_tree xs c.loop-i.i c.in-Some.reader got),
      omega arith,
    )
