use Rattle.std.proofs.Common.{◌≡◌, true, List, ◌∙◌, sym, ap, subst, ℕ}
use Rattle.std.proofs.lemmas.Str.{is_utf8-from_IsUtf8}
use Rattle.std.specs.Str.{is_utf8}
use Rattle.cv_token.specs.declared.token.Token.{Token}
use Rattle.cv_token.specs.declared.token.Token.TheVariants as tree
use Rattle.cv_kinds.specs.Sorts.{are_args}
use Rattle.cv_kinds.specs.Table.{line_of}
use Rattle.cv_frame.specs.Trees.{word}
use Rattle.cv_frame.proofs.states.spec_of.Goals as goal

pub returns : goal.returns
returns c =
    let text = c.from_string-path.ensures ∙ c.in_ok-from_str.ensures.ok in
    let path : c.args.path.now ≡ word c.from_string-path.result = c.in-Text-Text-List.is-0 ∙ ap tree.Text (sym (text ∙ c.as_str-2.ensures)) in
    let kind : c.args.kind.now ≡ word (line_of c.in-Some.kind).name = c.in-Text-Text-List.is-1 ∙ ap tree.Text (sym (c.in-Some.ensures.found ∙ c.as_str.ensures)) in
    let args : c.args.args.now ≡ tree.List c.in_ok-args.args = c.in-Text-Text-List.is-2 ∙ ap tree.List (sym c.in_ok-args.ensures) in (
      record {
        path = subst (λ (s : List ℕ). is_utf8 s ≡ true) (sym text) (is_utf8-from_IsUtf8 _ c.as_str-2.utf8);
        args = subst (λ (ts : List Token). are_args c.in-Some.kind ts ≡ true) (sym c.in_ok-args.ensures) (sym c.if-not-args_ok.ensures);
      },
      λ i. (path i, (kind i, args i)),
    )
