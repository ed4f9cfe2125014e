use Rattle.std.proofs.Common.{◌≡◌, true, ℕ, List, [], ◌∷◌, codes, sym, ap, subst, ◌∙◌, arith}
use Rattle.std.proofs.lemmas.Str.{is_utf8-from_IsUtf8}
use Rattle.std.specs.Str.{is_utf8}
use Rattle.cv_token.specs.declared.token.Token.{Token}
use Rattle.cv_token.specs.declared.token.Token.TheVariants as tree
use Rattle.cv_kinds.specs.Net.{Net}
use Rattle.cv_kinds.specs.WellFormed.{IsWellFormed}
use Rattle.cv_network.specs.Written.{network_token}
use Rattle.cv_frame.specs.Trees.{word}
use Rattle.cv_frame.specs.laws.Shapes.{listed, part_behind, stands}
use Rattle.cv_entry.proofs.carried.deploy_event.Goals as goal

pub returns-in_default-rest : goal.returns-in_default-rest
returns-in_default-rest c = λ name net k e. c.in_default-rest.not-Text name (part_behind _ _ _ _ _ 0 _ c.in-Some.ensures.1 c.index-rest-0.is e)

pub returns-in_default-2 : goal.returns-in_default-2
returns-in_default-2 c = λ name net k e. (rw c.in_default-2.is at c.in_ok-net.ensures.exact) net k.1 (part_behind _ _ _ _ _ 1 _ c.in-Some.ensures.1 c.index-rest-1.is e)

pub returns : goal.returns
returns c =
    let n = rw c.in-Some-2.is at c.in_ok-net.ensures.exact in
    let text = c.from_string-name.ensures ∙ c.in_ok-from_str.ensures.ok in
    subst (λ (x : Net). ((is_utf8 c.from_string-name.result ≡ true) × IsWellFormed x) × (c.args.token.now ≡ tree.List (word (codes "deploy") ∷ word c.from_string-name.result ∷ network_token x ∷ []))) (sym c.in_ok-net-2.ensures) (
      (subst (λ (s : List ℕ). is_utf8 s ≡ true) (sym text) (is_utf8-from_IsUtf8 _ c.as_str.utf8), n.0),
      c.in-Some.ensures.1 ∙ ap (λ (l : List Token). tree.List (word (codes "deploy") ∷ l)) (listed _ _ (omega (arith, c.in-Some.ensures.0)) (
        stands c.in-Some.rest.now 0 _ _ (c.in-Text.is ∙ ap tree.Text (sym (text ∙ c.as_str.ensures))) c.index-rest-0.is,
        (stands c.in-Some.rest.now 1 _ _ n.1 c.index-rest-1.is, tt),
      )),
    )
