use Rattle.std.proofs.Common.{◌≡◌, true, List, ℕ, sym, ap, subst, ◌∙◌}
use Rattle.std.proofs.lemmas.Str.{is_utf8-from_IsUtf8}
use Rattle.std.specs.Str.{is_utf8}
use Rattle.cv_token.specs.declared.token.Token.TheVariants as tree
use Rattle.cv_rules.specs.Keys.{is_key}
use Rattle.cv_entry.proofs.attrs.attr_of.Goals as goal

pub returns : goal.returns
returns c =
    let key = c.from_string-key.ensures ∙ c.in_ok-from_str.ensures.ok in
    let value = c.from_string-value.ensures ∙ c.in_ok-from_str-2.ensures.ok in (
      record {
        key = subst (λ (s : List ℕ). is_key s ≡ true) (sym key) (sym c.if-not-is_key.ensures);
        letters = subst (λ (s : List ℕ). is_utf8 s ≡ true) (sym key) (is_utf8-from_IsUtf8 _ c.as_str-key.utf8);
        text = subst (λ (s : List ℕ). is_utf8 s ≡ true) (sym value) (is_utf8-from_IsUtf8 _ c.as_str.utf8);
      },
      λ i. record { key = sym (key ∙ c.as_str-key.ensures) i; value = (c.in-Text.is ∙ ap tree.Text (sym (value ∙ c.as_str.ensures))) i },
    )
