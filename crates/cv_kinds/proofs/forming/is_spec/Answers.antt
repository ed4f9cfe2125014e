use Rattle.std.proofs.Common.{sym, ◌∙◌, subst}
use Rattle.std.proofs.lemmas.Str.{is_utf8-from_IsUtf8}
use Rattle.std.specs.Str.{IsUtf8}
use Rattle.cv_kinds.proofs.forming.is_spec.Goals as goal

pub returns : goal.returns
returns c = (
  λ t. record { path = is_utf8-from_IsUtf8 _ (subst IsUtf8 c.as_str-path.ensures c.as_str-path.utf8); args = sym c.args_ok.ensures ∙ t },
  λ s. c.args_ok.ensures ∙ s.args,
)
