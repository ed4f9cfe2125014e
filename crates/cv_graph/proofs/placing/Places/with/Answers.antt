use Rattle.std.proofs.Common.{ℕ, [], ◌∷◌, ◌++◌, sym, ◌∙◌, ap, subst}
use Rattle.cv_expand.specs.Paths.{path_text, IsPath}
use Rattle.cv_graph.proofs.Lookups.{tabled_push}
use Rattle.cv_graph.proofs.placing.Places.with.Goals as goal

pub returns : goal.returns
returns c = λ ps p tabled path_is head_is.
    let same = c.as_slice.ensures ∙ sym path_is in
    tabled_push ps p c.args.self _ c.args.head c.in_ok-text.text tabled (sym head_is) (c.in_ok-text.ensures.text ∙ ap path_text same) (subst IsPath same c.in_ok-text.ensures.steps)
    (c.in_ok-by_path.ensures ∙ ap (λ (n : ℕ). c.args.self.by_path ++ record { key = c.in_ok-text.text; value = n } ∷ []) c.len.ensures) c.in_ok-push.ensures.ok
