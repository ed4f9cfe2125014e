use Rattle.std.proofs.Common.{sym, ap, ◌∙◌}
use Rattle.cv_table.proofs.Orders.{app_cmp_total}
use Rattle.cv_table.proofs.Maps.{keys_of_sorted}
use Rattle.std.specs.FinMap as map
use Rattle.cv_table.proofs.Loans.{key_of_pair}
use Rattle.std.specs.Prelude.{slice_get, option_map}
use Rattle.std.proofs.lemmas.Option.{slice_get-map}
use Rattle.cv_table.proofs.apps.AppTable.key_at.Goals as goal

pub returns : goal.returns
returns g c =
    c.key_of.ensures ∙ key_of_pair c.get_index.result ∙ ap (option_map (λ e. e.0)) c.get_index.ensures.entry ∙ sym (slice_get-map (λ e. e.0) c.self.inside.inner.entries c.args.place) ∙ ap (λ ks. slice_get ks c.args.place) (sym (keys_of_sorted app_cmp_total _ c.self.invariant)) ∙ ap (λ t. slice_get (map.keys t.map) c.args.place) c.self.view_is
