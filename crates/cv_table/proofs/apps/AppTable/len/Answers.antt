use Rattle.std.proofs.Common.{sym, ap, ◌∙◌}
use Rattle.cv_table.proofs.Orders.{app_cmp_total}
use Rattle.cv_table.proofs.Maps.{len_of_sorted}
use Rattle.std.specs.FinMap as map
use Rattle.cv_table.proofs.apps.AppTable.len.Goals as goal

pub returns : goal.returns
returns g c =
    c.len.ensures.len ∙ sym (len_of_sorted app_cmp_total _ c.self.invariant) ∙ ap (λ t. map.len t.map) c.self.view_is
