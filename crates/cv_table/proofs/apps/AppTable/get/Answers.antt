use Rattle.std.proofs.Common.{sym, ap, ◌∙◌}
use Rattle.cv_table.specs.Order.{same_app}
use Rattle.cv_table.proofs.Orders.{app_cmp_total, same_app-ties}
use Rattle.cv_table.proofs.Maps.{get_looks_up}
use Rattle.std.specs.FinMap as map
use Rattle.cv_table.proofs.apps.AppTable.get.Goals as goal

pub returns : goal.returns
returns g c =
    c.get.ensures.value ∙ sym (get_looks_up app_cmp_total same_app same_app-ties c.args.app c.self.inside.inner.entries) ∙ ap (λ t. map.get t.map c.args.app) c.self.view_is
