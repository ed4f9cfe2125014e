use Rattle.std.proofs.Common.{sym, ap, ◌∙◌}
use Rattle.cv_table.specs.Order.{same_conn}
use Rattle.cv_table.proofs.Orders.{conn_cmp_total, same_conn-ties}
use Rattle.cv_table.proofs.Maps.{get_looks_up}
use Rattle.std.specs.FinMap as map
use Rattle.cv_table.proofs.conns.ConnTable.get.Goals as goal

pub returns : goal.returns
returns g c =
    c.get.ensures.value ∙ sym (get_looks_up conn_cmp_total same_conn same_conn-ties c.args.conn c.self.inside.inner.entries) ∙ ap (λ t. map.get t.map c.args.conn) c.self.view_is
