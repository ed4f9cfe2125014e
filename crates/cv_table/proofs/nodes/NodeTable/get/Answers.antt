use Rattle.std.proofs.Common.{sym, ap, ◌∙◌}
use Rattle.std.specs.Prelude.{nat_eq}
use Rattle.std.specs.Cmp.{nat_cmp_total}
use Rattle.cv_table.proofs.Orders.{nat_eq-ties}
use Rattle.cv_table.proofs.Maps.{get_looks_up}
use Rattle.std.specs.FinMap as map
use Rattle.cv_table.proofs.nodes.NodeTable.get.Goals as goal

pub returns : goal.returns
returns g c =
    c.get.ensures.value ∙ sym (get_looks_up nat_cmp_total nat_eq nat_eq-ties c.args.node c.self.inside.inner.entries) ∙ ap (λ t. map.get t.map c.args.node) c.self.view_is
