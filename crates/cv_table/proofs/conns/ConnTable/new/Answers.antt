use Rattle.cv_table.specs.Order.{conn_cmp}
use Rattle.cv_table.proofs.Maps.{sorted_none}
use Rattle.cv_table.proofs.conns.ConnTable.new.Goals as goal

pub invariant_of-result : goal.invariant_of-result
invariant_of-result g c = rw c.new.ensures.empty (sorted_none conn_cmp)
