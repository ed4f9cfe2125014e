use Rattle.cv_table.specs.Order.{actor_cmp}
use Rattle.cv_table.proofs.Maps.{sorted_none}
use Rattle.cv_table.proofs.actors.ActorTable.new.Goals as goal

pub invariant_of-result : goal.invariant_of-result
invariant_of-result g c = rw c.new.ensures.empty (sorted_none actor_cmp)
