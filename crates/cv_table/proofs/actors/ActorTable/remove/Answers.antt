use Rattle.std.proofs.Common.{sym, ap, ◌∙◌}
use Rattle.cv_table.specs.Order.{actor_cmp, same_actor}
use Rattle.cv_table.proofs.Orders.{actor_cmp_total, actor_cmp-IsAntisymmetric, same_actor-ties}
use Rattle.cv_table.proofs.Maps.{get_looks_up, is_remove, sorted_after_removal}
use Rattle.std.specs.FinMap as map
use Rattle.cv_table.proofs.actors.ActorTable.remove.Goals as goal

pub invariant_of-self : goal.invariant_of-self
invariant_of-self g c = rw c.shift_remove.ensures.entries (sorted_after_removal actor_cmp _ _ c.self.invariant)

pub returns-clause-value : goal.returns-clause-value
returns-clause-value g c =
    c.shift_remove.ensures.value ∙ sym (get_looks_up actor_cmp_total same_actor same_actor-ties c.args.actor c.self.inside.inner.entries) ∙ ap (λ t. map.get t.map c.args.actor) c.self.view_is

pub returns-clause-rest : goal.returns-clause-rest
returns-clause-rest g c =
    is_remove actor_cmp_total same_actor same_actor-ties actor_cmp-IsAntisymmetric _ _ c.args.actor c.shift_remove.ensures.updates.0 ∙ ap (λ t. map.remove t.map c.args.actor) c.self.view_is
