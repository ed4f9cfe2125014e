use Rattle.std.proofs.Common.{sym, ap, ◌∙◌}
use Rattle.cv_table.specs.Order.{same_actor}
use Rattle.cv_table.proofs.Orders.{actor_cmp_total, actor_cmp-IsAntisymmetric, same_actor-ties}
use Rattle.cv_table.proofs.Maps.{get_looks_up, is_insert}
use Rattle.std.specs.FinMap as map
use Rattle.cv_table.proofs.Loans.{same_read, there}
use Rattle.indexmap.specs.IndexMap.{spare}
use Rattle.cv_table.proofs.actors.ActorTable.get_mut.Goals as goal

pub returns : goal.returns
returns g c = (
  same_read c.get_mut.result _ _ _ _ (λ is w. let h = c.get_mut.follows.holds w in
      let put = is_insert actor_cmp_total same_actor same_actor-ties actor_cmp-IsAntisymmetric _ _ c.args.actor w (h.3 (there c.get_mut.result c.get_mut.ensures.value is)).0 in
      λ i. record {
        map = (put ∙ ap (λ t. map.insert t.map c.args.actor w) c.self.view_is) i;
        spare = (h.6 ∙ ap (λ t. t.spare) c.self.view_is) i;
      }) (λ none. ap (λ n. record { map = map.from_entries n.entries; spare = spare n }) c.get_mut.follows.holds-at-none ∙ c.self.view_is),
  record {
    writes_back = tt;
    value = c.get_mut.ensures.value ∙ sym (get_looks_up actor_cmp_total same_actor same_actor-ties c.args.actor c.self.inside.inner.entries) ∙ ap (λ t. map.get t.map c.args.actor) c.self.view_is;
  },
)
