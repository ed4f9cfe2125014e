use Rattle.std.proofs.Common.{sym, ap, subst, ◌∙◌}
use Rattle.cv_table.specs.Order.{app_cmp, same_app}
use Rattle.cv_table.proofs.Orders.{app_cmp_total, app_cmp-IsAntisymmetric, same_app-ties}
use Rattle.cv_table.proofs.Maps.{get_looks_up, is_insert, strictly_sorted, sorted_weakly}
use Rattle.std.specs.FinMap as map
use Rattle.std.specs.Map.{keys_of}
use Rattle.std.specs.List.Sorted.{IsStrictlySortedBy}
use Rattle.cv_table.proofs.apps.AppTable.insert.Goals as goal
use Rattle.cv_table.proofs.apps.AppTable.insert.Goals.{in-Ok, in-Err}

pub invariant_of-self : goal.invariant_of-self
invariant_of-self g c =
    elim c.match-insert_sorted.branch [
      | in-Ok w ↦ strictly_sorted app_cmp_total same_app same_app-ties _ c.args.app (w.in-Ok.ensures.sorted (sorted_weakly app_cmp_total _ c.self.invariant)) c.insert_sorted.ensures.unique
      | in-Err w ↦ subst (λ es. IsStrictlySortedBy app_cmp (keys_of es)) (sym w.in-Err.ensures.err) c.self.invariant
    ]

pub returns-clause-ok : goal.returns-clause-ok
returns-clause-ok g c =
    elim c.match-insert_sorted.branch [
      | in-Ok w ↦ rw w.result-is (is_insert app_cmp_total same_app same_app-ties app_cmp-IsAntisymmetric _ _ c.args.app c.args.value w.in-Ok.ensures.updates.0 ∙ ap (λ t. map.insert t.map c.args.app c.args.value) c.self.view_is)
      | in-Err w ↦ rw w.result-is tt
    ]

pub returns-clause-replaced : goal.returns-clause-replaced
returns-clause-replaced g c =
    elim c.match-insert_sorted.branch [
      | in-Ok w ↦ rw w.result-is (w.in-Ok.ensures.old ∙ sym (get_looks_up app_cmp_total same_app same_app-ties c.args.app c.self.inside.inner.entries) ∙ ap (λ t. map.get t.map c.args.app) c.self.view_is)
      | in-Err w ↦ rw w.result-is tt
    ]

pub returns-clause-err : goal.returns-clause-err
returns-clause-err g c =
    elim c.match-insert_sorted.branch [
      | in-Ok w ↦ rw w.result-is tt
      | in-Err w ↦ rw w.result-is (ap (map.from_entries {R = app_cmp}) w.in-Err.ensures.err ∙ ap (λ t. t.map) c.self.view_is)
    ]

pub returns-clause-absent : goal.returns-clause-absent
returns-clause-absent g c =
    elim c.match-insert_sorted.branch [
      | in-Ok w ↦ rw w.result-is tt
      | in-Err w ↦ rw w.result-is (ap (λ t. map.get t.map c.args.app) (sym c.self.view_is) ∙ get_looks_up app_cmp_total same_app same_app-ties c.args.app c.self.inside.inner.entries ∙ w.in-Err.ensures.absent)
    ]
