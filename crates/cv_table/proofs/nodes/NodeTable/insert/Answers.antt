use Rattle.std.proofs.Common.{sym, ap, subst, ◌∙◌}
use Rattle.std.specs.Prelude.{nat_eq}
use Rattle.std.specs.Ordering.{nat_cmp}
use Rattle.std.specs.Cmp.{nat_cmp_total}
use Rattle.std.specs.FinMap.{nat_cmp-IsAntisymmetric}
use Rattle.cv_table.proofs.Orders.{nat_eq-ties}
use Rattle.cv_table.proofs.Maps.{get_looks_up, is_insert, strictly_sorted, sorted_weakly}
use Rattle.std.specs.FinMap as map
use Rattle.std.specs.Map.{keys_of}
use Rattle.std.specs.List.Sorted.{IsStrictlySortedBy}
use Rattle.cv_table.proofs.nodes.NodeTable.insert.Goals as goal
use Rattle.cv_table.proofs.nodes.NodeTable.insert.Goals.{in-Ok, in-Err}

pub invariant_of-self : goal.invariant_of-self
invariant_of-self g c =
    elim c.match-insert_sorted.branch [
      | in-Ok w ↦ strictly_sorted nat_cmp_total nat_eq nat_eq-ties _ c.args.node (w.in-Ok.ensures.sorted (sorted_weakly nat_cmp_total _ c.self.invariant)) c.insert_sorted.ensures.unique
      | in-Err w ↦ subst (λ es. IsStrictlySortedBy nat_cmp (keys_of es)) (sym w.in-Err.ensures.err) c.self.invariant
    ]

pub returns-clause-ok : goal.returns-clause-ok
returns-clause-ok g c =
    elim c.match-insert_sorted.branch [
      | in-Ok w ↦ rw w.result-is (is_insert nat_cmp_total nat_eq nat_eq-ties nat_cmp-IsAntisymmetric _ _ c.args.node c.args.value w.in-Ok.ensures.updates.0 ∙ ap (λ t. map.insert t.map c.args.node c.args.value) c.self.view_is)
      | in-Err w ↦ rw w.result-is tt
    ]

pub returns-clause-replaced : goal.returns-clause-replaced
returns-clause-replaced g c =
    elim c.match-insert_sorted.branch [
      | in-Ok w ↦ rw w.result-is (w.in-Ok.ensures.old ∙ sym (get_looks_up nat_cmp_total nat_eq nat_eq-ties c.args.node c.self.inside.inner.entries) ∙ ap (λ t. map.get t.map c.args.node) c.self.view_is)
      | in-Err w ↦ rw w.result-is tt
    ]

pub returns-clause-err : goal.returns-clause-err
returns-clause-err g c =
    elim c.match-insert_sorted.branch [
      | in-Ok w ↦ rw w.result-is tt
      | in-Err w ↦ rw w.result-is (ap (map.from_entries {R = nat_cmp}) w.in-Err.ensures.err ∙ ap (λ t. t.map) c.self.view_is)
    ]

pub returns-clause-absent : goal.returns-clause-absent
returns-clause-absent g c =
    elim c.match-insert_sorted.branch [
      | in-Ok w ↦ rw w.result-is tt
      | in-Err w ↦ rw w.result-is (ap (λ t. map.get t.map c.args.node) (sym c.self.view_is) ∙ get_looks_up nat_cmp_total nat_eq nat_eq-ties c.args.node c.self.inside.inner.entries ∙ w.in-Err.ensures.absent)
    ]
