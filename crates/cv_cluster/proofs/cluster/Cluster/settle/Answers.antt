use Rattle.std.proofs.Common.{is_err, true, length, ap, sym, ◌∙◌, subst}
use Rattle.std.proofs.lemmas.List.{with_items_is}
use Rattle.std.specs.Vec.{with_items}
use Rattle.cv_mesh.specs.Moving.{AreMeshed}
use Rattle.cv_mesh.proofs.Composing.{kept_meshed}
use Rattle.cv_cluster.specs.Cluster.{ClusterView, GoesOn}
use Rattle.cv_cluster.proofs.Advancing.{failed_written, fine_written, settled_advances, view_of, view_on}
use Rattle.cv_cluster.proofs.cluster.Cluster.settle.Goals as goal

pub settle-requires : goal.settle-requires
settle-requires c = subst AreMeshed (sym c.deref_mut.ensures.value) (kept_meshed c.self.inside.items.items c.self.inside.failed c.self.inside.stations.items c.self.invariant.kept)

pub invariant_of-self : goal.invariant_of-self
invariant_of-self c = fine_written c.self.inside.items.items c.self.inside.failed (is_err c.settle.result) 0 c.self.inside.stations.items c.deref_mut.result.now c.settle.new.stations (with_items c.self.inside.stations c.settle.new.stations).items c.deref_mut.ensures.value (with_items_is c.self.inside.stations c.settle.new.stations (c.settle.auto.stations ∙ ap length c.deref_mut.ensures.value ∙ sym c.self.inside.stations.ok.0)) (ap is_err c.in-Ok.is) (settled_advances (is_err c.settle.result) c.deref_mut.result.now c.settle.new.stations c.settle.ensures) c.self.invariant

pub invariant_of-self-in-Err : goal.invariant_of-self-in-Err
invariant_of-self-in-Err c = failed_written c.self.inside.items.items c.self.inside.failed (is_err c.settle.result) 0 c.self.inside.stations.items c.deref_mut.result.now c.settle.new.stations (with_items c.self.inside.stations c.settle.new.stations).items c.deref_mut.ensures.value (with_items_is c.self.inside.stations c.settle.new.stations (c.settle.auto.stations ∙ ap length c.deref_mut.ensures.value ∙ sym c.self.inside.stations.ok.0)) (ap is_err c.in-Err.is) (settled_advances (is_err c.settle.result) c.deref_mut.result.now c.settle.new.stations c.settle.ensures) c.self.invariant

pub returns-in-Ok-clause-goes : goal.returns-in-Ok-clause-goes
returns-in-Ok-clause-goes c = subst (λ (x : ClusterView). GoesOn x (view_of c.self.inside.items.items c.self.inside.failed (with_items c.self.inside.stations c.settle.new.stations).items) 0) c.self.view_is (view_on c.self.inside.items.items c.self.inside.failed (is_err c.settle.result) c.self.inside.failed 0 c.self.inside.stations.items c.deref_mut.result.now c.settle.new.stations (with_items c.self.inside.stations c.settle.new.stations).items c.deref_mut.ensures.value (with_items_is c.self.inside.stations c.settle.new.stations (c.settle.auto.stations ∙ ap length c.deref_mut.ensures.value ∙ sym c.self.inside.stations.ok.0)) (settled_advances (is_err c.settle.result) c.deref_mut.result.now c.settle.new.stations c.settle.ensures) c.self.invariant)

pub returns-in-Err-clause-goes : goal.returns-in-Err-clause-goes
returns-in-Err-clause-goes c = subst (λ (x : ClusterView). GoesOn x (view_of c.self.inside.items.items true (with_items c.self.inside.stations c.settle.new.stations).items) 0) c.self.view_is (view_on c.self.inside.items.items c.self.inside.failed (is_err c.settle.result) true 0 c.self.inside.stations.items c.deref_mut.result.now c.settle.new.stations (with_items c.self.inside.stations c.settle.new.stations).items c.deref_mut.ensures.value (with_items_is c.self.inside.stations c.settle.new.stations (c.settle.auto.stations ∙ ap length c.deref_mut.ensures.value ∙ sym c.self.inside.stations.ok.0)) (settled_advances (is_err c.settle.result) c.deref_mut.result.now c.settle.new.stations c.settle.ensures) c.self.invariant)
