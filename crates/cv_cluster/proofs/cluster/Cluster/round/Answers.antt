use Rattle.std.proofs.Common.{true, length, refl, ap, sym, ◌∙◌, subst}
use Rattle.std.proofs.lemmas.List.{with_items_is}
use Rattle.std.specs.Vec.{with_items}
use Rattle.cv_mesh.specs.Moving.{AreMeshed}
use Rattle.cv_mesh.proofs.Composing.{kept_meshed}
use Rattle.cv_cluster.specs.Cluster.{ClusterView, GoesOn}
use Rattle.cv_cluster.proofs.Advancing.{failed_written, fine_written, view_of, view_on}
use Rattle.cv_cluster.proofs.cluster.Cluster.round.Goals as goal

pub work_round-outcome-requires-after_bounds : goal.work_round-outcome-requires-after_bounds
work_round-outcome-requires-after_bounds g c = λ _ _. subst AreMeshed (sym c.deref_mut.ensures.value) (kept_meshed c.self.inside.items.items c.self.inside.failed c.self.inside.stations.items c.self.invariant.kept)

pub invariant_of-self : goal.invariant_of-self
invariant_of-self g c = failed_written c.self.inside.items.items c.self.inside.failed c.work_round-outcome.result.failed c.work_round-outcome.result.fired c.self.inside.stations.items c.deref_mut.result.now c.work_round-outcome.new.stations (with_items c.self.inside.stations c.work_round-outcome.new.stations).items c.deref_mut.ensures.value (with_items_is c.self.inside.stations c.work_round-outcome.new.stations (c.work_round-outcome.auto.stations ∙ ap length c.deref_mut.ensures.value ∙ sym c.self.inside.stations.ok.0)) c.if-outcome.true (c.work_round-outcome.ensures.goes) c.self.invariant

pub returns-then-outcome-clause-goes : goal.returns-then-outcome-clause-goes
returns-then-outcome-clause-goes g c = (c.work_round-outcome.result.fired, c.work_round-outcome.ensures.within, subst (λ (x : ClusterView). GoesOn x (view_of c.self.inside.items.items true (with_items c.self.inside.stations c.work_round-outcome.new.stations).items) c.work_round-outcome.result.fired) c.self.view_is (view_on c.self.inside.items.items c.self.inside.failed c.work_round-outcome.result.failed true c.work_round-outcome.result.fired c.self.inside.stations.items c.deref_mut.result.now c.work_round-outcome.new.stations (with_items c.self.inside.stations c.work_round-outcome.new.stations).items c.deref_mut.ensures.value (with_items_is c.self.inside.stations c.work_round-outcome.new.stations (c.work_round-outcome.auto.stations ∙ ap length c.deref_mut.ensures.value ∙ sym c.self.inside.stations.ok.0)) (c.work_round-outcome.ensures.goes) c.self.invariant), tt)

pub invariant_of-self-else-outcome : goal.invariant_of-self-else-outcome
invariant_of-self-else-outcome g c = fine_written c.self.inside.items.items c.self.inside.failed c.work_round-outcome.result.failed c.work_round-outcome.result.fired c.self.inside.stations.items c.deref_mut.result.now c.work_round-outcome.new.stations (with_items c.self.inside.stations c.work_round-outcome.new.stations).items c.deref_mut.ensures.value (with_items_is c.self.inside.stations c.work_round-outcome.new.stations (c.work_round-outcome.auto.stations ∙ ap length c.deref_mut.ensures.value ∙ sym c.self.inside.stations.ok.0)) c.if-outcome.false (c.work_round-outcome.ensures.goes) c.self.invariant

pub returns-clause-goes : goal.returns-clause-goes
returns-clause-goes g c = (c.work_round-outcome.result.fired, c.work_round-outcome.ensures.within, subst (λ (x : ClusterView). GoesOn x (view_of c.self.inside.items.items c.self.inside.failed (with_items c.self.inside.stations c.work_round-outcome.new.stations).items) c.work_round-outcome.result.fired) c.self.view_is (view_on c.self.inside.items.items c.self.inside.failed c.work_round-outcome.result.failed c.self.inside.failed c.work_round-outcome.result.fired c.self.inside.stations.items c.deref_mut.result.now c.work_round-outcome.new.stations (with_items c.self.inside.stations c.work_round-outcome.new.stations).items c.deref_mut.ensures.value (with_items_is c.self.inside.stations c.work_round-outcome.new.stations (c.work_round-outcome.auto.stations ∙ ap length c.deref_mut.ensures.value ∙ sym c.self.inside.stations.ok.0)) (c.work_round-outcome.ensures.goes) c.self.invariant), refl)
