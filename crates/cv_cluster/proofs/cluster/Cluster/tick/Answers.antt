use Rattle.std.proofs.Common.{◌≡◌, true, false, List, Some, None, length, refl, ap, sym, ◌∙◌, subst}
use Rattle.std.proofs.lemmas.List.{with_items_is}
use Rattle.std.specs.Vec.{with_items}
use Rattle.cv_mesh.specs.Moving.{AreMeshed}
use Rattle.cv_mesh.proofs.Composing.{kept_meshed}
use Rattle.cv_cluster.specs.Cluster.{ClusterView, GoesOn}
use Rattle.cv_station.specs.declared.station.Station.{Station}
use Rattle.cv_mesh.specs.Moving.{Each}
use Rattle.cv_cluster.specs.Holding.{IsNear}
use Rattle.cv_cluster.specs.Ticking.{AllTake, DueBelow, IsAsBefore, MayMakeRoom, SomeWakes, StationTicks, WakesAt}
use Rattle.cv_cluster.proofs.Advancing.{fine_written, goes_on_self, view_of, view_on}
use Rattle.cv_cluster.proofs.Moments.{all_tick, none_wakes, some_wakes}
use Rattle.cv_cluster.proofs.Reserving.{made_before}
use Rattle.cv_cluster.proofs.Turns.{on_any_err}
use Rattle.cv_cluster.proofs.Unspent.{all_take, due_near, nobody, nobody_starts}
use Rattle.cv_cluster.proofs.cluster.Cluster.tick.Goals as goal

pub returns-in_default-clause-goes : goal.returns-in_default-clause-goes
returns-in_default-clause-goes c = goes_on_self c.args.self.now

pub returns-in_default-clause-answers : goal.returns-in_default-clause-answers
returns-in_default-clause-answers c = (λ (h : false ≡ true). absurd (cc), λ (some : SomeWakes c.args.self.now.nodes). absurd (none_wakes c.self.inside.stations.items (subst (λ (zs : List Station). DueBelow zs (length zs) None) c.deref.ensures.value (subst (DueBelow c.deref.result.now (length c.deref.result.now)) c.in_default.is c.due_in.ensures)) (subst (λ (x : ClusterView). SomeWakes x.nodes) (sym c.self.view_is) some)))

pub tick_all-requires-clause-near : goal.tick_all-requires-clause-near
tick_all-requires-clause-near c = subst (λ (zs : List Station). IsNear zs c.in-Some.moment) (sym c.deref_mut.ensures.value) (due_near c.self.inside.items.items c.self.inside.failed c.self.inside.stations.items c.self.invariant nobody nobody_starts c.in-Some.moment (subst (λ (zs : List Station). DueBelow zs (length zs) (Some c.in-Some.moment)) c.deref.ensures.value (subst (DueBelow c.deref.result.now (length c.deref.result.now)) c.in-Some.is c.due_in.ensures)))

pub tick_all-requires-clause-take : goal.tick_all-requires-clause-take
tick_all-requires-clause-take c = subst (AllTake c.in-Some.moment) (sym c.deref_mut.ensures.value) (all_take c.self.inside.items.items c.self.inside.failed c.self.inside.stations.items c.self.invariant nobody nobody_starts c.in-Some.moment (subst (λ (zs : List Station). DueBelow zs (length zs) (Some c.in-Some.moment)) c.deref.ensures.value (subst (DueBelow c.deref.result.now (length c.deref.result.now)) c.in-Some.is c.due_in.ensures)))

pub tick_all-requires-clause-meshed : goal.tick_all-requires-clause-meshed
tick_all-requires-clause-meshed c = subst AreMeshed (sym c.deref_mut.ensures.value) (kept_meshed c.self.inside.items.items c.self.inside.failed c.self.inside.stations.items c.self.invariant.kept)

pub invariant_of-self : goal.invariant_of-self
invariant_of-self c = fine_written c.self.inside.items.items c.self.inside.failed false 0 c.self.inside.stations.items c.deref_mut.result.now c.tick_all.new.stations (with_items c.self.inside.stations c.tick_all.new.stations).items c.deref_mut.ensures.value (with_items_is c.self.inside.stations c.tick_all.new.stations (c.tick_all.auto.stations ∙ ap length c.deref_mut.ensures.value ∙ sym c.self.inside.stations.ok.0)) refl (c.tick_all.ensures.goes) c.self.invariant

pub returns-in_err-tick_all-clause-goes : goal.returns-in_err-tick_all-clause-goes
returns-in_err-tick_all-clause-goes c = subst (λ (x : ClusterView). GoesOn x (view_of c.self.inside.items.items c.self.inside.failed (with_items c.self.inside.stations c.tick_all.new.stations).items) 0) c.self.view_is (view_on c.self.inside.items.items c.self.inside.failed false c.self.inside.failed 0 c.self.inside.stations.items c.deref_mut.result.now c.tick_all.new.stations (with_items c.self.inside.stations c.tick_all.new.stations).items c.deref_mut.ensures.value (with_items_is c.self.inside.stations c.tick_all.new.stations (c.tick_all.auto.stations ∙ ap length c.deref_mut.ensures.value ∙ sym c.self.inside.stations.ok.0)) (c.tick_all.ensures.goes) c.self.invariant)

pub returns-in_err-tick_all-clause-err : goal.returns-in_err-tick_all-clause-err
returns-in_err-tick_all-clause-err c =
    let same = with_items_is c.self.inside.stations c.tick_all.new.stations (c.tick_all.auto.stations ∙ ap length c.deref_mut.ensures.value ∙ sym c.self.inside.stations.ok.0) in
    let makes = subst (λ (zs : List Station). Each MayMakeRoom zs c.tick_all.new.stations) c.deref_mut.ensures.value c.in_err-tick_all.ensures.err in
    on_any_err c.from_residual.result (subst (λ (x : ClusterView). IsAsBefore x (view_of c.self.inside.items.items c.self.inside.failed (with_items c.self.inside.stations c.tick_all.new.stations).items)) c.self.view_is (made_before c.self.inside.items.items c.self.inside.failed c.self.inside.stations.items (with_items c.self.inside.stations c.tick_all.new.stations).items (subst (Each MayMakeRoom c.self.inside.stations.items) (sym same) makes)))

pub invariant_of-self-2 : goal.invariant_of-self-2
invariant_of-self-2 c = fine_written c.self.inside.items.items c.self.inside.failed false 0 c.self.inside.stations.items c.deref_mut.result.now c.tick_all.new.stations (with_items c.self.inside.stations c.tick_all.new.stations).items c.deref_mut.ensures.value (with_items_is c.self.inside.stations c.tick_all.new.stations (c.tick_all.auto.stations ∙ ap length c.deref_mut.ensures.value ∙ sym c.self.inside.stations.ok.0)) refl (c.tick_all.ensures.goes) c.self.invariant

pub returns-clause-goes : goal.returns-clause-goes
returns-clause-goes c = subst (λ (x : ClusterView). GoesOn x (view_of c.self.inside.items.items c.self.inside.failed (with_items c.self.inside.stations c.tick_all.new.stations).items) 0) c.self.view_is (view_on c.self.inside.items.items c.self.inside.failed false c.self.inside.failed 0 c.self.inside.stations.items c.deref_mut.result.now c.tick_all.new.stations (with_items c.self.inside.stations c.tick_all.new.stations).items c.deref_mut.ensures.value (with_items_is c.self.inside.stations c.tick_all.new.stations (c.tick_all.auto.stations ∙ ap length c.deref_mut.ensures.value ∙ sym c.self.inside.stations.ok.0)) (c.tick_all.ensures.goes) c.self.invariant)

pub returns-clause-answers : goal.returns-clause-answers
returns-clause-answers c = (λ (h : true ≡ true). (c.in-Some.moment, subst (λ (x : ClusterView). WakesAt x.nodes c.in-Some.moment) c.self.view_is (some_wakes c.self.inside.stations.items c.in-Some.moment (subst (λ (zs : List Station). DueBelow zs (length zs) (Some c.in-Some.moment)) c.deref.ensures.value (subst (DueBelow c.deref.result.now (length c.deref.result.now)) c.in-Some.is c.due_in.ensures)))), λ (some : SomeWakes c.args.self.now.nodes). refl)

pub returns-clause-ticks : goal.returns-clause-ticks
returns-clause-ticks c told =
    let same = with_items_is c.self.inside.stations c.tick_all.new.stations (c.tick_all.auto.stations ∙ ap length c.deref_mut.ensures.value ∙ sym c.self.inside.stations.ok.0) in
    let ticks = subst (λ (zs : List Station). Each (StationTicks c.in-Some.moment) zs c.tick_all.new.stations) c.deref_mut.ensures.value c.in_ok-tick_all.ensures.ticks in
    all_tick c.args.self.now (view_of c.self.inside.items.items c.self.inside.failed (with_items c.self.inside.stations c.tick_all.new.stations).items) c.self.inside.stations.items (with_items c.self.inside.stations c.tick_all.new.stations).items c.in-Some.moment (ap (λ (x : ClusterView). x.nodes) (sym c.self.view_is)) refl (ap (λ (x : ClusterView). x.items) c.self.view_is) (ap (λ (x : ClusterView). x.failed) c.self.view_is) (subst (λ (zs : List Station). DueBelow zs (length zs) (Some c.in-Some.moment)) c.deref.ensures.value (subst (DueBelow c.deref.result.now (length c.deref.result.now)) c.in-Some.is c.due_in.ensures)) (subst (Each (StationTicks c.in-Some.moment) c.self.inside.stations.items) (sym same) ticks)
