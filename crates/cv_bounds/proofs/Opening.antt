-- A node that opens with actors in their places has no number above 0.
use Rattle.std.proofs.Common.{◌≡◌, ℕ, zero, suc, ◌≤◌, Bool, true, false, ◌==◌, ◌&&◌, cond, if◌then◌else◌, List, [], ◌∷◌, Option, Some, None, refl, sym, subst, ◌∙◌, arith}
use Rattle.std.specs.FinMap as map
use Rattle.std.proofs.lemmas.Option.{same_Some, none-some as none_some}
use Rattle.cv_token.specs.declared.identifiers.ActorId.{ActorId}
use Rattle.cv_token.specs.declared.identifiers.AppId.{AppId}
use Rattle.cv_table.specs.Order.{actor_cmp, same_actor}
use Rattle.cv_table.proofs.Views.{get_inserted}
use Rattle.cv_kinds.specs.declared.network.ActorSpec.{ActorSpec}
use Rattle.cv_kinds.specs.declared.network.Connection.{Connection}
use Rattle.cv_kinds.specs.KindRow.{row_of}
use Rattle.cv_protocol.specs.declared.moving.Location.{Location}
use Rattle.cv_protocol.specs.declared.state.Inlet.{Inlet}
use Rattle.cv_protocol.specs.Actors.{LiveState}
use Rattle.cv_protocol.specs.Travel.{inlet_of, inlets_of, new_live, outs_of}
use Rattle.cv_state.specs.Opening.{all_located, all_placed, settled_if}
use Rattle.cv_bounds.specs.Few.{InsAreFew, LiveIsFew, OpenedIsNew, OutsAreFew}

-- 1. An actor at its start

first_inlet : (o : Option Inlet) (ins : List (Option Inlet)) → InsAreFew 0 (o ∷ []) → InsAreFew 0 ins → InsAreFew 0 (o ∷ ins)
first_inlet None ins one few = few
first_inlet (Some i) ins one few = (one.0, few)

inlet_if : (b : Bool) (i : Inlet) (later : Option Inlet) → InsAreFew 0 (Some i ∷ []) → InsAreFew 0 (later ∷ []) → InsAreFew 0 ((if b then Some i else later) ∷ [])
inlet_if true i later one few = one
inlet_if false i later one few = few

new_inlet : (app : AppId) (place : ℕ) (connections : List Connection) (actor port : ℕ) → InsAreFew 0 (inlet_of app place connections actor port ∷ [])
new_inlet app place [] actor port = tt
new_inlet app place (j ∷ connections) actor port =
    inlet_if ((j.to == actor) && (j.inp == port)) _ (inlet_of app (suc place) connections actor port) (omega arith, tt) (new_inlet app (suc place) connections actor port)

new_inlets : (app : AppId) (connections : List Connection) (actor port count : ℕ) → InsAreFew 0 (inlets_of app connections actor port count)
new_inlets app connections actor port zero = tt
new_inlets app connections actor port (suc count) =
    first_inlet (inlet_of app 0 connections actor port) (inlets_of app connections actor (suc port) count) (new_inlet app 0 connections actor port) (new_inlets app connections actor (suc port) count)

new_outs : (app : AppId) (connections : List Connection) (actor port count : ℕ) → OutsAreFew 0 (outs_of app connections actor port count)
new_outs app connections actor port zero = tt
new_outs app connections actor port (suc count) = (omega arith, new_outs app connections actor (suc port) count)

new_few : (app : AppId) (connections : List Connection) (actor : ℕ) (spec : ActorSpec) → LiveIsFew 0 (new_live app connections actor spec 0)
new_few app connections actor spec = record {
  attempt = omega arith;
  ins = new_inlets app connections actor 0 (row_of spec.kind).inports;
  outs = new_outs app connections actor 0 (row_of spec.kind).outports;
}

-- 2. All actors in their places

abbrev AllFew : map.FinMap actor_cmp LiveState → Type 0
AllFew m = (a : ActorId) (l : LiveState) → map.get m a ≡ Some l → LiveIsFew 0 l

put_few : (b : Bool) (m : map.FinMap actor_cmp LiveState) (l : LiveState) → AllFew m → LiveIsFew 0 l → AllFew (settled_if b m l)
put_few false m l all new a k is = all a k is
put_few true m l all new a k is = by_same (same_actor a l.actor.id) (sym (get_inserted m l.actor.id l a) ∙ is)
  where
    by_same : (t : Bool) → cond t (Some l) (map.get m a) ≡ Some k → LiveIsFew 0 k
    by_same true e = subst (LiveIsFew 0) (same_Some l k e) new
    by_same false e = all a k e

placed_few : (app : AppId) (connections : List Connection) (home actor : ℕ) (specs : List ActorSpec) (at : List ℕ) (m : map.FinMap actor_cmp LiveState) → AllFew m → AllFew (all_placed app connections home actor specs at m)
placed_few app connections home actor [] at m all = all
placed_few app connections home actor (spec ∷ specs) [] m all = all
placed_few app connections home actor (spec ∷ specs) (node ∷ at) m all =
    placed_few app connections home (suc actor) specs at (settled_if (node == home) m (new_live app connections actor spec 0)) (put_few (node == home) m (new_live app connections actor spec 0) all (new_few app connections actor spec))

abbrev AllFirst : map.FinMap actor_cmp Location → Type 0
AllFirst m = (a : ActorId) (h : Location) → map.get m a ≡ Some h → h.attempt ≤ 0

located_few : (app : AppId) (actor : ℕ) (at : List ℕ) (m : map.FinMap actor_cmp Location) → AllFirst m → AllFirst (all_located app actor at m)
located_few app actor [] m all = all
located_few app actor (node ∷ at) m all =
    located_few app (suc actor) at (map.insert m (record { app = app; actor = actor }) (record { attempt = 0; node = node })) (λ a h is. put_first a h (same_actor a (record { app = app; actor = actor })) (sym (get_inserted m (record { app = app; actor = actor }) (record { attempt = 0; node = node }) a) ∙ is))
  where
    put_first : (a : ActorId) (h : Location) (t : Bool) → cond t (Some (record { attempt = 0; node = node })) (map.get m a) ≡ Some h → h.attempt ≤ 0
    put_first a h true e =
        subst (λ (x : Location). x.attempt ≤ 0) (same_Some (record { attempt = 0; node = node }) h e) (omega arith)
    put_first a h false e = all a h e

pub opened_is_new : OpenedIsNew
opened_is_new spec app net at = record {
  unstamped = refl;
  few = record {
    live = placed_few app net.connections spec.no 0 net.actors at map.empty (λ a l is. absurd (none_some l (sym (map.get-empty actor_cmp a) ∙ is)));
    hints = located_few app 0 at map.empty (λ a h is. absurd (none_some h (sym (map.get-empty actor_cmp a) ∙ is)));
  };
}
