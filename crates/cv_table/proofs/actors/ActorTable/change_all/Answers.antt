use Rattle.std.proofs.Common.{◌≡◌, ap, sym, subst, ◌∙◌, length, arith}
use Rattle.std.specs.Map.{keys_of}
use Rattle.std.specs.List.Sorted.{IsStrictlySortedBy}
use Rattle.std.specs.FinMap as map
use Rattle.cv_table.specs.Order.{actor_cmp}
use Rattle.cv_table.specs.Held.{change_entries, map_values}
use Rattle.cv_table.proofs.Orders.{actor_cmp_total}
use Rattle.cv_table.proofs.Maps.{entries_of_sorted}
use Rattle.cv_table.proofs.Changes.{change_first, change_step, change_whole, keys_stay}
use Rattle.cv_table.proofs.actors.ActorTable.change_all.Goals as goal

pub invariant_of-self : goal.invariant_of-self
invariant_of-self g c =
    subst (IsStrictlySortedBy actor_cmp) (sym (ap keys_of c.loop-place.invariant.entries ∙ keys_stay (g.C.Change.changed c.args.change.now) _ _)) c.self.invariant

pub loop-place-preserved : goal.loop-place-preserved
loop-place-preserved g c = record {
  entries = change_step (g.C.Change.changed c.args.change.now) _ _ _ c.loop-place.place c.loop-place.invariant.entries c.change_at.ensures.entries;
  room = c.change_at.ensures.room ∙ c.loop-place.invariant.room;
}

pub returns-clause-map : goal.returns-clause-map
returns-clause-map g c =
    let f = g.C.Change.changed c.args.change.now in
    let es = c.self.inside.inner.entries in
    let whole : c.loop-place.place ≡ length es = omega (arith, c.len-place-end.ensures.len) in
    ap (map.from_entries {R = actor_cmp}) (c.loop-place.invariant.entries ∙ ap (λ k. change_first f k es) whole ∙ change_whole f es ∙ ap (change_entries f) (sym (entries_of_sorted actor_cmp_total es c.self.invariant))) ∙ ap (λ t. map_values f t.map) c.self.view_is
