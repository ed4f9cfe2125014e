use Rattle.std.proofs.Common.{◌≡◌, not, filter, ap, sym, subst, ◌∙◌, rules}
use Rattle.std.specs.Map.{keys_of}
use Rattle.std.specs.List.Sorted.{IsStrictlySortedBy}
use Rattle.std.specs.FinMap as map
use Rattle.indexmap.proofs.CallerLemmas.{filter-RetainsPairs}
use Rattle.cv_table.specs.Order.{actor_cmp, same_app, same_actor}
use Rattle.cv_table.proofs.Orders.{actor_cmp_total, actor_cmp-IsAntisymmetric, same_actor-ties, same_actor-one}
use Rattle.cv_table.proofs.Changes.{is_retain, sorted_filter}
use Rattle.cv_table.proofs.actors.ActorTable.drop_app.Goals as goal

pub invariant_of-self : goal.invariant_of-self
invariant_of-self g c =
    let kept : c.retain.new.self.entries ≡ filter (λ e. not (same_app e.0.app c.args.app)) c.self.inside.inner.entries = filter-RetainsPairs _ _ _ (λ k v b w f called. search rules) _ _ c.retain.ensures.filtered in
    subst (λ es. IsStrictlySortedBy actor_cmp (keys_of es)) (sym kept) (sorted_filter actor_cmp (λ k. not (same_app k.app c.args.app)) _ c.self.invariant)

pub returns-clause-map : goal.returns-clause-map
returns-clause-map g c =
    let kept : c.retain.new.self.entries ≡ filter (λ e. not (same_app e.0.app c.args.app)) c.self.inside.inner.entries = filter-RetainsPairs _ _ _ (λ k v b w f called. search rules) _ _ c.retain.ensures.filtered in
    ap (map.from_entries {R = actor_cmp}) kept ∙ is_retain actor_cmp_total actor_cmp-IsAntisymmetric same_actor same_actor-ties same_actor-one _ (λ k. not (same_app k.app c.args.app)) ∙ ap (λ t. map.retain_keys t.map (λ k. not (same_app k.app c.args.app))) c.self.view_is
