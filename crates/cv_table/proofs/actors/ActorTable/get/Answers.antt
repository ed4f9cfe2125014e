use Rattle.std.proofs.Common.{◌≡◌, true, sym, ap, ◌∙◌, inl, inr, true≢false}
use Rattle.cv_token.specs.declared.identifiers.ActorId.{ActorId}
use Rattle.cv_table.specs.Order.{actor_cmp, same_actor}
use Rattle.cv_table.proofs.Orders.{actor_cmp_total, same_actor-ties}
use Rattle.cv_table.proofs.Maps.{get_looks_up}
use Rattle.cv_table.proofs.Views.{same_actor-cases}
use Rattle.std.specs.FinMap as map
use Rattle.cv_table.proofs.actors.ActorTable.get.Goals as goal

one_actor : (a b : ActorId) → same_actor a b ≡ true → a ≡ b
one_actor a b is =
    elim (same_actor-cases a b) [
      | inl one ↦ one.1
      | inr two ↦ absurd (true≢false (sym is ∙ two.0))
    ]

-- the actor's entry stands at the place of its number
pub returns-then-eq : goal.returns-then-eq
returns-then-eq g c =
    let same : c.in-Some.key.now ≡ c.args.actor = one_actor c.in-Some.key.now c.args.actor (sym c.eq.ensures ∙ c.if-eq.true) in
    sym c.in-Some.ensures.value ∙ sym (get_looks_up actor_cmp_total same_actor same_actor-ties c.in-Some.key.now c.self.inside.inner.entries) ∙ ap (λ k. map.get {R = actor_cmp} (map.from_entries c.self.inside.inner.entries) k) same ∙ ap (λ t. map.get t.map c.args.actor) c.self.view_is

pub returns : goal.returns
returns g c =
    c.get.ensures.value ∙ sym (get_looks_up actor_cmp_total same_actor same_actor-ties c.args.actor c.self.inside.inner.entries) ∙ ap (λ t. map.get t.map c.args.actor) c.self.view_is
