-- The orders of identifiers are total, and only equal identifiers tie.
use Rattle.std.proofs.Common.{◌≡◌, ℕ, true, ◌==◌, refl, sym, ◌∙◌, arith}
use Rattle.std.proofs.lemmas.Grind.{common_steps}
use Rattle.std.proofs.lemmas.Bool.Decides.{nat_tests}
use Rattle.std.specs.declared.cmp.Ordering.{Ordering}
use Rattle.std.specs.declared.cmp.Ordering.TheVariants.{Less, Equal, Greater}
use Rattle.std.specs.Ordering.{nat_cmp, ordering_then, eq_by_cmp}
use Rattle.std.specs.Cmp.{IsTotalOrder, then_total, on_total, nat_cmp_total, Equal-is}
use Rattle.std.specs.FinMap.{IsAntisymmetric, nat_cmp-IsAntisymmetric}
use Rattle.cv_token.specs.declared.identifiers.AppId.{AppId}
use Rattle.cv_token.specs.declared.identifiers.ActorId.{ActorId}
use Rattle.cv_token.specs.declared.identifiers.ConnId.{ConnId}
use Rattle.cv_table.specs.Order.{app_cmp, actor_cmp, conn_cmp, same_app, same_actor, same_conn}

pub app_cmp_total : IsTotalOrder app_cmp
app_cmp_total =
    then_total (on_total (λ (a : AppId). a.node) nat_cmp_total) (on_total (λ (a : AppId). a.seq) nat_cmp_total)

pub actor_cmp_total : IsTotalOrder actor_cmp
actor_cmp_total =
    then_total (on_total (λ (a : ActorId). a.app) app_cmp_total) (on_total (λ (a : ActorId). a.actor) nat_cmp_total)

pub conn_cmp_total : IsTotalOrder conn_cmp
conn_cmp_total =
    then_total (on_total (λ (c : ConnId). c.app) app_cmp_total) (on_total (λ (c : ConnId). c.place) nat_cmp_total)

-- two comparisons, one after the other, tie only where both do
both_tie : (r s : Ordering) → ordering_then r s ≡ Equal → (r ≡ Equal) × (s ≡ Equal)
both_tie Less s e = cc
both_tie Equal s e = (refl, e)
both_tie Greater s e = cc

pub app_cmp-IsAntisymmetric : IsAntisymmetric app_cmp
app_cmp-IsAntisymmetric a b e =
    let t = both_tie (nat_cmp a.node b.node) (nat_cmp a.seq b.seq) e in
    λ i. record { node = nat_cmp-IsAntisymmetric a.node b.node t.0 i; seq = nat_cmp-IsAntisymmetric a.seq b.seq t.1 i }

pub actor_cmp-IsAntisymmetric : IsAntisymmetric actor_cmp
actor_cmp-IsAntisymmetric a b e =
    let t = both_tie (app_cmp a.app b.app) (nat_cmp a.actor b.actor) e in
    λ i. record { app = app_cmp-IsAntisymmetric a.app b.app t.0 i; actor = nat_cmp-IsAntisymmetric a.actor b.actor t.1 i }

pub conn_cmp-IsAntisymmetric : IsAntisymmetric conn_cmp
conn_cmp-IsAntisymmetric a b e =
    let t = both_tie (app_cmp a.app b.app) (nat_cmp a.place b.place) e in
    λ i. record { app = app_cmp-IsAntisymmetric a.app b.app t.0 i; place = nat_cmp-IsAntisymmetric a.place b.place t.1 i }

pub same_app-ties : (a b : AppId) → same_app a b ≡ eq_by_cmp app_cmp a b
same_app-ties a b = grind (arith, nat_tests, common_steps)

pub same_actor-ties : (a b : ActorId) → same_actor a b ≡ eq_by_cmp actor_cmp a b
same_actor-ties a b = grind (arith, nat_tests, common_steps)

pub same_conn-ties : (a b : ConnId) → same_conn a b ≡ eq_by_cmp conn_cmp a b
same_conn-ties a b = grind (arith, nat_tests, common_steps)

pub same_actor-one : (a b : ActorId) → same_actor a b ≡ true → b ≡ a
same_actor-one a b is = sym (actor_cmp-IsAntisymmetric a b ((Equal-is (actor_cmp a b)).0 (sym (same_actor-ties a b) ∙ is)))

pub nat_eq-ties : (a b : ℕ) → (a == b) ≡ eq_by_cmp nat_cmp a b
nat_eq-ties a b = grind (arith, nat_tests, common_steps)
