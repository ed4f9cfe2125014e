-- An action that is ready stays ready when its inputs grow.
use Rattle.std.proofs.Common.{◌≡◌, ◌≤◌, ℕ, ◌==◌, Bool, true, false, if◌then◌else◌, inl, inr, refl, sym, subst, arith}
use Rattle.cv_behave.specs.KindRow.{StaysReady}
use Rattle.cv_behave.proofs.Ready.{either_action, stays_ready, stays_ready_with_head}
use Rattle.cv_flow.specs.declared.kind.FlowKind.{FlowKind}
use Rattle.cv_flow.specs.declared.kind.FlowKind.TheVariants as kind
use Rattle.cv_flow.specs.Rows.{row_of, select, switch, change}

abbrev first_needs : ℕ → ℕ
first_needs i = if i == 0 then 1 else if i == 1 then 1 else 0

-- an action of two that both need a token of the first inport
needs_one : (i : ℕ) (x y : Bool) → (if i == 0 then x else if i == 1 then y else false) ≡ true → 1 ≤ first_needs i
needs_one i x y e =
    elim (either_action i x y e) [
      | inl h ↦ subst (λ (n : ℕ). 1 ≤ first_needs n) (sym h.0) (omega arith)
      | inr h ↦ subst (λ (n : ℕ). 1 ≤ first_needs n) (sym h.0) (omega arith)
    ]

pub stays : (k : FlowKind) → StaysReady (row_of k)
stays kind.Select = stays_ready_with_head select refl (omega arith) (λ args state i head e. needs_one i _ _ e)
stays kind.Switch = stays_ready_with_head switch refl (omega arith) (λ args state i head e. needs_one i _ _ e)
stays kind.Change = stays_ready_with_head change refl (omega arith) (λ args state i head e. needs_one i _ _ e)
stays k = stays_ready (row_of k) refl
