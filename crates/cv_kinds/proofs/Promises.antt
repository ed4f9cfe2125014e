-- What holds of the rows of all kinds.
use Rattle.std.proofs.Common.{◌≡◌, ◌≢◌, ◌↔◌, ◌≤◌, ◌<◌, ◌+◌, ℕ, suc, Bool, true, false, ◌==◌, List, [], ◌∷◌, length, Option, refl, sym, ap, ◌∙◌, subst, arith, lit≤, lit<, if◌then◌else◌, eqb-true, IfSome}
use Rattle.std.specs.Prelude.{IsTrue}
use Rattle.cv_token.specs.declared.token.Token.{Token}
use Rattle.cv_behave.specs.KindRow.{Action, Row, action_count, effect_of, for_action, given, guard_holds, Deterministic, GivesItsTokens, StaysReady}
use Rattle.cv_behave.proofs.Giving.{all_give_few, given_few, gives, one_gives}
use Rattle.cv_behave.proofs.Ready.{stays_ready}
use Rattle.cv_calc.specs.Rows.{row_of as calc_row}
use Rattle.cv_flow.specs.declared.kind.FlowKind.{FlowKind}
use Rattle.cv_flow.specs.declared.kind.FlowKind.TheVariants as flow
use Rattle.cv_flow.specs.Rows.{row_of as flow_row}
use Rattle.cv_flow.proofs.Alone.{at_most_one}
use Rattle.cv_flow.proofs.Giving.{gives_its_tokens}
use Rattle.cv_flow.proofs.Staying.{stays as flow_stays}
use Rattle.cv_kinds.specs.declared.kind.Kind.{Kind}
use Rattle.cv_kinds.specs.declared.kind.Kind.TheVariants as kind
use Rattle.cv_kinds.specs.KindRow.{row_of}

pub stays : (k : Kind) → StaysReady (row_of k)
unfolding row_of
stays (kind.Flow k) = flow_stays k
stays (kind.Calc k) = stays_ready (calc_row k) refl

pub gives_tokens : (k : Kind) → GivesItsTokens (row_of k)
unfolding row_of
gives_tokens (kind.Flow k) = gives_its_tokens k
gives_tokens (kind.Calc k) = one_gives (calc_row k) refl (λ args state heads port. gives (effect_of (calc_row k) args state 0 heads).out port)

-- the guard port is an inport
flow_guard : (k : FlowKind) → IfSome (flow_row k).guard_port (λ p. p < (flow_row k).inports)
flow_guard flow.Select = lit< tt
flow_guard flow.Switch = lit< tt
flow_guard flow.Change = lit< tt
flow_guard k = tt

pub guard_within : (k : Kind) → IfSome (row_of k).guard_port (λ p. p < (row_of k).inports)
unfolding row_of
guard_within (kind.Flow k) = flow_guard k
guard_within (kind.Calc k) = tt

flow_few : (k : FlowKind) → action_count (flow_row k) ≤ 4
flow_few flow.Constant = lit≤ tt
flow_few k = lit≤ tt

pub few_actions : (k : Kind) → action_count (row_of k) ≤ 4
unfolding row_of
few_actions (kind.Flow k) = flow_few k
few_actions (kind.Calc k) = lit≤ tt

flow_gives_few : (k : FlowKind) → all_give_few (flow_row k).actions ≡ true
flow_gives_few flow.Constant = refl
flow_gives_few k = refl

pub gives_few : (k : Kind) (action port : ℕ) → given (row_of k) action port ≤ 1
unfolding row_of
gives_few (kind.Flow k) action port = given_few (flow_row k) action port (flow_gives_few k)
gives_few (kind.Calc k) action port = given_few (calc_row k) action port refl

-- past the last action nothing holds
holds_if : (b : Bool) (x rest : Bool) (P : Type 0) → (if b then x else rest) ≡ true → (b ≡ true → P) → (rest ≡ true → P) → P
holds_if true x rest P e here later = here refl
holds_if false x rest P e here later = later e

within_from : (i action : ℕ) (f : Action → Bool) (actions : List Action) → for_action i action f false actions ≡ true → action < i + length actions
within_from i action f [] e = cc
within_from i action f (a ∷ actions) e =
    holds_if (action == i) (f a) (for_action (suc i) action f false actions) (action < i + length (a ∷ actions)) e
    (λ here. let same : action ≡ i = eqb-true action i here in omega arith)
    (λ later. let more : action < suc i + length actions = within_from (suc i) action f actions later in omega arith)

-- an action whose guard holds is one of the row's
pub acts_within : (row : Row) (args state : List Token) (action : ℕ) (head : Option Token) → guard_holds row args state action head ≡ true → action < action_count row
acts_within row args state action head e = let h : action < 0 + length row.actions = within_from 0 action _ row.actions e in omega arith

-- what is marked so is deterministic, and all kinds are but two
pub exact_flow : (whole : Kind) (k : FlowKind) (b : Bool) → whole ≡ kind.Flow k → IsTrue b ↔ Deterministic (flow_row k) → IsTrue b ↔ Deterministic (row_of whole)
unfolding row_of
exact_flow whole k b is marked = subst (λ (x : Kind). IsTrue b ↔ Deterministic (row_of x)) (sym is) marked

pub all_but_two : (whole : Kind) (k : FlowKind) (b : Bool) → whole ≡ kind.Flow k → IsTrue b ↔ Deterministic (flow_row k) → whole ≢ kind.Flow flow.Join → whole ≢ kind.Flow flow.Valve → b ≡ true
all_but_two whole k b is marked join valve = marked.1 (at_most_one k (λ e. join (is ∙ ap kind.Flow e)) (λ e. valve (is ∙ ap kind.Flow e)))
