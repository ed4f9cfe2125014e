-- What an actor's turn does: it fires an action, or none of its actions is ready.
use Rattle.std.proofs.Common.{◌≡◌, ℕ, zero, suc, ◌+◌, ◌<◌, Bool, true, false, if◌then◌else◌, slice_get, unwrap_or, option_and_then, Option, Some, None, ◌⊎◌, inl, inr, refl, ap, sym, ◌∙◌, arith}
use Rattle.cv_behave.specs.KindRow.{action_count}
use Rattle.cv_kinds.specs.declared.network.ActorSpec.{ActorSpec}
use Rattle.cv_kinds.specs.KindRow.{row_of}
use Rattle.cv_kinds.specs.Net.{Net}
use Rattle.cv_solo.specs.OneRuntime.{Runtime, effect_at, fire, fired_if, inputs_of, ready_of, slots_of}
use Rattle.cv_solo.specs.PlainNetwork.{first_from, first_ready, turn}
use Rattle.cv_kahn.proofs.Rows.{ready_within}
use Rattle.cv_kahn.proofs.Mirrors.{after_effect, and_then_some}

-- no action of the actor is ready
abbrev pub Still : Net → Runtime → ℕ → Type 0
Still net r b = (k : ℕ) (spec : ActorSpec) → slice_get net.actors b ≡ Some spec → ready_of spec net.connections b k (slots_of r b) r.streams ≡ false

found_if : (b : Bool) (from k : ℕ) (rest : Option ℕ) (P : Type 0) → (if b then Some from else rest) ≡ Some k → (b ≡ true → from ≡ k → P) → (rest ≡ Some k → P) → P
found_if true from k rest P e here later = here refl (cc)
found_if false from k rest P e here later = later e

first_found : (test : ℕ → Bool) (from count k : ℕ) → first_from test from count ≡ Some k → test k ≡ true
first_found test from zero k e = cc
first_found test from (suc count) k e =
    found_if (test from) from k (first_from test (suc from) count) (test k ≡ true) e
    (λ holds same. ap test (sym same) ∙ holds)
    (λ later. first_found test (suc from) count k later)

none_if : (b : Bool) (from : ℕ) (rest : Option ℕ) → (if b then Some from else rest) ≡ None → (b ≡ false) × (rest ≡ None)
none_if true from rest e = cc
none_if false from rest e = (refl, e)

none_found : (test : ℕ → Bool) (from count i k : ℕ) → first_from test from count ≡ None → i < count → from + i ≡ k → test k ≡ false
none_found test from zero i k e within is = absurd (omega arith)
none_found test from (suc count) zero k e within is = let same : k ≡ from = omega (arith, is) in ap test same ∙ (none_if (test from) from (first_from test (suc from) count) e).0
none_found test from (suc count) (suc i) k e within is =
    let less : i < count = omega arith in
    let next : suc from + i ≡ k = omega (arith, is) in
    none_found test (suc from) count i k (none_if (test from) from (first_from test (suc from) count) e).1 less next

not_true : (b : Bool) → (b ≡ true → b ≡ false) → b ≡ false
not_true true h = h refl
not_true false h = refl

abbrev ready_at : Net → Runtime → ℕ → ActorSpec → ℕ → Bool
ready_at net r b spec k = ready_of spec net.connections b k (slots_of r b) r.streams

still : (net : Net) (r : Runtime) (b : ℕ) → first_ready net r b ≡ None → Still net r b
still net r b none k spec is =
    let each : first_from (ready_at net r b spec) 0 (action_count (row_of spec.kind)) ≡ None = ap (option_and_then (λ s. first_from (ready_at net r b s) 0 (action_count (row_of s.kind)))) (sym is) ∙ none in
    let first : 0 + k ≡ k = omega arith in
    not_true (ready_at net r b spec k) (λ ready. none_found (ready_at net r b spec) 0 (action_count (row_of spec.kind)) k k each (ready_within (row_of spec.kind) spec.args (slots_of r b) k (inputs_of spec net.connections r.streams b) ready) first)

turn_fires : (net : Net) (r : Runtime) (b k : ℕ) → first_ready net r b ≡ Some k → fire net r b k ≡ Some (turn net r b)
turn_fires net r b k first =
    let w = and_then_some (λ (s : ActorSpec). first_from (ready_at net r b s) 0 (action_count (row_of s.kind))) (slice_get net.actors b) k first in
    let spec : ActorSpec = w.0 in
    let ready : ready_at net r b spec k ≡ true = first_found (ready_at net r b spec) 0 (action_count (row_of spec.kind)) k w.2 in
    let next : Runtime = after_effect net r b spec k (effect_at spec net.connections b k (slots_of r b) r.streams) in
    let done : fire net r b k ≡ Some next = ap (option_and_then (λ s. fired_if net r b s k (slots_of r b) (ready_at net r b s k))) w.1 ∙ ap (fired_if net r b spec k (slots_of r b)) ready in
    let whole : turn net r b ≡ next = ap (λ (o : Option ℕ). unwrap_or (option_and_then (λ action. fire net r b action) o) r) first ∙ ap (λ (o : Option Runtime). unwrap_or o r) done in
    done ∙ ap (λ (s : Runtime). Some s) (sym whole)

turned_by : (net : Net) (r : Runtime) (b : ℕ) (o : Option ℕ) → first_ready net r b ≡ o → ((k : ℕ) × (fire net r b k ≡ Some (turn net r b))) ⊎ ((turn net r b ≡ r) × Still net r b)
turned_by net r b None first = inr (ap (λ (o : Option ℕ). unwrap_or (option_and_then (λ action. fire net r b action) o) r) first, still net r b first)
turned_by net r b (Some k) first = inl (k, turn_fires net r b k first)

pub turned : (net : Net) (r : Runtime) (b : ℕ) → ((k : ℕ) × (fire net r b k ≡ Some (turn net r b))) ⊎ ((turn net r b ≡ r) × Still net r b)
turned net r b = turned_by net r b (first_ready net r b) refl
