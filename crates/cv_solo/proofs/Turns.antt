-- The first action of an actor that is ready, found by firing one after the other.
use Rattle.std.proofs.Common.{◌≡◌, ◌<◌, ◌≤◌, ◌+◌, ◌-◌, ℕ, suc, Bool, true, false, if◌then◌else◌, List, slice_get, Option, Some, None, option_and_then, refl, sym, ap, ◌∙◌, arith}
use Rattle.std.specs.Option.{option_map_or}
use Rattle.cv_token.specs.declared.token.Token.{Token}
use Rattle.cv_behave.specs.KindRow.{action_count}
use Rattle.cv_kinds.specs.declared.network.ActorSpec.{ActorSpec}
use Rattle.cv_kinds.specs.KindRow.{row_of}
use Rattle.cv_kinds.specs.Net.{Net}
use Rattle.cv_solo.specs.OneRuntime.{Runtime, fire, fired_if, ready_of, slots_of}
use Rattle.cv_solo.specs.PlainNetwork.{actions_of, first_from, first_ready}

abbrev is_ready_at : Net → Runtime → ℕ → ActorSpec → ℕ → Bool
is_ready_at net r actor spec action = ready_of spec net.connections actor action (slots_of r actor) r.streams

-- the first action that is ready, of `count` from a number on
abbrev pub ready_from : Net → Runtime → ℕ → ℕ → ℕ → Option ℕ
ready_from net r actor from count = option_and_then (λ spec. first_from (is_ready_at net r actor spec) from count) (slice_get net.actors actor)

all_of : (net : Net) (r : Runtime) (actor : ℕ) (o : Option ActorSpec) → option_and_then (λ spec. first_from (is_ready_at net r actor spec) 0 (action_count (row_of spec.kind))) o ≡ option_and_then (λ spec. first_from (is_ready_at net r actor spec) 0 (option_map_or (λ (x : ActorSpec). action_count (row_of x.kind)) o 0)) o
all_of net r actor None = refl
all_of net r actor (Some spec) = refl

pub from_first : (net : Net) (r : Runtime) (actor : ℕ) → first_ready net r actor ≡ ready_from net r actor 0 (actions_of net actor)
from_first net r actor = all_of net r actor (slice_get net.actors actor)

not_ready : (net : Net) (r : Runtime) (actor : ℕ) (spec : ActorSpec) (action : ℕ) (slots : List Token) (ready : Bool) → fired_if net r actor spec action slots ready ≡ None → ready ≡ false
not_ready net r actor spec action slots true none = cc
not_ready net r actor spec action slots false none = refl

was_ready : (net : Net) (r next : Runtime) (actor : ℕ) (spec : ActorSpec) (action : ℕ) (slots : List Token) (ready : Bool) → fired_if net r actor spec action slots ready ≡ Some next → ready ≡ true
was_ready net r next actor spec action slots true is = refl
was_ready net r next actor spec action slots false is = cc

passed : (net : Net) (r : Runtime) (actor from count : ℕ) (o : Option ActorSpec) → option_and_then (λ spec. fired_if net r actor spec from (slots_of r actor) (is_ready_at net r actor spec from)) o ≡ None → option_and_then (λ spec. first_from (is_ready_at net r actor spec) from (suc count)) o ≡ option_and_then (λ spec. first_from (is_ready_at net r actor spec) (suc from) count) o
passed net r actor from count None none = refl
passed net r actor from count (Some spec) none = ap (λ (b : Bool). if b then Some from else first_from (is_ready_at net r actor spec) (suc from) count) (not_ready net r actor spec from (slots_of r actor) (is_ready_at net r actor spec from) none)

met : (net : Net) (r next : Runtime) (actor from count : ℕ) (o : Option ActorSpec) → option_and_then (λ spec. fired_if net r actor spec from (slots_of r actor) (is_ready_at net r actor spec from)) o ≡ Some next → option_and_then (λ spec. first_from (is_ready_at net r actor spec) from (suc count)) o ≡ Some from
met net r next actor from count None is = cc
met net r next actor from count (Some spec) is = ap (λ (b : Bool). if b then Some from else first_from (is_ready_at net r actor spec) (suc from) count) (was_ready net r next actor spec from (slots_of r actor) (is_ready_at net r actor spec from) is)

-- an action that does not fire is passed over
pub not_this : (net : Net) (r : Runtime) (actor action count : ℕ) (whole : Option ℕ) → action < count → fire net r actor action ≡ None → ready_from net r actor action (count - action) ≡ whole → ready_from net r actor (action + 1) (count - (action + 1)) ≡ whole
not_this net r actor action count whole within none before =
    let left : count - action ≡ suc (count - (action + 1)) = omega arith in
    let after : suc action ≡ action + 1 = omega arith in
    ap (λ (a : ℕ). ready_from net r actor a (count - (action + 1))) (sym after)
    ∙ sym (passed net r actor action (count - (action + 1)) (slice_get net.actors actor) none)
    ∙ ap (λ (n : ℕ). ready_from net r actor action n) (sym left)
    ∙ before

-- the first that fires is the first that is ready
pub this_one : (net : Net) (r next : Runtime) (actor action count : ℕ) (whole : Option ℕ) → action < count → fire net r actor action ≡ Some next → ready_from net r actor action (count - action) ≡ whole → Some action ≡ whole
this_one net r next actor action count whole within is before =
    let left : count - action ≡ suc (count - (action + 1)) = omega arith in
    sym (met net r next actor action (count - (action + 1)) (slice_get net.actors actor) is)
    ∙ ap (λ (n : ℕ). ready_from net r actor action n) (sym left)
    ∙ before

nothing : (net : Net) (r : Runtime) (actor from : ℕ) (o : Option ActorSpec) → option_and_then (λ spec. first_from (is_ready_at net r actor spec) from 0) o ≡ None
nothing net r actor from None = refl
nothing net r actor from (Some spec) = refl

-- past the last action none is ready
pub none_left : (net : Net) (r : Runtime) (actor action count : ℕ) (whole : Option ℕ) → count ≤ action → ready_from net r actor action (count - action) ≡ whole → None ≡ whole
none_left net r actor action count whole past before =
    let left : count - action ≡ 0 = omega arith in
    sym (nothing net r actor action (slice_get net.actors actor)) ∙ ap (λ (n : ℕ). ready_from net r actor action n) (sym left) ∙ before
