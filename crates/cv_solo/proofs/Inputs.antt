-- The inputs of an actor, one port after the other.
use Rattle.std.proofs.Common.{◌≡◌, ℕ, zero, suc, ◌+◌, ◌-◌, ◌<◌, ◌≤◌, List, [], ◌∷◌, length, take, drop, ◌++◌, append_assoc, refl, arith, add-one, ap, sym, ◌∙◌, subst, slice_get, Option, Some, IfSome, unwrap_or}
use Rattle.std.proofs.Math.ListN.{drop_of_length-le}
use Rattle.cv_token.specs.declared.token.Token.{Token}
use Rattle.cv_behave.specs.KindRow.{Row, head_at, heads_of, needed}
use Rattle.cv_kinds.specs.declared.network.ActorSpec.{ActorSpec}
use Rattle.cv_kinds.specs.declared.network.Connection.{Connection}
use Rattle.cv_kinds.specs.KindRow.{row_of}
use Rattle.cv_kinds.proofs.Promises.{guard_within}
use Rattle.cv_solo.specs.declared.stream.Stream.{Stream}
use Rattle.cv_solo.specs.OneRuntime.{waiting, inputs_from, inputs_of}
use Rattle.cv_solo.specs.PrintedText.{taken_at}

-- the inputs from a port on are those of that port and of the ports after it
pub inputs_next : (connections : List Connection) (streams : List Stream) (actor port count : ℕ) → port < count → inputs_from connections streams actor port (count - port) ≡ waiting connections streams actor port ∷ inputs_from connections streams actor (port + 1) (count - (port + 1))
inputs_next connections streams actor port count within =
    let left : count - port ≡ suc (count - (port + 1)) = omega arith in
    rw (left, add-one) refl

taken_on_none : (connections : List Connection) (actor port : ℕ) → taken_at connections [] actor port ≡ []
taken_on_none [] actor port = refl
taken_on_none (j ∷ js) actor port = refl

-- past the last stream nothing was taken
pub taken_past : (connections : List Connection) (streams : List Stream) (actor port place : ℕ) → length streams ≤ place → taken_at (drop place connections) (drop place streams) actor port ≡ []
taken_past connections streams actor port place past = rw (drop_of_length-le streams past) (taken_on_none (drop place connections) actor port)

-- the input of a port
inputs_at : (connections : List Connection) (streams : List Stream) (actor first count port : ℕ) → port < count → slice_get (inputs_from connections streams actor first count) port ≡ Some (waiting connections streams actor (first + port))
inputs_at connections streams actor first zero port within = absurd (omega arith)
inputs_at connections streams actor first (suc count) zero within = let same : first ≡ first + 0 = omega arith in ap (λ (p : ℕ). Some (waiting connections streams actor p)) same
inputs_at connections streams actor first (suc count) (suc port) within =
    let less : port < count = omega arith in
    let next : suc first + port ≡ first + suc port = omega arith in
    inputs_at connections streams actor (suc first) count port less ∙ ap (λ (p : ℕ). Some (waiting connections streams actor p)) next

-- the first token at the guard port, which is an inport
pub head_waits : (spec : ActorSpec) (connections : List Connection) (streams : List Stream) (actor port : ℕ) → (row_of spec.kind).guard_port ≡ Some port → slice_get (waiting connections streams actor port) 0 ≡ head_at (row_of spec.kind).guard_port (inputs_of spec connections streams actor)
head_waits spec connections streams actor port is =
    let within : port < (row_of spec.kind).inports = subst (λ (p : Option ℕ). IfSome p (λ q. q < (row_of spec.kind).inports)) is (guard_within spec.kind) in
    let same : 0 + port ≡ port = omega arith in
    sym (ap (λ (p : Option ℕ). head_at p (inputs_of spec connections streams actor)) is
    ∙ ap (λ (q : Option (List Token)). slice_get (unwrap_or q []) 0) (inputs_at connections streams actor 0 (row_of spec.kind).inports port within)
    ∙ ap (λ (p : ℕ). slice_get (waiting connections streams actor p) 0) same)

-- the needed tokens, one port more
pub heads_next : (row : Row) (args : List Token) (action : ℕ) (connections : List Connection) (streams : List Stream) (actor port count : ℕ) (heads next whole : List Token) → port < count → next ≡ heads ++ take (needed row args action port) (waiting connections streams actor port) → heads ++ heads_of row args action port (inputs_from connections streams actor port (count - port)) ≡ whole → next ++ heads_of row args action (port + 1) (inputs_from connections streams actor (port + 1) (count - (port + 1))) ≡ whole
heads_next row args action connections streams actor port count heads next whole within is before =
    let later : List (List Token) = inputs_from connections streams actor (port + 1) (count - (port + 1)) in
    let here : List Token = take (needed row args action port) (waiting connections streams actor port) in
    let after : suc port ≡ port + 1 = omega arith in
    ap (λ h. h ++ heads_of row args action (port + 1) later) is
    ∙ append_assoc heads here (heads_of row args action (port + 1) later)
    ∙ ap (λ x. heads ++ x) (sym (ap (heads_of row args action port) (inputs_next connections streams actor port count within) ∙ ap (λ (p : ℕ). here ++ heads_of row args action p later) after))
    ∙ before
