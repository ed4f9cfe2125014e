-- Room for what an action gives that fires, and the number of ports.
use Rattle.std.proofs.Common.{◌≡◌, ℕ, zero, suc, ◌+◌, ◌<◌, ◌≤◌, Bool, true, false, ◌&&◌, nat_le, nat_lt, List, [], ◌∷◌, length, map, drop, slice_get, Option, Some, None, option_to_list, unwrap_or, refl, ap, sym, ◌∙◌, subst, arith}
use Rattle.std.proofs.lemmas.Bool.{and_parts}
use Rattle.std.proofs.lemmas.Bool.Decides.{nat_tests}
use Rattle.std.proofs.lemmas.List.{drop-drop}
use Rattle.cv_token.specs.declared.token.Token.{Token}
use Rattle.cv_queue.specs.Ports.{OutView, space}
use Rattle.cv_behave.specs.KindRow.{Row, effect_of, given, needed, given_at, head_at}
use Rattle.cv_kinds.specs.declared.kind.Kind.{Kind}
use Rattle.cv_kinds.specs.KindRow.{row_of}
use Rattle.cv_kinds.proofs.Promises.{acts_within, gives_tokens}
use Rattle.cv_kinds.proofs.Lines.{few_ports}
use Rattle.cv_protocol.specs.Actors.{LiveState, StateView}
use Rattle.cv_protocol.specs.Poll.{limit, Fires, all_inlets_fit, all_outs_fit, first_crowded, first_given, fired, inputs, live_fits, look, row_at, with_given, with_token, without_needed}
use Rattle.cv_protocol.specs.Travel.{restore, rewound_out}
use Rattle.cv_actor.specs.Room.{has_room, have_numbers, takes}
use Rattle.cv_protocol.specs.Actors.{IsShaped}
use Rattle.cv_actor.proofs.Sights.{less, not_crowded, ready}

-- 1. Ports

-- an actor has few ports
pub few_at : (k : Kind) (ins outs : ℕ) → IsShaped k ins outs → (ins < 256) × (outs < 256)
few_at k ins outs shaped =
    let few = few_ports k in
    (omega (arith, few.0, shaped.inports), omega (arith, few.1, shaped.outports))

first_at : (out : List (Option Token)) (port : ℕ) → first_given (drop port out) ≡ unwrap_or (slice_get out port) None
first_at [] zero = refl
first_at [] (suc port) = refl
first_at (g ∷ gs) zero = refl
first_at (g ∷ gs) (suc port) = first_at gs port

both : (a b : Bool) → a ≡ true → b ≡ true → (a && b) ≡ true
both a b e f = rw (e, f) refl

takes_given : (o : OutView) (g : Option Token) (count : ℕ) → length (option_to_list g) ≡ count → count ≤ space o → nat_lt o.write limit ≡ true → takes o g ≡ true
takes_given o None count many place number = refl
takes_given o (Some t) count many place number =
    let room : nat_le 1 (space o) ≡ true = grind (arith, nat_tests) in
    both _ _ room number

-- where no outport is crowded and each has a number, they have room for what is given, from number `port` on
room_from : (row : Row) (action port : ℕ) (out : List (Option Token)) (outs : List OutView) → ((p : ℕ) → length (given_at out p) ≡ given row action p) → first_crowded (given row action) port outs ≡ None → all_outs_fit outs ≡ true → has_room (drop port out) outs ≡ true
room_from row action port out [] gives space numbers = refl
room_from row action port out (o ∷ outs) gives space numbers =
    let next : port + 1 ≡ suc port = omega arith in
    let h = not_crowded (given row action) port o outs space in
    let n = and_parts _ _ numbers in
    let behind : drop 1 (drop port out) ≡ drop (suc port) out = drop-drop 1 port out ∙ ap (λ (p : ℕ). drop p out) next in
    let many : length (option_to_list (first_given (drop port out))) ≡ given row action port = ap (λ (g : Option Token). length (option_to_list g)) (first_at out port) ∙ gives port in
    both _ _
    (takes_given o (first_given (drop port out)) (given row action port) many h.0 n.0)
    (subst (λ (x : List (Option Token)). has_room x outs ≡ true) (sym behind) (room_from row action (suc port) out outs gives h.1 n.1))

-- the outports of an actor have room for what an action gives that fires
pub room_to_fire : (l : LiveState) (now action : ℕ) (heads : List Token) → look l now action ≡ Fires → all_outs_fit l.actor.outs ≡ true → has_room (effect_of (row_at l) l.actor.spec.args l.actor.slots action heads).out l.actor.outs ≡ true
room_to_fire l now action heads fires numbers =
    let r = ready l now action fires in
    let within = acts_within (row_at l) l.actor.spec.args l.actor.slots action (head_at (row_at l).guard_port (inputs l.actor.ins)) r.guarded in
    room_from (row_at l) action 0 (effect_of (row_at l) l.actor.spec.args l.actor.slots action heads).out l.actor.outs (λ p. (gives_tokens l.actor.spec.kind l.actor.spec.args l.actor.slots heads action p within).1) r.spacious numbers

-- 2. Numbers

write_given : (o : OutView) (g : Option Token) (count : ℕ) → length (option_to_list g) ≡ count → (with_token o g).write ≡ o.write + count
write_given o None count many = omega arith
write_given o (Some t) count many = omega arith

numbers_from : (row : Row) (action port : ℕ) (out : List (Option Token)) (outs : List OutView) → ((p : ℕ) → length (given_at out p) ≡ given row action p) → have_numbers (given row action) port outs ≡ all_outs_fit (with_given (drop port out) outs)
numbers_from row action port out [] gives = refl
numbers_from row action port out (o ∷ outs) gives =
    let next : port + 1 ≡ suc port = omega arith in
    let behind : drop 1 (drop port out) ≡ drop (suc port) out = drop-drop 1 port out ∙ ap (λ (p : ℕ). drop p out) next in
    let many : length (option_to_list (first_given (drop port out))) ≡ given row action port = ap (λ (g : Option Token). length (option_to_list g)) (first_at out port) ∙ gives port in
    let here = write_given o (first_given (drop port out)) (given row action port) many in
    ap (λ (n : ℕ). nat_lt n limit && have_numbers (given row action) (suc port) outs) (sym here)
    ∙ ap (λ (b : Bool). nat_lt (with_token o (first_given (drop port out))).write limit && b) (numbers_from row action (suc port) out outs gives ∙ ap (λ (x : List (Option Token)). all_outs_fit (with_given x outs)) (sym behind))

-- the outports have the numbers that they are given, where the action fires
pub numbers_fired : (l : LiveState) (now action : ℕ) (heads : List Token) → look l now action ≡ Fires → have_numbers (given (row_at l) action) 0 l.actor.outs ≡ all_outs_fit (with_given (effect_of (row_at l) l.actor.spec.args l.actor.slots action heads).out l.actor.outs)
numbers_fired l now action heads fires =
    let r = ready l now action fires in
    let within = acts_within (row_at l) l.actor.spec.args l.actor.slots action (head_at (row_at l).guard_port (inputs l.actor.ins)) r.guarded in
    numbers_from (row_at l) action 0 (effect_of (row_at l) l.actor.spec.args l.actor.slots action heads).out l.actor.outs (λ p. (gives_tokens l.actor.spec.kind l.actor.spec.args l.actor.slots heads action p within).1)

lower_number : (m n : ℕ) → nat_lt (m + n) limit ≡ true → nat_lt m limit ≡ true
lower_number m n e = grind (arith, nat_tests)

-- what has a number behind what it is given has one before
numbers_before : (gives : ℕ → ℕ) (port : ℕ) (outs : List OutView) → have_numbers gives port outs ≡ true → all_outs_fit outs ≡ true
numbers_before gives port [] e = refl
numbers_before gives port (o ∷ outs) e =
    let h = and_parts _ _ e in
    both _ _ (lower_number o.write (gives port) h.0) (numbers_before gives (suc port) outs h.1)

-- where the numbers of a firing fit, the moment is not too late, and each outport has a number
pub firing_fits : (l : LiveState) (now action : ℕ) → look l now action ≡ Fires → live_fits (fired l now action) ≡ true → (now + (row_at l).pause l.actor.spec.args < limit) × (all_outs_fit l.actor.outs ≡ true)
firing_fits l now action fires fits =
    let outs = and_parts (nat_lt (fired l now action).due limit && nat_lt l.attempt limit && all_inlets_fit (fired l now action).actor.ins) _ fits in
    let ins = and_parts (nat_lt (fired l now action).due limit && nat_lt l.attempt limit) _ outs.0 in
    let due = and_parts (nat_lt (fired l now action).due limit) _ ins.0 in
    (less _ _ due.0, numbers_before (given (row_at l) action) 0 l.actor.outs (numbers_fired l now action _ fires ∙ outs.1))

all_of : (a b x : Bool) → a ≡ true → b ≡ true → (a && b) && x ≡ x
all_of a b x e f = rw (e, f) refl

true_if : (m n : ℕ) → m < n → nat_lt m n ≡ true
true_if m n h = grind (arith, nat_tests)

-- where all numbers but those of the outports fit, they decide
pub fits_by : (l : LiveState) (now action : ℕ) → look l now action ≡ Fires → now + (row_at l).pause l.actor.spec.args < limit → l.attempt < limit → all_inlets_fit (without_needed (needed (row_at l) l.actor.spec.args action) 0 l.actor.ins) ≡ true → have_numbers (given (row_at l) action) 0 l.actor.outs ≡ live_fits (fired l now action)
fits_by l now action fires due attempt ins =
    let tests : (nat_lt (fired l now action).due limit && nat_lt l.attempt limit) ≡ true = both _ _ (true_if _ _ due) (true_if _ _ attempt) in
    numbers_fired l now action _ fires ∙ sym (all_of (nat_lt (fired l now action).due limit && nat_lt l.attempt limit) _ _ tests ins)

-- 3. An actor that travelled

rewound_fit : (outs : List OutView) → all_outs_fit (map rewound_out outs) ≡ all_outs_fit outs
rewound_fit [] = refl
rewound_fit (o ∷ outs) = ap (λ (b : Bool). nat_lt o.write limit && b) (rewound_fit outs)

-- where all its numbers but those of the outports fit, they decide
pub restored_fits : (s : StateView) (attempt now : ℕ) → now + s.wait < limit → attempt < limit → all_inlets_fit s.actor.ins ≡ true → all_outs_fit s.actor.outs ≡ live_fits (restore s attempt now)
restored_fits s attempt now due low ins =
    let tests : (nat_lt (now + s.wait) limit && nat_lt attempt limit) ≡ true = both _ _ (true_if _ _ due) (true_if _ _ low) in
    sym (rewound_fit s.actor.outs) ∙ sym (all_of (nat_lt (now + s.wait) limit && nat_lt attempt limit) _ _ tests ins)
