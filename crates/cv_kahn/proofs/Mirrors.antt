-- A state of the one runtime is a family: each actor's slots, and on each connection what its producer gave it.
use Rattle.std.proofs.Common.{◌≡◌, ℕ, zero, suc, ◌+◌, ◌-◌, ◌≤◌, ◌<◌, min, ◌==◌, ◌&&◌, Bool, true, false, if◌then◌else◌, List, [], ◌∷◌, ◌++◌, length, drop, replicate, slice_get, slice_set, unwrap_or, option_and_then, Option, Some, None, refl, ap, sym, ◌∙◌, subst, arith, eqb-true, length-drop}
use borrow.Author.Tests.{eqb-false}
use Rattle.std.proofs.lemmas.Bool.{eq-eqb}
use Rattle.std.proofs.lemmas.List.{get_or-set_other, get_or-set_same, length-map, length-set}
use Rattle.std.proofs.lemmas.Option.{slice_get_within, unwrap_or-slice_get}
use Rattle.std.proofs.Math.Seq.{drop-nil}
use Rattle.cv_token.specs.declared.token.Token.{Token}
use Rattle.cv_behave.specs.declared.behave.Effect.{Effect}
use Rattle.cv_behave.specs.KindRow.{effect_of, heads_of, is_ready, needed}
use Rattle.cv_kinds.specs.declared.network.ActorSpec.{ActorSpec}
use Rattle.cv_kinds.specs.declared.network.Connection.{Connection}
use Rattle.cv_kinds.specs.KindRow.{row_of}
use Rattle.cv_kinds.specs.Net.{Net}
use Rattle.cv_kinds.specs.Wired.{HasInport, IsWired}
use Rattle.cv_solo.specs.declared.stream.Stream.{Stream}
use Rattle.cv_solo.specs.OneRuntime.{Runtime, effect_at, fire, fired_if, given_on, inputs_from, inputs_of, opening, ready_of, slots_of, streams_after, taken_on, waiting}
use Rattle.cv_kahn.specs.Streams.{took_at, took_of, wrote_at, wrote_of}
use Rattle.cv_kahn.proofs.Rows.{counts_at, offers, ready_counts}
use Rattle.cv_kahn.proofs.Alone.{Local, can, does, next, offered}
use Rattle.cv_kahn.proofs.Family.{EachFrom, after, both_if, each_first, each_rest, fed, fed_from, if_case, in_all, same_ends, sent, sent_after}

-- each stream has what the family gives to its connection, and is taken as far as its consumer took
abbrev pub Carries : Net → (ℕ → Local) → ℕ → List Connection → List Stream → Type 0
Carries net x c [] [] = Unit {0}
Carries net x c [] (s ∷ ss) = ⊥
Carries net x c (j ∷ js) [] = ⊥
Carries net x c (j ∷ js) (s ∷ ss) = (s.wrote ≡ sent net c j x) × (s.took ≡ (x j.to).took j.inp) × Carries net x (suc c) js ss

pub record Mirrors (net : Net) (r : Runtime) (x : ℕ → Local) : Type 0 where
  pub all : length r.slots ≡ length net.actors
  pub slots : (a : ℕ) → slots_of r a ≡ (x a).slots
  pub streams : Carries net x 0 net.connections r.streams

-- ---- the runtime's inputs are the family's

waits : (net : Net) (x : ℕ → Local) (a port c : ℕ) (js : List Connection) (ss : List Stream) → Carries net x c js ss → waiting js ss a port ≡ drop ((x a).took port) (fed_from net c js x a port)
waits net x a port c [] [] carries = sym (drop-nil ((x a).took port))
waits net x a port c [] (s ∷ ss) carries = absurd carries
waits net x a port c (j ∷ js) [] carries = absurd carries
waits net x a port c (j ∷ js) (s ∷ ss) carries =
    both_if (λ (v w : List Token). v ≡ drop ((x a).took port) w) ((j.to == a) && (j.inp == port)) (drop s.took s.wrote) (waiting js ss a port) (sent net c j x) (fed_from net (suc c) js x a port)
    (λ test.
    let ends = same_ends j a port test in
    let far : s.took ≡ (x a).took port = carries.1 ∙ ap (λ (i : ℕ). (x i).took j.inp) ends.0 ∙ ap (λ (p : ℕ). (x a).took p) ends.1 in
    ap (λ (n : ℕ). drop n s.wrote) far ∙ ap (λ (w : List Token). drop ((x a).took port) w) carries.0)
    (λ test. waits net x a port (suc c) js ss carries.2)

same_inputs : (net : Net) (r : Runtime) (x : ℕ → Local) (a port count : ℕ) → Mirrors net r x → inputs_from net.connections r.streams a port count ≡ offers (fed net x a) (x a).took port count
same_inputs net r x a port zero fits = refl
same_inputs net r x a port (suc count) fits =
    ap (λ (q : List Token). q ∷ inputs_from net.connections r.streams a (suc port) count) (waits net x a port 0 net.connections r.streams fits.streams)
    ∙ ap (λ (qs : List (List Token)). drop ((x a).took port) (fed net x a port) ∷ qs) (same_inputs net r x a (suc port) count fits)

inputs_are : (net : Net) (r : Runtime) (x : ℕ → Local) (a : ℕ) (spec : ActorSpec) → Mirrors net r x → inputs_of spec net.connections r.streams a ≡ offered spec (fed net x a) (x a)
inputs_are net r x a spec fits = same_inputs net r x a 0 (row_of spec.kind).inports fits

pub same_ready : (net : Net) (r : Runtime) (x : ℕ → Local) (a k : ℕ) (spec : ActorSpec) → Mirrors net r x → ready_of spec net.connections a k (slots_of r a) r.streams ≡ can spec (fed net x a) (x a) k
same_ready net r x a k spec fits =
    ap (λ (own : List Token). is_ready (row_of spec.kind) spec.args own k (inputs_of spec net.connections r.streams a)) (fits.slots a)
    ∙ ap (λ (inputs : List (List Token)). is_ready (row_of spec.kind) spec.args (x a).slots k inputs) (inputs_are net r x a spec fits)

same_effect : (net : Net) (r : Runtime) (x : ℕ → Local) (a k : ℕ) (spec : ActorSpec) → Mirrors net r x → effect_at spec net.connections a k (slots_of r a) r.streams ≡ does spec (fed net x a) (x a) k
same_effect net r x a k spec fits =
    ap (λ (own : List Token). effect_of (row_of spec.kind) spec.args own k (heads_of (row_of spec.kind) spec.args k 0 (inputs_of spec net.connections r.streams a))) (fits.slots a)
    ∙ ap (λ (inputs : List (List Token)). effect_of (row_of spec.kind) spec.args (x a).slots k (heads_of (row_of spec.kind) spec.args k 0 inputs)) (inputs_are net r x a spec fits)

-- ---- what a firing takes is there

-- no two connections of the list go into one inport
abbrev OneWriter : List Connection → Type 0
OneWriter js = (c d : ℕ) (j k : Connection) → slice_get js c ≡ Some j → slice_get js d ≡ Some k → j.to ≡ k.to → j.inp ≡ k.inp → c ≡ d

-- a connection goes into its own inport
itself : (j : Connection) → ((j.to == j.to) && (j.inp == j.inp)) ≡ true
itself j = ap (λ (b : Bool). b && (j.inp == j.inp)) (eq-eqb j.to j.to refl) ∙ eq-eqb j.inp j.inp refl

-- so an inport is given what its connection is given
fed_at : (net : Net) (x : ℕ → Local) (c d e : ℕ) (js : List Connection) (j : Connection) → OneWriter js → slice_get js d ≡ Some j → c + d ≡ e → fed_from net c js x j.to j.inp ≡ sent net e j x
fed_at net x c d e [] j one at number = cc
fed_at net x c zero e (k ∷ js) j one at number =
    let same : k ≡ j = cc in
    let first : c ≡ e = omega (arith, number) in
    subst (λ (i : Connection). (if (k.to == i.to) && (k.inp == i.inp) then sent net c k x else fed_from net (suc c) js x i.to i.inp) ≡ sent net e i x) same
    (if_case (λ (w : List Token). w ≡ sent net e k x) ((k.to == k.to) && (k.inp == k.inp)) (sent net c k x) (fed_from net (suc c) js x k.to k.inp)
    (λ test. ap (λ (i : ℕ). sent net i k x) first)
    (λ test. let bad : true ≡ false = sym (itself k) ∙ test in cc))
fed_at net x c (suc d) e (k ∷ js) j one at number =
    if_case (λ (w : List Token). w ≡ sent net e j x) ((k.to == j.to) && (k.inp == j.inp)) (sent net c k x) (fed_from net (suc c) js x j.to j.inp)
    (λ test. let ends = same_ends k j.to j.inp test in let bad : 0 ≡ suc d = one 0 (suc d) k j refl at ends.0 ends.1 in absurd (omega (arith, bad)))
    (λ test. let next : suc c + d ≡ e = omega (arith, number) in fed_at net x (suc c) d e js j (λ m n i o at_m at_n to inp. let both : suc m ≡ suc n = one (suc m) (suc n) i o at_m at_n to inp in omega (arith, both)) at next)

within_inports : (net : Net) (j : Connection) (spec : ActorSpec) → slice_get net.actors j.to ≡ Some spec → HasInport (slice_get net.actors j.to) j.inp → j.inp < (row_of spec.kind).inports
within_inports net j spec at has = subst (λ (o : Option ActorSpec). HasInport o j.inp) at has

-- the needed tokens of a connection are among those that wait on it
needs_there : (net : Net) (x : ℕ → Local) (a k c : ℕ) (spec : ActorSpec) (j : Connection) → IsWired net → slice_get net.actors a ≡ Some spec → can spec (fed net x a) (x a) k ≡ true → slice_get net.connections c ≡ Some j → j.to ≡ a → needed (row_of spec.kind) spec.args k j.inp ≤ length (sent net c j x) - (x j.to).took j.inp
needs_there net x a k c spec j wired at ready found to =
    let here : slice_get net.actors j.to ≡ Some spec = ap (λ (i : ℕ). slice_get net.actors i) to ∙ at in
    let can_here : can spec (fed net x j.to) (x j.to) k ≡ true = ap (λ (i : ℕ). can spec (fed net x i) (x i) k) to ∙ ready in
    let counts = ready_counts (row_of spec.kind) spec.args (x j.to).slots k (offered spec (fed net x j.to) (x j.to)) can_here in
    let plain : 0 + j.inp ≡ j.inp = omega arith in
    let enough = counts_at (row_of spec.kind) spec.args k (fed net x j.to) (x j.to).took 0 (row_of spec.kind).inports j.inp j.inp counts (within_inports net j spec here (wired.consumers c j found)) plain in
    let first : 0 + c ≡ c = omega arith in
    let given : fed net x j.to j.inp ≡ sent net c j x = fed_at net x 0 c c net.connections j wired.one_writer found first in
    let long : needed (row_of spec.kind) spec.args k j.inp ≤ length (drop ((x j.to).took j.inp) (sent net c j x)) = subst (λ (w : List Token). needed (row_of spec.kind) spec.args k j.inp ≤ length (drop ((x j.to).took j.inp) w)) given enough in
    subst (λ (n : ℕ). needed (row_of spec.kind) spec.args k j.inp ≤ n) (length-drop ((x j.to).took j.inp) (sent net c j x)) long

-- ---- a firing of the runtime is one of the family

took_after : (net : Net) (spec : ActorSpec) (x : ℕ → Local) (a k : ℕ) (j : Connection) (s : Stream) → s.took ≡ (x j.to).took j.inp → (j.to ≡ a → needed (row_of spec.kind) spec.args k j.inp ≤ length s.wrote - s.took) → s.took + taken_on spec a k j s ≡ (after net spec x a k j.to).took j.inp
took_after net spec x a k j s far enough =
    both_if (λ (n : ℕ) (v : Local). s.took + n ≡ v.took j.inp) (j.to == a) (min (needed (row_of spec.kind) spec.args k j.inp) (length s.wrote - s.took)) 0 (next spec (fed net x a) (x a) k) (x j.to)
    (λ test.
    let to : j.to ≡ a = eqb-true j.to a test in
    let fits : needed (row_of spec.kind) spec.args k j.inp ≤ length s.wrote - s.took = enough to in
    let far_here : s.took ≡ (x a).took j.inp = far ∙ ap (λ (i : ℕ). (x i).took j.inp) to in
    omega (arith, fits, far_here))
    (λ test. omega (arith, far))

carried : (net : Net) (x : ℕ → Local) (a k c : ℕ) (spec : ActorSpec) (js : List Connection) (ss : List Stream) → EachFrom c js (λ e j. j.to ≡ a → needed (row_of spec.kind) spec.args k j.inp ≤ length (sent net e j x) - (x j.to).took j.inp) → Carries net x c js ss → Carries net (after net spec x a k) c js (streams_after spec a k (does spec (fed net x a) (x a) k).out js ss)
carried net x a k c spec [] [] enough carries = tt
carried net x a k c spec [] (s ∷ ss) enough carries = absurd carries
carried net x a k c spec (j ∷ js) [] enough carries = absurd carries
carried net x a k c spec (j ∷ js) (s ∷ ss) enough carries = (
  ap (λ (w : List Token). w ++ given_on (does spec (fed net x a) (x a) k).out a j) carries.0 ∙ sym (sent_after net spec x a k c j),
  took_after net spec x a k j s carries.1 (λ to.
      let here : needed (row_of spec.kind) spec.args k j.inp ≤ length (sent net c j x) - (x j.to).took j.inp = each_first c j js (λ e i. i.to ≡ a → needed (row_of spec.kind) spec.args k i.inp ≤ length (sent net e i x) - (x i.to).took i.inp) enough to in
      let wrote : length s.wrote ≡ length (sent net c j x) = ap length carries.0 in
      let far : s.took ≡ (x j.to).took j.inp = carries.1 in
      omega (arith, here, wrote, far)),
  carried net x a k (suc c) spec js ss (each_rest c j js (λ e i. i.to ≡ a → needed (row_of spec.kind) spec.args k i.inp ≤ length (sent net e i x) - (x i.to).took i.inp) enough) carries.2,
)

pub record Fired (net : Net) (x : ℕ → Local) (a k : ℕ) (after_it : Runtime) : Type 0 where
  pub spec : ActorSpec
  pub is : slice_get net.actors a ≡ Some spec
  pub ready : can spec (fed net x a) (x a) k ≡ true
  pub fits : Mirrors net after_it (after net spec x a k)

pub and_then_some : {X Y : Type 0} (f : X → Option Y) (o : Option X) (y : Y) → option_and_then f o ≡ Some y → (x : X) × (o ≡ Some x) × (f x ≡ Some y)
and_then_some f None y found = cc
and_then_some f (Some x) y found = (x, refl, found)

-- the runtime after a firing, of which the effect is known
abbrev pub after_effect : Net → Runtime → ℕ → ActorSpec → ℕ → Effect → Runtime
after_effect net r a spec k done = record { slots = slice_set r.slots a done.state; streams = streams_after spec a k done.out net.connections r.streams }

fits_after : (net : Net) (r : Runtime) (x : ℕ → Local) (a k : ℕ) (spec : ActorSpec) → IsWired net → Mirrors net r x → slice_get net.actors a ≡ Some spec → can spec (fed net x a) (x a) k ≡ true → Mirrors net (after_effect net r a spec k (does spec (fed net x a) (x a) k)) (after net spec x a k)
fits_after net r x a k spec wired fits is ready =
    let done : Effect = does spec (fed net x a) (x a) k in
    let within : a < length r.slots = subst (λ (n : ℕ). a < n) (sym fits.all) (slice_get_within net.actors a spec is) in
    record {
      all = length-set r.slots a done.state ∙ fits.all;
      slots = λ b. if_case (λ (v : Local). slots_of (after_effect net r a spec k done) b ≡ v.slots) (b == a) (next spec (fed net x a) (x a) k) (x b)
          (λ test. subst (λ (i : ℕ). unwrap_or (slice_get (slice_set r.slots a done.state) i) [] ≡ done.state) (sym (eqb-true b a test)) (unwrap_or-slice_get (slice_set r.slots a done.state) a [] ∙ get_or-set_same r.slots a done.state [] within))
          (λ test. unwrap_or-slice_get (slice_set r.slots a done.state) b [] ∙ get_or-set_other r.slots a b done.state [] (eqb-false b a test) ∙ sym (unwrap_or-slice_get r.slots b []) ∙ fits.slots b);
      streams = carried net x a k 0 spec net.connections r.streams
          (in_all net (λ e j. j.to ≡ a → needed (row_of spec.kind) spec.args k j.inp ≤ length (sent net e j x) - (x j.to).took j.inp) (λ c j found to. needs_there net x a k c spec j wired is ready found to))
          fits.streams;
    }

fired_when : (net : Net) (r next : Runtime) (a k : ℕ) (spec : ActorSpec) (own : List Token) (ready : Bool) → fired_if net r a spec k own ready ≡ Some next → (ready ≡ true) × (after_effect net r a spec k (effect_at spec net.connections a k own r.streams) ≡ next)
fired_when net r next a k spec own false e = cc
fired_when net r next a k spec own true e = (refl, cc)

pub fires : (net : Net) (r next : Runtime) (x : ℕ → Local) (a k : ℕ) → IsWired net → Mirrors net r x → fire net r a k ≡ Some next → Fired net x a k next
fires net r next x a k wired fits e =
    let w = and_then_some (λ (spec : ActorSpec). fired_if net r a spec k (slots_of r a) (ready_of spec net.connections a k (slots_of r a) r.streams)) (slice_get net.actors a) next e in
    let spec : ActorSpec = w.0 in
    let f = fired_when net r next a k spec (slots_of r a) (ready_of spec net.connections a k (slots_of r a) r.streams) w.2 in
    let ready : can spec (fed net x a) (x a) k ≡ true = sym (same_ready net r x a k spec fits) ∙ f.0 in
    let same : after_effect net r a spec k (does spec (fed net x a) (x a) k) ≡ next = ap (after_effect net r a spec k) (sym (same_effect net r x a k spec fits)) ∙ f.1 in
    record {
      spec = spec;
      is = w.1;
      ready = ready;
      fits = subst (λ (s : Runtime). Mirrors net s (after net spec x a k)) same (fits_after net r x a k spec wired fits w.1 ready);
    }

-- ---- the opening, and what is read from a state

-- each actor with its first slots, before it took or gave anything
abbrev pub first : Net → ℕ → Local
first net a = record { slots = slots_of (opening net) a; took = λ port. 0; gave = λ port. [] }

carries_nothing : (net : Net) (c : ℕ) (js : List Connection) → Carries net (first net) c js (replicate (length js) (record { wrote = []; took = 0 }))
carries_nothing net c [] = tt
carries_nothing net c (j ∷ js) = (refl, refl, carries_nothing net (suc c) js)

pub opens : (net : Net) → Mirrors net (opening net) (first net)
opens net = record {
  all = length-map net.actors (λ a. (row_of a.kind).start a.args);
  slots = λ a. refl;
  streams = carries_nothing net 0 net.connections;
}

-- of one connection: its stream, where it stands at that number
carries_at : (net : Net) (x : ℕ → Local) (c d e : ℕ) (js : List Connection) (ss : List Stream) (j : Connection) → Carries net x c js ss → slice_get js d ≡ Some j → c + d ≡ e → (wrote_of (slice_get ss d) ≡ sent net e j x) × (took_of (slice_get ss d) ≡ (x j.to).took j.inp)
carries_at net x c d e [] ss j carries at number = cc
carries_at net x c d e (k ∷ js) [] j carries at number = absurd carries
carries_at net x c zero e (k ∷ js) (s ∷ ss) j carries at number =
    let same : k ≡ j = cc in
    let here : c ≡ e = omega (arith, number) in
    (carries.0 ∙ ap (λ (i : Connection). sent net c i x) same ∙ ap (λ (i : ℕ). sent net i j x) here, carries.1 ∙ ap (λ (i : Connection). (x i.to).took i.inp) same)
carries_at net x c (suc d) e (k ∷ js) (s ∷ ss) j carries at number = let more : suc c + d ≡ e = omega (arith, number) in carries_at net x (suc c) d e js ss j carries.2 at more

pub wrote_is : (net : Net) (r : Runtime) (x : ℕ → Local) (c : ℕ) (j : Connection) → Mirrors net r x → slice_get net.connections c ≡ Some j → wrote_at r c ≡ sent net c j x
wrote_is net r x c j fits at = let number : 0 + c ≡ c = omega arith in (carries_at net x 0 c c net.connections r.streams j fits.streams at number).0

pub took_is : (net : Net) (r : Runtime) (x : ℕ → Local) (c : ℕ) (j : Connection) → Mirrors net r x → slice_get net.connections c ≡ Some j → took_at r c ≡ (x j.to).took j.inp
took_is net r x c j fits at = let number : 0 + c ≡ c = omega arith in (carries_at net x 0 c c net.connections r.streams j fits.streams at number).1
