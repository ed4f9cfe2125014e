-- A firing of the meaning is one of the one runtime of the application's network.
use Rattle.std.proofs.Common.{◌≡◌, ◌⊎◌, inl, inr, ℕ, zero, suc, ◌+◌, ◌-◌, ◌<◌, ◌≤◌, Bool, true, false, ◌==◌, ◌&&◌, List, [], ◌∷◌, ◌++◌, length, map, drop, Option, Some, None, refl, sym, ap, subst, ◌∙◌, arith, if◌then◌else◌, length-drop, nat_le}
use Rattle.std.specs.Prelude.{slice_get, slice_set, min, unwrap_or, option_and_then, option_to_list}
use Rattle.std.proofs.lemmas.Bool.{and_parts}
use Rattle.std.proofs.lemmas.Bool.Decides.{nat_tests}
use Rattle.std.proofs.lemmas.Option.{same_Some, none-some as none_some, slice_get_within, slice_get-map}
use Rattle.std.specs.Option.{option_map}
use Rattle.cv_token.specs.declared.token.Token.{Token}
use Rattle.cv_token.specs.declared.identifiers.AppId.{AppId}
use Rattle.cv_token.specs.declared.identifiers.ActorId.{ActorId}
use Rattle.cv_token.specs.declared.identifiers.ConnId.{ConnId}
use Rattle.cv_table.proofs.Views.{same_actor-cases}
use Rattle.cv_behave.specs.declared.behave.Effect.{Effect}
use Rattle.cv_behave.specs.KindRow.{Row, needed, given_at, guard_holds, has_counts, head_at, heads_of, effect_of, is_ready}
use Rattle.cv_kinds.specs.declared.network.ActorSpec.{ActorSpec}
use Rattle.cv_kinds.specs.declared.network.Connection.{Connection}
use Rattle.cv_kinds.specs.Net.{Net}
use Rattle.cv_kinds.specs.Wired.{IsWired, HasInport, HasOutport}
use Rattle.cv_kinds.specs.KindRow.{row_of}
use Rattle.cv_solo.specs.declared.stream.Stream.{Stream}
use Rattle.cv_solo.specs.OneRuntime.{Runtime, fire, fired_if, slots_of, inputs_from, inputs_of, ready_of, effect_at, taken_on, given_on, stream_after, streams_after, waiting as waits}
use Rattle.cv_protocol.specs.declared.state.Inlet.{Inlet}
use Rattle.cv_protocol.specs.Travel.{inlet_of, inlets_of}
use Rattle.cv_handover.specs.Meaning.{Nets, Meaning, spec_of, fresh, fed_by, waiting, waiting_all, may_fire, effect_in, need_of, gift_of, with_slots, fires}
use Rattle.cv_handover.specs.Runtimes.{listed, slots_in, stream_in, runtime_of}
use Rattle.cv_handover.proofs.Finding.{IsNeeded, IsGiven, need_found, gift_found, given_there}
use Rattle.cv_handover.proofs.Joined.{feeds_there, reads_there}
use Rattle.cv_handover.proofs.Listing.{listed_at, listed_set}
use Rattle.cv_handover.proofs.Wiring.{FedAt, ReadAt, fed_place, read_place, conn_in, new_inlet}
use Rattle.cv_handover.proofs.Firing.{need_in}

-- 1. What waits at the inports

wait_if : (m : Meaning) (app : AppId) (place : ℕ) (j : Connection) (rest : List Token) (later : Option Inlet) (b : Bool) → rest ≡ waiting m (fed_by later) → (if b then drop (m.took (conn_in app place)) (m.wrote (conn_in app place)) else rest) ≡ waiting m (fed_by (if b then Some (new_inlet app place j) else later))
wait_if m app place j rest later true e = refl
wait_if m app place j rest later false e = e

waits_same : (m : Meaning) (app : AppId) (place : ℕ) (connections : List Connection) (actor port : ℕ) → waits connections (listed (stream_in m app) place (length connections)) actor port ≡ waiting m (fed_by (inlet_of app place connections actor port))
waits_same m app place [] actor port = refl
waits_same m app place (j ∷ connections) actor port =
    wait_if m app place j (waits connections (listed (stream_in m app) (suc place) (length connections)) actor port) (inlet_of app (suc place) connections actor port) ((j.to == actor) && (j.inp == port)) (waits_same m app (suc place) connections actor port)

inputs_same : (m : Meaning) (app : AppId) (connections : List Connection) (actor port count : ℕ) → inputs_from connections (listed (stream_in m app) 0 (length connections)) actor port count ≡ map (λ i. waiting m (fed_by i)) (inlets_of app connections actor port count)
inputs_same m app connections actor port zero = refl
inputs_same m app connections actor port (suc count) = λ z. waits_same m app 0 connections actor port z ∷ inputs_same m app connections actor (suc port) count z

-- the counts of what waits, at one inport
count_there : (row : Row) (args : List Token) (action port : ℕ) (qs : List (List Token)) (p : ℕ) (q : List Token) → has_counts row args action port qs ≡ true → slice_get qs p ≡ Some q → needed row args action (port + p) ≤ length q
count_there row args action port [] p q h e = absurd (none_some q e)
count_there row args action port (x ∷ qs) zero q h e =
    let t : nat_le (needed row args action port) (length x) ≡ true = (and_parts (nat_le (needed row args action port) (length x)) (has_counts row args action (suc port) qs) h).0 in
    let k : port ≡ port + 0 = omega arith in
    let l : needed row args action port ≤ length x = grind (arith, nat_tests, t) in
    subst (λ (i : ℕ). needed row args action i ≤ length q) k (subst (λ (y : List Token). needed row args action port ≤ length y) (same_Some x q e) l)
count_there row args action port (x ∷ qs) (suc p) q h e =
    let k : suc port + p ≡ port + suc p = omega arith in
    let t = (and_parts (nat_le (needed row args action port) (length x)) (has_counts row args action (suc port) qs) h).1 in
    subst (λ (i : ℕ). needed row args action i ≤ length q) k (count_there row args action (suc port) qs p q t e)

no_gift : (out : List (Option Token)) (k : ℕ) → length out ≤ k → slice_get out k ≡ None
no_gift [] k h = refl
no_gift (g ∷ out) zero h = absurd (omega arith)
no_gift (g ∷ out) (suc k) h = no_gift out k (omega arith)

inport_there : (net : Net) (k p : ℕ) (spec : ActorSpec) → slice_get net.actors k ≡ Some spec → HasInport (slice_get net.actors k) p → p < (row_of spec.kind).inports
inport_there net k p spec e h = subst (λ (s : Option ActorSpec). HasInport s p) e h

outport_there : (net : Net) (k p : ℕ) (spec : ActorSpec) → slice_get net.actors k ≡ Some spec → HasOutport (slice_get net.actors k) p → p < (row_of spec.kind).outports
outport_there net k p spec e h = subst (λ (s : Option ActorSpec). HasOutport s p) e h

-- 2. One stream after the firing

module _ (n : Nets) (m : Meaning) (a : ActorId) (action : ℕ) (wired : IsWired (n.net a.app)) (spec : ActorSpec) (stands : slice_get (n.net a.app).actors a.actor ≡ Some spec) (ready : may_fire n m a action ≡ true) (c : ℕ) (j : Connection) (is : slice_get (n.net a.app).connections c ≡ Some j) where
  same_spec : spec_of n a ≡ spec
  same_spec = ap (λ (s : Option ActorSpec). unwrap_or s n.nobody) stands

  -- the connection stands there in the network
  same_place : (k : Connection) → slice_get (n.net a.app).connections c ≡ Some k → k ≡ j
  same_place k e = same_Some k j (sym e ∙ is)

  wait_at : (x : Option (Option Inlet)) (d : ConnId) → option_map fed_by x ≡ Some (Some d) → option_map (λ i. waiting m (fed_by i)) x ≡ Some (drop (m.took d) (m.wrote d))
  wait_at None d e = absurd (none_some (Some d) e)
  wait_at (Some i) d e = ap (λ f. Some (waiting m f)) (same_Some (fed_by i) (Some d) e)

  -- the tokens that the one runtime takes, where the connection feeds the actor and where it does not
  taken_if : (need : ℕ) (b : Bool) → (j.to == a.actor) ≡ b → ((j.to ≡ a.actor) → min (needed (row_of spec.kind) spec.args action j.inp) (length (m.wrote (conn_in a.app c)) - m.took (conn_in a.app c)) ≡ need) → (((j.to ≡ a.actor) → ⊥) → need ≡ 0) → (if b then min (needed (row_of spec.kind) spec.args action j.inp) (length (m.wrote (conn_in a.app c)) - m.took (conn_in a.app c)) else 0) ≡ need
  taken_if need true t here elsewhere = let same : j.to ≡ a.actor = grind (arith, nat_tests, t) in here same
  taken_if need false t here elsewhere = sym (elsewhere (λ same. grind (arith, nat_tests, t, same)))

  counts_there : has_counts (row_of (spec_of n a).kind) (spec_of n a).args action 0 (waiting_all n m a) ≡ true
  counts_there =
      let row = row_of (spec_of n a).kind in
      (and_parts (has_counts row (spec_of n a).args action 0 (waiting_all n m a)) (guard_holds row (spec_of n a).args (m.slots a) action (head_at row.guard_port (waiting_all n m a))) ready).0

  -- what waits at the inport that it feeds
  waits_there : (p : ℕ) → FedAt n a p (conn_in a.app c) → slice_get (waiting_all n m a) p ≡ Some (drop (m.took (conn_in a.app c)) (m.wrote (conn_in a.app c)))
  waits_there p f =
      slice_get-map (λ i. waiting m (fed_by i)) (fresh n a).ins p ∙ wait_at (slice_get (fresh n a).ins p) (conn_in a.app c) (sym (slice_get-map fed_by (fresh n a).ins p) ∙ f)

  took_fed : IsNeeded (need_in n a action) 0 (fresh n a).ins (conn_in a.app c) → taken_on spec a.actor action j (stream_in m a.app c) ≡ need_of (need_in n a action) 0 (fresh n a).ins (conn_in a.app c)
  took_fed q =
      let d : ConnId = conn_in a.app c in
      let f = fed_place n a q.place d q.feeds in
      let k : f.0.connection ≡ j = same_place f.0.connection f.0.stands in
      let to : j.to ≡ a.actor = ap (λ (x : Connection). x.to) (sym k) ∙ f.1 in
      let inp : j.inp ≡ q.place = ap (λ (x : Connection). x.inp) (sym k) ∙ f.2 in
      let z : 0 + q.place ≡ q.place = omega arith in
      let few = count_there (row_of (spec_of n a).kind) (spec_of n a).args action 0 (waiting_all n m a) q.place (drop (m.took d) (m.wrote d)) counts_there (waits_there q.place q.feeds) in
      let same : need_in n a action (0 + q.place) ≡ needed (row_of spec.kind) spec.args action j.inp = ap (need_in n a action) (z ∙ sym inp) ∙ ap (λ (s : ActorSpec). needed (row_of s.kind) s.args action j.inp) same_spec in
      let need = q.needed in
      taken_if (need_of (need_in n a action) 0 (fresh n a).ins d) (j.to == a.actor) refl (λ t. omega (arith, same, need, few, length-drop (m.took d) (m.wrote d))) (λ other. absurd (other to))

  -- a connection of the actor comes into one of its inports
  is_fed : j.to ≡ a.actor → FedAt n a j.inp (conn_in a.app c)
  is_fed to =
      let within : j.inp < (row_of spec.kind).inports = inport_there (n.net a.app) a.actor j.inp spec stands (subst (λ (k : ℕ). HasInport (slice_get (n.net a.app).actors k) j.inp) to (wired.consumers c j is)) in
      feeds_there a.app (n.net a.app) a.actor (row_of (spec_of n a).kind).inports c j wired is to (subst (λ (s : ActorSpec). j.inp < (row_of s.kind).inports) (sym same_spec) within)

  took_same : taken_on spec a.actor action j (stream_in m a.app c) ≡ need_of (need_in n a action) 0 (fresh n a).ins (conn_in a.app c)
  took_same =
      elim (need_found (need_in n a action) 0 (fresh n a).ins (conn_in a.app c)) [
        | inl q ↦ took_fed q
        | inr q ↦ taken_if (need_of (need_in n a action) 0 (fresh n a).ins (conn_in a.app c)) (j.to == a.actor) refl (λ t. absurd (q.feeds_none j.inp (is_fed t))) (λ other. q.needed)
      ]

  given_if : (out : List (Option Token)) (gift : List Token) (b : Bool) → (j.from == a.actor) ≡ b → ((j.from ≡ a.actor) → given_at out j.out ≡ gift) → (((j.from ≡ a.actor) → ⊥) → gift ≡ []) → (if b then given_at out j.out else []) ≡ gift
  given_if out gift true t here elsewhere = let same : j.from ≡ a.actor = grind (arith, nat_tests, t) in here same
  given_if out gift false t here elsewhere = sym (elsewhere (λ same. grind (arith, nat_tests, t, same)))

  gave_read : (out : List (Option Token)) → IsGiven out (fresh n a).outs (conn_in a.app c) → given_on out a.actor j ≡ gift_of out (fresh n a).outs (conn_in a.app c)
  gave_read out q =
      let d : ConnId = conn_in a.app c in
      let f = read_place n a q.place d (record { conns = q.conns; port = q.port; number = q.number; reads = q.reads }) in
      let k : f.0.connection ≡ j = same_place f.0.connection f.0.stands in
      let from : j.from ≡ a.actor = ap (λ (x : Connection). x.from) (sym k) ∙ f.1 in
      let at_out : j.out ≡ q.place = ap (λ (x : Connection). x.out) (sym k) ∙ f.2 in
      given_if out (gift_of out (fresh n a).outs d) (j.from == a.actor) refl (λ t. ap (given_at out) at_out ∙ ap option_to_list (sym (given_there q.place out)) ∙ sym q.given) (λ other. absurd (other from))

  -- a connection of the actor reads one of its outports
  is_read : j.from ≡ a.actor → ReadAt n a j.out (conn_in a.app c)
  is_read from =
      let within : j.out < (row_of spec.kind).outports = outport_there (n.net a.app) a.actor j.out spec stands (subst (λ (k : ℕ). HasOutport (slice_get (n.net a.app).actors k) j.out) from (wired.producers c j is)) in
      let r = reads_there a.app (n.net a.app) a.actor (row_of (spec_of n a).kind).outports c j is from (subst (λ (s : ActorSpec). j.out < (row_of s.kind).outports) (sym same_spec) within) in
      record { conns = r.0; port = r.2; number = r.1; reads = r.3 }

  gave_same : (out : List (Option Token)) → given_on out a.actor j ≡ gift_of out (fresh n a).outs (conn_in a.app c)
  gave_same out =
      elim (gift_found out (fresh n a).outs (conn_in a.app c)) [
        | inl q ↦ gave_read out q
        | inr q ↦ given_if out (gift_of out (fresh n a).outs (conn_in a.app c)) (j.from == a.actor) refl (λ t. let r = is_read t in absurd (q.read_nowhere j.out r.conns r.number r.port r.reads)) (λ other. q.given)
      ]

  pub stream_same : stream_after spec a.actor action (effect_in n m a action).out j (stream_in m a.app c) ≡ stream_in (fires n m a action) a.app c
  stream_same = λ z. record {
    wrote = m.wrote (conn_in a.app c) ++ gave_same (effect_in n m a action).out z;
    took = m.took (conn_in a.app c) + took_same z;
  }

-- 3. The runtime after it

streams_same : (spec : ActorSpec) (actor action : ℕ) (out : List (Option Token)) (f g : ℕ → Stream) (from : ℕ) (connections : List Connection) → ((c : ℕ) (j : Connection) → slice_get connections c ≡ Some j → stream_after spec actor action out j (f (from + c)) ≡ g (from + c)) → streams_after spec actor action out connections (listed f from (length connections)) ≡ listed g from (length connections)
streams_same spec actor action out f g from [] same = refl
streams_same spec actor action out f g from (j ∷ connections) same =
    let e : from + 0 ≡ from = omega arith in
    let first = ap (λ k. stream_after spec actor action out j (f k)) (sym e) ∙ same 0 j refl ∙ ap g e in
    let rest = streams_same spec actor action out f g (suc from) connections (λ c k h. let n : suc from + c ≡ from + suc c = omega arith in ap (λ q. stream_after spec actor action out k (f q)) n ∙ same (suc c) k h ∙ ap g (sym n)) in
    λ z. first z ∷ rest z

slots_put : (slots : ActorId → List Token) (a b : ActorId) (new : List Token) → ((b ≡ a) × (with_slots slots a new b ≡ new)) ⊎ (((b ≡ a) → ⊥) × (with_slots slots a new b ≡ slots b))
slots_put slots a b new =
    elim (same_actor-cases b a) [
      | inl s ↦ inl (s.1, ap (λ (t : Bool). if t then new else slots b) s.0)
      | inr s ↦ inr (s.1, ap (λ (t : Bool). if t then new else slots b) s.0)
    ]

module _ (n : Nets) (m : Meaning) (a : ActorId) (action : ℕ) (wired : IsWired (n.net a.app)) (spec : ActorSpec) (stands : slice_get (n.net a.app).actors a.actor ≡ Some spec) (ready : may_fire n m a action ≡ true) where
  row_same : spec_of n a ≡ spec
  row_same = ap (λ (s : Option ActorSpec). unwrap_or s n.nobody) stands

  slots_here : slots_of (runtime_of n m a.app) a.actor ≡ m.slots a
  slots_here =
      let e : record { app = a.app; actor = 0 + a.actor } ≡ a = let k : 0 + a.actor ≡ a.actor = omega arith in λ z. record { app = a.app; actor = k z } in
      ap (λ (s : Option (List Token)). unwrap_or s []) (listed_at (slots_in m a.app) 0 (length (n.net a.app).actors) a.actor (slice_get_within (n.net a.app).actors a.actor spec stands)) ∙ ap m.slots e

  inputs_here : inputs_of spec (n.net a.app).connections (runtime_of n m a.app).streams a.actor ≡ waiting_all n m a
  inputs_here = inputs_same m a.app (n.net a.app).connections a.actor 0 (row_of spec.kind).inports ∙ ap (λ (s : ActorSpec). map (λ i. waiting m (fed_by i)) (inlets_of a.app (n.net a.app).connections a.actor 0 (row_of s.kind).inports)) (sym row_same)

  ready_same : ready_of spec (n.net a.app).connections a.actor action (slots_of (runtime_of n m a.app) a.actor) (runtime_of n m a.app).streams ≡ may_fire n m a action
  ready_same = λ z. is_ready (row_of (sym row_same z).kind) (sym row_same z).args (slots_here z) action (inputs_here z)

  effect_same : effect_at spec (n.net a.app).connections a.actor action (slots_of (runtime_of n m a.app) a.actor) (runtime_of n m a.app).streams ≡ effect_in n m a action
  effect_same = λ z. effect_of (row_of (sym row_same z).kind) (sym row_same z).args (slots_here z) action (heads_of (row_of (sym row_same z).kind) (sym row_same z).args action 0 (inputs_here z))

  slots_after : slice_set (runtime_of n m a.app).slots a.actor (effect_in n m a action).state ≡ (runtime_of n (fires n m a action) a.app).slots
  slots_after =
      let new : List Token = (effect_in n m a action).state in
      let k : 0 + a.actor ≡ a.actor = omega arith in
      listed_set (slots_in m a.app) (slots_in (fires n m a action) a.app) 0 (length (n.net a.app).actors) a.actor new (elim (slots_put m.slots a (record { app = a.app; actor = 0 + a.actor }) new) [ inl s ↦ sym s.1 | inr s ↦ absurd (s.0 (λ z. record { app = a.app; actor = k z })) ]) (λ j other. elim (slots_put m.slots a (record { app = a.app; actor = 0 + j }) new) [ inl s ↦ absurd (other (let e : 0 + j ≡ a.actor = ap (λ (b : ActorId). b.actor) s.0 in omega (arith, e))) | inr s ↦ sym s.1 ])

  streams_here : streams_after spec a.actor action (effect_in n m a action).out (n.net a.app).connections (runtime_of n m a.app).streams ≡ (runtime_of n (fires n m a action) a.app).streams
  streams_here =
      streams_same spec a.actor action (effect_in n m a action).out (stream_in m a.app) (stream_in (fires n m a action) a.app) 0 (n.net a.app).connections (λ c j h. let k : 0 + c ≡ c = omega arith in ap (λ q. stream_after spec a.actor action (effect_in n m a action).out j (stream_in m a.app q)) k ∙ stream_same n m a action wired spec stands ready c j h ∙ ap (stream_in (fires n m a action) a.app) (sym k))

  -- the one runtime fires the same action, and leaves what the meaning leaves
  pub solo_fires : fire (n.net a.app) (runtime_of n m a.app) a.actor action ≡ Some (runtime_of n (fires n m a action) a.app)
  solo_fires =
      let net : Net = n.net a.app in
      let r : Runtime = runtime_of n m a.app in
      ap (option_and_then (λ s. fired_if net r a.actor s action (slots_of r a.actor) (ready_of s net.connections a.actor action (slots_of r a.actor) r.streams))) stands ∙ ap (fired_if net r a.actor spec action (slots_of r a.actor)) (ready_same ∙ ready) ∙ ap (λ (e : Effect). Some (record { slots = slice_set r.slots a.actor e.state; streams = streams_after spec a.actor action e.out net.connections r.streams })) effect_same ∙ λ z. Some (record { slots = slots_after z; streams = streams_here z })
