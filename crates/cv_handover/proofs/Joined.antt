-- A connection of a wired network has an inport and an outport, and so it is found there.
use Rattle.std.proofs.Common.{◌≡◌, ◌⊎◌, inl, inr, ℕ, zero, suc, ◌+◌, ◌<◌, Bool, true, false, ◌==◌, ◌&&◌, List, [], ◌∷◌, map, Option, Some, refl, sym, ap, ◌∙◌, arith, if◌then◌else◌}
use Rattle.std.specs.Prelude.{slice_get}
use Rattle.std.proofs.lemmas.Bool.Decides.{nat_tests}
use Rattle.std.proofs.lemmas.Option.{same_Some, none-some as none_some, slice_get-map}
use Rattle.std.specs.Option.{option_map}
use Rattle.cv_token.specs.declared.identifiers.AppId.{AppId}
use Rattle.cv_token.specs.declared.identifiers.ConnId.{ConnId}
use Rattle.cv_kinds.specs.declared.network.Connection.{Connection}
use Rattle.cv_kinds.specs.Wired.{IsWired}
use Rattle.cv_kinds.specs.Net.{Net}
use Rattle.cv_queue.specs.declared.reader.Subscription.{Subscription}
use Rattle.cv_queue.specs.Ports.{new_out}
use Rattle.cv_protocol.specs.declared.state.Inlet.{Inlet}
use Rattle.cv_protocol.specs.Travel.{queue_length, inlet_of, added_if, readers_of, inlets_of, outs_of}
use Rattle.cv_handover.specs.Meaning.{fed_by, read_by}
use Rattle.cv_handover.proofs.Wiring.{inlet_is, conn_in, new_reader}

ends_are : (a b c d : ℕ) → a ≡ b → c ≡ d → (a == b) && (c == d) ≡ true
ends_are a b c d e f =
    let s : (a == b) ≡ true = grind (arith, nat_tests, e) in
    let t : (c == d) ≡ true = grind (arith, nat_tests, f) in
    λ z. s z && t z

-- 1. Inports

found_if : (b : Bool) (i : Inlet) (later : Option Inlet) → ((b ≡ true) ⊎ ((x : Inlet) × (later ≡ Some x))) → (x : Inlet) × ((if b then Some i else later) ≡ Some x)
found_if true i later h = (i, refl)
found_if false i later (inl h) = absurd (cc)
found_if false i later (inr h) = h

inlet_found : (app : AppId) (place : ℕ) (connections : List Connection) (actor port c : ℕ) (j : Connection) → slice_get connections c ≡ Some j → j.to ≡ actor → j.inp ≡ port → (x : Inlet) × (inlet_of app place connections actor port ≡ Some x)
inlet_found app place [] actor port c j g to inp = absurd (none_some j g)
inlet_found app place (k ∷ connections) actor port zero j g to inp =
    let same : k ≡ j = same_Some k j g in
    found_if ((k.to == actor) && (k.inp == port)) _ (inlet_of app (suc place) connections actor port) (inl (ends_are k.to actor k.inp port (ap (λ (x : Connection). x.to) same ∙ to) (ap (λ (x : Connection). x.inp) same ∙ inp)))
inlet_found app place (k ∷ connections) actor port (suc c) j g to inp =
    found_if ((k.to == actor) && (k.inp == port)) _ (inlet_of app (suc place) connections actor port) (inr (inlet_found app (suc place) connections actor port c j g to inp))

inlets_at : (app : AppId) (connections : List Connection) (actor port count p : ℕ) → p < count → slice_get (inlets_of app connections actor port count) p ≡ Some (inlet_of app 0 connections actor (port + p))
inlets_at app connections actor port zero p h = absurd (omega arith)
inlets_at app connections actor port (suc count) zero h = let e : port ≡ port + 0 = omega arith in ap (λ q. Some (inlet_of app 0 connections actor q)) e
inlets_at app connections actor port (suc count) (suc p) h =
    let e : suc port + p ≡ port + suc p = omega arith in
    inlets_at app connections actor (suc port) count p (omega arith) ∙ ap (λ q. Some (inlet_of app 0 connections actor q)) e

-- the connection feeds the inport that it names
pub feeds_there : (app : AppId) (net : Net) (actor count c : ℕ) (j : Connection) → IsWired net → slice_get net.connections c ≡ Some j → j.to ≡ actor → j.inp < count → slice_get (map fed_by (inlets_of app net.connections actor 0 count)) j.inp ≡ Some (Some (conn_in app c))
feeds_there app net actor count c j w g to within =
    let x = inlet_found app 0 net.connections actor j.inp c j g to refl in
    let q = inlet_is app 0 net.connections actor j.inp x.0 x.1 in
    let same : q.number ≡ c = w.one_writer q.number c q.connection j q.stands g (q.to ∙ sym to) q.inp in
    let place : 0 + q.number ≡ c = omega (arith, same) in
    let z : 0 + j.inp ≡ j.inp = omega arith in
    slice_get-map fed_by (inlets_of app net.connections actor 0 count) j.inp ∙ ap (option_map fed_by) (inlets_at app net.connections actor 0 count j.inp within ∙ ap (λ k. Some (inlet_of app 0 net.connections actor k)) z ∙ ap Some x.1) ∙ ap (λ d. Some (Some d)) (q.conn ∙ ap (λ k. conn_in app k) place)

-- 2. Outports

-- a connection among those that read the port, from place `place` on
record IsReading (app : AppId) (place : ℕ) (connections : List Connection) (actor port c : ℕ) : Type 0 where
  pub number : ℕ
  pub reads : slice_get (map (λ (s : Subscription). s.conn) (readers_of app place connections actor port)) number ≡ Some (conn_in app (place + c))

reading_if : (b : Bool) (app : AppId) (place : ℕ) (k : Connection) (connections : List Connection) (actor port c : ℕ) → IsReading app (suc place) connections actor port c → (number : ℕ) × (slice_get (map (λ (s : Subscription). s.conn) (added_if b (new_reader app place k) (readers_of app (suc place) connections actor port))) number ≡ Some (record { app = app; place = suc place + c }))
reading_if true app place k connections actor port c q = (suc q.number, q.reads)
reading_if false app place k connections actor port c q = (q.number, q.reads)

reading_first : (b : Bool) (app : AppId) (place : ℕ) (k : Connection) (connections : List Connection) (actor port : ℕ) → b ≡ true → (number : ℕ) × (slice_get (map (λ (s : Subscription). s.conn) (added_if b (new_reader app place k) (readers_of app (suc place) connections actor port))) number ≡ Some (conn_in app place))
reading_first true app place k connections actor port is = (0, refl)
reading_first false app place k connections actor port is = absurd (cc)

reader_found : (app : AppId) (place : ℕ) (connections : List Connection) (actor port c : ℕ) (j : Connection) → slice_get connections c ≡ Some j → j.from ≡ actor → j.out ≡ port → IsReading app place connections actor port c
reader_found app place [] actor port c j g from out = absurd (none_some j g)
reader_found app place (k ∷ connections) actor port zero j g from out =
    let same : k ≡ j = same_Some k j g in
    let r = reading_first ((k.from == actor) && (k.out == port)) app place k connections actor port (ends_are k.from actor k.out port (ap (λ (x : Connection). x.from) same ∙ from) (ap (λ (x : Connection). x.out) same ∙ out)) in
    let e : place ≡ place + 0 = omega arith in
    record { number = r.0; reads = r.1 ∙ ap (λ p. Some (conn_in app p)) e }
reader_found app place (k ∷ connections) actor port (suc c) j g from out =
    let r = reading_if ((k.from == actor) && (k.out == port)) app place k connections actor port c (reader_found app (suc place) connections actor port c j g from out) in
    let e : suc place + c ≡ place + suc c = omega arith in
    record { number = r.0; reads = r.1 ∙ ap (λ p. Some (conn_in app p)) e }

outs_at : (app : AppId) (connections : List Connection) (actor port count q : ℕ) → q < count → slice_get (outs_of app connections actor port count) q ≡ Some (new_out queue_length (readers_of app 0 connections actor (port + q)))
outs_at app connections actor port zero q h = absurd (omega arith)
outs_at app connections actor port (suc count) zero h = let e : port ≡ port + 0 = omega arith in ap (λ p. Some (new_out queue_length (readers_of app 0 connections actor p))) e
outs_at app connections actor port (suc count) (suc q) h =
    let e : suc port + q ≡ port + suc q = omega arith in
    outs_at app connections actor (suc port) count q (omega arith) ∙ ap (λ p. Some (new_out queue_length (readers_of app 0 connections actor p))) e

read_new : (rs : List Subscription) → read_by (new_out queue_length rs) ≡ map (λ (s : Subscription). s.conn) rs
read_new [] = refl
read_new (r ∷ rs) = λ z. r.conn ∷ read_new rs z

-- the connection reads the outport that it names
pub reads_there : (app : AppId) (net : Net) (actor count c : ℕ) (j : Connection) → slice_get net.connections c ≡ Some j → j.from ≡ actor → j.out < count → (conns : List ConnId) × (number : ℕ) × (slice_get (map read_by (outs_of app net.connections actor 0 count)) j.out ≡ Some conns) × (slice_get conns number ≡ Some (conn_in app c))
reads_there app net actor count c j g from within =
    let r = reader_found app 0 net.connections actor j.out c j g from refl in
    let z : 0 + j.out ≡ j.out = omega arith in
    let place : 0 + c ≡ c = omega arith in (
      map (λ (s : Subscription). s.conn) (readers_of app 0 net.connections actor j.out),
      r.number,
      slice_get-map read_by (outs_of app net.connections actor 0 count) j.out ∙ ap (option_map read_by) (outs_at app net.connections actor 0 count j.out within ∙ ap (λ k. Some (new_out queue_length (readers_of app 0 net.connections actor k))) z) ∙ ap Some (read_new (readers_of app 0 net.connections actor j.out)),
      r.reads ∙ ap (λ p. Some (conn_in app p)) place,
    )
