-- A connection is a place in its network: it feeds one inport, and one outport has it.
use Rattle.std.proofs.Common.{◌≡◌, ℕ, zero, suc, ◌+◌, Bool, true, false, ◌==◌, ◌&&◌, List, [], ◌∷◌, length, map, Option, Some, None, refl, sym, ap, subst, ◌∙◌, arith, if◌then◌else◌}
use Rattle.std.specs.Prelude.{slice_get}
use Rattle.std.proofs.lemmas.Bool.{and_parts}
use Rattle.std.proofs.lemmas.Bool.Decides.{nat_tests}
use Rattle.std.proofs.lemmas.Option.{same_Some, none-some as none_some}
use Rattle.cv_token.specs.declared.identifiers.AppId.{AppId}
use Rattle.cv_token.specs.declared.identifiers.ActorId.{ActorId}
use Rattle.cv_token.specs.declared.identifiers.ConnId.{ConnId}
use Rattle.cv_kinds.specs.declared.network.Connection.{Connection}
use Rattle.cv_queue.specs.declared.reader.Reader.{Reader}
use Rattle.cv_queue.specs.declared.reader.Subscription.{Subscription}
use Rattle.cv_queue.specs.Ports.{OutView, new_out, new_in, reader_from}
use Rattle.cv_queue.proofs.Lists.{slice_get_mapped}
use Rattle.cv_protocol.specs.declared.state.Inlet.{Inlet}
use Rattle.cv_protocol.specs.Travel.{queue_length, inlet_of, added_if, readers_of, inlets_of, outs_of}
use Rattle.cv_handover.specs.Meaning.{Nets, fresh, fed_by, read_by}

abbrev pub conn_in : AppId → ℕ → ConnId
conn_in app place = record { app = app; place = place }

-- the inport that the connection at a place feeds, and the reader of it, at the start
abbrev pub new_inlet : AppId → ℕ → Connection → Inlet
new_inlet app place j = record { conn = conn_in app place; producer = record { app = app; actor = j.from }; port = new_in queue_length }

abbrev pub new_reader : AppId → ℕ → Connection → Subscription
new_reader app place j = record { conn = conn_in app place; consumer = record { app = app; actor = j.to }; acked = 0 }

-- 1. Inports of an actor at its start

-- the inport is new, and a connection of the network feeds it
pub record IsInletOf (app : AppId) (place : ℕ) (connections : List Connection) (actor port : ℕ) (i : Inlet) : Type 0 where
  pub number : ℕ
  pub connection : Connection
  pub stands : slice_get connections number ≡ Some connection
  pub conn : i.conn ≡ conn_in app (place + number)
  pub to : connection.to ≡ actor
  pub inp : connection.inp ≡ port
  pub new : i.port ≡ new_in queue_length

inlet_later : (app : AppId) (place : ℕ) (j : Connection) (connections : List Connection) (actor port : ℕ) (i : Inlet) → IsInletOf app (suc place) connections actor port i → IsInletOf app place (j ∷ connections) actor port i
inlet_later app place j connections actor port i q =
    let e : suc place + q.number ≡ place + suc q.number = omega arith in
    record {
      number = suc q.number;
      connection = q.connection;
      stands = q.stands;
      conn = q.conn ∙ ap (λ (k : ℕ). conn_in app k) e;
      to = q.to;
      inp = q.inp;
      new = q.new;
    }

inlet_first : (app : AppId) (place : ℕ) (j : Connection) (connections : List Connection) (actor port : ℕ) (i : Inlet) (b : Bool) → (j.to == actor) && (j.inp == port) ≡ b → (if b then Some (new_inlet app place j) else inlet_of app (suc place) connections actor port) ≡ Some i → (inlet_of app (suc place) connections actor port ≡ Some i → IsInletOf app (suc place) connections actor port i) → IsInletOf app place (j ∷ connections) actor port i
inlet_first app place j connections actor port i false is e later = inlet_later app place j connections actor port i (later e)
inlet_first app place j connections actor port i true is e later =
    let both = and_parts (j.to == actor) (j.inp == port) is in
    let to : (j.to == actor) ≡ true = both.0 in
    let inp : (j.inp == port) ≡ true = both.1 in
    let k : place ≡ place + 0 = omega arith in
    let q : IsInletOf app place (j ∷ connections) actor port (new_inlet app place j) = record {
      number = 0;
      connection = j;
      stands = refl;
      conn = ap (λ (p : ℕ). conn_in app p) k;
      to = grind (arith, nat_tests, to);
      inp = grind (arith, nat_tests, inp);
      new = refl;
    } in
    subst (IsInletOf app place (j ∷ connections) actor port) (same_Some _ i e) q

pub inlet_is : (app : AppId) (place : ℕ) (connections : List Connection) (actor port : ℕ) (i : Inlet) → inlet_of app place connections actor port ≡ Some i → IsInletOf app place connections actor port i
inlet_is app place [] actor port i e = absurd (none_some i e)
inlet_is app place (j ∷ connections) actor port i e =
    inlet_first app place j connections actor port i ((j.to == actor) && (j.inp == port)) refl e (inlet_is app (suc place) connections actor port i)

pub inlets_are : (app : AppId) (connections : List Connection) (actor port count p : ℕ) (i : Inlet) → slice_get (inlets_of app connections actor port count) p ≡ Some (Some i) → IsInletOf app 0 connections actor (port + p) i
inlets_are app connections actor port zero p i e = absurd (none_some (Some i) e)
inlets_are app connections actor port (suc count) zero i e =
    let k : port ≡ port + 0 = omega arith in
    subst (λ (q : ℕ). IsInletOf app 0 connections actor q i) k (inlet_is app 0 connections actor port i (same_Some _ (Some i) e))
inlets_are app connections actor port (suc count) (suc p) i e =
    let k : suc port + p ≡ port + suc p = omega arith in
    subst (λ (q : ℕ). IsInletOf app 0 connections actor q i) k (inlets_are app connections actor (suc port) count p i e)

pub inlets_count : (app : AppId) (connections : List Connection) (actor port count : ℕ) → length (inlets_of app connections actor port count) ≡ count
inlets_count app connections actor port zero = refl
inlets_count app connections actor port (suc count) = ap suc (inlets_count app connections actor (suc port) count)

-- 2. Outports

-- the reader is one of a connection of the network from there
pub record IsReaderOf (app : AppId) (place : ℕ) (connections : List Connection) (actor port : ℕ) (s : Subscription) : Type 0 where
  pub number : ℕ
  pub connection : Connection
  pub stands : slice_get connections number ≡ Some connection
  pub conn : s.conn ≡ conn_in app (place + number)
  pub from : connection.from ≡ actor
  pub out : connection.out ≡ port

reader_later : (app : AppId) (place : ℕ) (j : Connection) (connections : List Connection) (actor port : ℕ) (s : Subscription) → IsReaderOf app (suc place) connections actor port s → IsReaderOf app place (j ∷ connections) actor port s
reader_later app place j connections actor port s q =
    let e : suc place + q.number ≡ place + suc q.number = omega arith in
    record {
      number = suc q.number;
      connection = q.connection;
      stands = q.stands;
      conn = q.conn ∙ ap (λ (k : ℕ). conn_in app k) e;
      from = q.from;
      out = q.out;
    }

reader_first : (app : AppId) (place : ℕ) (j : Connection) (connections : List Connection) (actor port k : ℕ) (s : Subscription) (b : Bool) → (j.from == actor) && (j.out == port) ≡ b → slice_get (added_if b (new_reader app place j) (readers_of app (suc place) connections actor port)) k ≡ Some s → ((l : ℕ) → slice_get (readers_of app (suc place) connections actor port) l ≡ Some s → IsReaderOf app (suc place) connections actor port s) → IsReaderOf app place (j ∷ connections) actor port s
reader_first app place j connections actor port k s false is e later = reader_later app place j connections actor port s (later k e)
reader_first app place j connections actor port (suc k) s true is e later = reader_later app place j connections actor port s (later k e)
reader_first app place j connections actor port zero s true is e later =
    let both = and_parts (j.from == actor) (j.out == port) is in
    let from : (j.from == actor) ≡ true = both.0 in
    let out : (j.out == port) ≡ true = both.1 in
    let k : place ≡ place + 0 = omega arith in
    let q : IsReaderOf app place (j ∷ connections) actor port (new_reader app place j) = record {
      number = 0;
      connection = j;
      stands = refl;
      conn = ap (λ (p : ℕ). conn_in app p) k;
      from = grind (arith, nat_tests, from);
      out = grind (arith, nat_tests, out);
    } in
    subst (IsReaderOf app place (j ∷ connections) actor port) (same_Some _ s e) q

reader_is : (app : AppId) (place : ℕ) (connections : List Connection) (actor port k : ℕ) (s : Subscription) → slice_get (readers_of app place connections actor port) k ≡ Some s → IsReaderOf app place connections actor port s
reader_is app place [] actor port k s e = absurd (none_some s e)
reader_is app place (j ∷ connections) actor port k s e =
    reader_first app place j connections actor port k s ((j.from == actor) && (j.out == port)) refl e (λ l f. reader_is app (suc place) connections actor port l s f)

pub outs_are : (app : AppId) (connections : List Connection) (actor port count q : ℕ) (o : OutView) → slice_get (outs_of app connections actor port count) q ≡ Some o → o ≡ new_out queue_length (readers_of app 0 connections actor (port + q))
outs_are app connections actor port zero q o e = absurd (none_some o e)
outs_are app connections actor port (suc count) zero o e =
    let k : port ≡ port + 0 = omega arith in
    sym (same_Some _ o e) ∙ ap (λ (p : ℕ). new_out queue_length (readers_of app 0 connections actor p)) k
outs_are app connections actor port (suc count) (suc q) o e =
    let k : suc port + q ≡ port + suc q = omega arith in
    outs_are app connections actor (suc port) count q o e ∙ ap (λ (p : ℕ). new_out queue_length (readers_of app 0 connections actor p)) k

-- 3. The ends of a connection in all networks

-- the connection feeds that inport of the actor
abbrev pub FedAt : Nets → ActorId → ℕ → ConnId → Type 0
FedAt n a p c = slice_get (map fed_by (fresh n a).ins) p ≡ Some (Some c)

-- it reads that outport of the actor
pub record ReadAt (n : Nets) (a : ActorId) (q : ℕ) (c : ConnId) : Type 0 where
  pub conns : List ConnId
  pub port : slice_get (map read_by (fresh n a).outs) q ≡ Some conns
  pub number : ℕ
  pub reads : slice_get conns number ≡ Some c

-- the connection of the network that it is
pub record IsPlace (n : Nets) (a : ActorId) (c : ConnId) : Type 0 where
  pub app : c.app ≡ a.app
  pub connection : Connection
  pub stands : slice_get (n.net a.app).connections c.place ≡ Some connection

pub fed_is : (i : Option Inlet) (c : ConnId) → fed_by i ≡ Some c → (x : Inlet) × (i ≡ Some x) × (x.conn ≡ c)
fed_is None c e = absurd (none_some c e)
fed_is (Some x) c e = (x, refl, same_Some x.conn c e)

pub fed_place : (n : Nets) (a : ActorId) (p : ℕ) (c : ConnId) → FedAt n a p c → (s : IsPlace n a c) × (s.connection.to ≡ a.actor) × (s.connection.inp ≡ p)
fed_place n a p c f =
    let s = slice_get_mapped fed_by (fresh n a).ins p (Some c) f in
    let x = fed_is s.0 c s.2 in
    let q = inlets_are a.app (n.net a.app).connections a.actor 0 _ p x.0 (s.1 ∙ ap Some x.1) in
    let e : c ≡ conn_in a.app (0 + q.number) = sym x.2 ∙ q.conn in
    let k : 0 + q.number ≡ q.number = omega arith in
    let z : 0 + p ≡ p = omega arith in
    let place : IsPlace n a c = record {
      app = ap (λ (d : ConnId). d.app) e;
      connection = q.connection;
      stands = ap (λ (d : ConnId). slice_get (n.net a.app).connections d.place) e ∙ ap (slice_get (n.net a.app).connections) k ∙ q.stands;
    } in
    (place, q.to, q.inp ∙ z)

pub read_place : (n : Nets) (a : ActorId) (p : ℕ) (c : ConnId) → ReadAt n a p c → (s : IsPlace n a c) × (s.connection.from ≡ a.actor) × (s.connection.out ≡ p)
read_place n a p c f =
    let s = slice_get_mapped read_by (fresh n a).outs p f.conns f.port in
    let z : 0 + p ≡ p = omega arith in
    let o = outs_are a.app (n.net a.app).connections a.actor 0 _ p s.0 s.1 in
    let reads : slice_get (read_by (new_out queue_length (readers_of a.app 0 (n.net a.app).connections a.actor (0 + p)))) f.number ≡ Some c = ap (λ (y : OutView). slice_get (read_by y) f.number) (sym o) ∙ ap (λ (cs : List ConnId). slice_get cs f.number) s.2 ∙ f.reads in
    let r = slice_get_mapped (λ (y : Reader). y.conn) (map (reader_from 0) (readers_of a.app 0 (n.net a.app).connections a.actor (0 + p))) f.number c reads in
    let b = slice_get_mapped (reader_from 0) (readers_of a.app 0 (n.net a.app).connections a.actor (0 + p)) f.number r.0 r.1 in
    let q = reader_is a.app 0 (n.net a.app).connections a.actor (0 + p) f.number b.0 b.1 in
    let e : c ≡ conn_in a.app (0 + q.number) = sym r.2 ∙ ap (λ (y : Reader). y.conn) (sym b.2) ∙ q.conn in
    let k : 0 + q.number ≡ q.number = omega arith in
    let place : IsPlace n a c = record {
      app = ap (λ (d : ConnId). d.app) e;
      connection = q.connection;
      stands = ap (λ (d : ConnId). slice_get (n.net a.app).connections d.place) e ∙ ap (slice_get (n.net a.app).connections) k ∙ q.stands;
    } in
    (place, q.from, q.out ∙ z)

-- one connection is at one place
same_join : (n : Nets) (a b : ActorId) (c : ConnId) (s : IsPlace n a c) (t : IsPlace n b c) → (a.app ≡ b.app) × (s.connection ≡ t.connection)
same_join n a b c s t =
    let e : a.app ≡ b.app = sym s.app ∙ t.app in
    let j : Some s.connection ≡ Some t.connection = sym s.stands ∙ ap (λ (d : AppId). slice_get (n.net d).connections c.place) e ∙ t.stands in
    (e, same_Some s.connection t.connection j)

same_id : (a b : ActorId) → a.app ≡ b.app → a.actor ≡ b.actor → a ≡ b
same_id a b e f = λ z. record { app = e z; actor = f z }

pub one_seat : (n : Nets) (a b : ActorId) (p q : ℕ) (c : ConnId) → FedAt n a p c → FedAt n b q c → (a ≡ b) × (p ≡ q)
one_seat n a b p q c f g =
    let s = fed_place n a p c f in
    let t = fed_place n b q c g in
    let j = same_join n a b c s.0 t.0 in
    (same_id a b j.0 (sym s.1 ∙ ap (λ (k : Connection). k.to) j.1 ∙ t.1), sym s.2 ∙ ap (λ (k : Connection). k.inp) j.1 ∙ t.2)

pub one_outlet : (n : Nets) (a b : ActorId) (p q : ℕ) (c : ConnId) → ReadAt n a p c → ReadAt n b q c → (a ≡ b) × (p ≡ q)
one_outlet n a b p q c f g =
    let s = read_place n a p c f in
    let t = read_place n b q c g in
    let j = same_join n a b c s.0 t.0 in
    (same_id a b j.0 (sym s.1 ∙ ap (λ (k : Connection). k.from) j.1 ∙ t.1), sym s.2 ∙ ap (λ (k : Connection). k.out) j.1 ∙ t.2)
