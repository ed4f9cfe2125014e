-- What of an actor's copy agrees when the meaning changes elsewhere, and a token that comes into an inport.
use Rattle.std.proofs.Common.{◌≡◌, ◌⊎◌, inl, inr, ℕ, ◌<◌, ◌≤◌, ◌^◌, Bool, List, [], ◌∷◌, ◌++◌, length, drop, Option, Some, refl, sym, ap, subst, ◌∙◌, arith, if◌then◌else◌, length-append}
use Rattle.std.specs.Prelude.{slice_get, slice_set}
use Rattle.std.specs.Option.{option_map}
use Rattle.std.proofs.lemmas.Bool.{cases_eq}
use Rattle.std.proofs.lemmas.List.{drop-append-le, append-nil}
use Rattle.std.proofs.lemmas.Option.{same_Some, slice_get-map, slice_get_within}
use Rattle.cv_token.specs.declared.token.Token.{Token}
use Rattle.cv_token.specs.declared.identifiers.ActorId.{ActorId}
use Rattle.cv_token.specs.declared.identifiers.ConnId.{ConnId}
use Rattle.cv_table.proofs.Views.{same_conn-cases}
use Rattle.cv_queue.specs.declared.reader.Reader.{Reader}
use Rattle.cv_queue.specs.Ports.{OutView, received}
use Rattle.cv_queue.proofs.Lists.{slice_get_written, slice_get_same}
use Rattle.cv_endpoint.proofs.Lists.{slice_get_other, slice_get_pushed}
use Rattle.cv_protocol.specs.declared.state.Inlet.{Inlet}
use Rattle.cv_protocol.specs.Actors.{Actor}
use Rattle.cv_handover.specs.Meaning.{Nets, Meaning, fed_by, read_by, gets, comes_in}
use Rattle.cv_handover.specs.Agree.{IsAlike, InAgrees, OutAgrees, ActorAgrees, Streams}
use Rattle.cv_handover.proofs.Copies.{streams_put}
use Rattle.cv_handover.proofs.Places.{set}
use Rattle.cv_handover.proofs.Seqs.{map_set_same}
use Rattle.cv_handover.proofs.Wiring.{FedAt, ReadAt, one_seat}

-- 1. Where the ports of a copy stand in the network

pub fed_at : (n : Nets) (m : Meaning) (a : ActorId) (x : Actor) (p : ℕ) (i : Inlet) → IsAlike n m a x → slice_get x.ins p ≡ Some (Some i) → FedAt n a p i.conn
fed_at n m a x p i g e =
    ap (λ (cs : List (Option ConnId)). slice_get cs p) (sym g.fed) ∙ slice_get-map fed_by x.ins p ∙ ap (option_map fed_by) e

pub read_at : (n : Nets) (m : Meaning) (a : ActorId) (x : Actor) (q k : ℕ) (o : OutView) (r : Reader) → IsAlike n m a x → slice_get x.outs q ≡ Some o → slice_get o.readers k ≡ Some r → ReadAt n a q r.conn
read_at n m a x q k o r g e f = record {
  conns = read_by o;
  port = ap (λ (cs : List (List ConnId)). slice_get cs q) (sym g.read) ∙ slice_get-map read_by x.outs q ∙ ap (option_map read_by) e;
  number = k;
  reads = slice_get-map (λ (y : Reader). y.conn) o.readers k ∙ ap (option_map (λ (y : Reader). y.conn)) f;
}

-- 2. The meaning changes elsewhere

pub inlet_same : (m v : Meaning) (i : Inlet) → v.took i.conn ≡ m.took i.conn → v.got i.conn ≡ m.got i.conn → InAgrees m i → InAgrees v i
inlet_same m v i took got a = record {
  port = a.port;
  taken = a.taken ∙ sym took;
  held = a.held ∙ sym (λ z. drop (took z) (got z));
  arrived = a.arrived ∙ ap length (sym got);
}

pub out_same : (m v : Meaning) (o : OutView) → OutAgrees m o → ((k : ℕ) (r : Reader) → slice_get o.readers k ≡ Some r → v.wrote r.conn ≡ m.wrote r.conn) → ((c : ConnId) → length (m.got c) ≤ length (v.got c)) → OutAgrees v o
out_same m v o a wrote got = record {
  port = a.port;
  readers =
      λ k r e.
      let q = a.readers k r e in
      let w : v.wrote r.conn ≡ m.wrote r.conn = wrote k r e in
      record {
        counted = q.counted ∙ ap length (sym w);
        kept = λ i t h. ap (λ (ts : List Token). slice_get ts i) w ∙ q.kept i t h;
        confirmed = omega (arith, q.confirmed, got r.conn);
      };
}

-- the connections of the actor's ports are as they were
pub actor_same : (n : Nets) (m v : Meaning) (a : ActorId) (x : Actor) → ActorAgrees n m a x → v.slots a ≡ m.slots a → ((p : ℕ) (c : ConnId) → FedAt n a p c → (v.took c ≡ m.took c) × (v.got c ≡ m.got c)) → ((q : ℕ) (c : ConnId) → ReadAt n a q c → v.wrote c ≡ m.wrote c) → ((c : ConnId) → length (m.got c) ≤ length (v.got c)) → ActorAgrees n v a x
actor_same n m v a x g slots fed read got = record {
  alike = record { spec = g.alike.spec; slots = g.alike.slots ∙ sym slots; fed = g.alike.fed; read = g.alike.read };
  ins =
      λ p i e.
      let f = fed p i.conn (fed_at n m a x p i g.alike e) in
      inlet_same m v i f.0 f.1 (g.ins p i e);
  outs = λ q o e. out_same m v o (g.outs q o e) (λ k r f. read q r.conn (read_at n m a x q k o r g.alike e f)) got;
}

-- 3. A list with one place written

pub slice_get_apart : {X : Type 0} (xs : List X) (i : ℕ) (y : X) (k : ℕ) (x : X) → slice_get (slice_set xs i y) k ≡ Some x → ((k ≡ i) × (x ≡ y)) ⊎ (((k ≡ i) → ⊥) × (slice_get xs k ≡ Some x))
slice_get_apart {X} xs i y k x e =
    elim (cases_eq k i) [
      | inl is ↦
          elim (slice_get_written xs i y k x e) [
            | inl w ↦ inl w
            | inr w ↦
                let u : slice_get xs i ≡ Some x = ap (slice_get xs) (sym is) ∙ w in
                let s : Some y ≡ Some x = sym (slice_get_same xs i y (slice_get_within xs i x u)) ∙ ap (slice_get (slice_set xs i y)) (sym is) ∙ e in
                inl (is, sym (same_Some y x s))
          ]
      | inr apart ↦ inr (apart, sym (slice_get_other xs i y k apart) ∙ e)
    ]

-- 4. A token comes

gets_cases : (got : ConnId → List Token) (c : ConnId) (more : List Token) (d : ConnId) → ((d ≡ c) × (gets got c more d ≡ got d ++ more)) ⊎ (((d ≡ c) → ⊥) × (gets got c more d ≡ got d))
gets_cases got c more d =
    elim (same_conn-cases d c) [
      | inl s ↦ inl (s.1, ap (λ (b : Bool). if b then got d ++ more else got d) s.0)
      | inr s ↦ inr (s.1, ap (λ (b : Bool). if b then got d ++ more else got d) s.0)
    ]

pub gets_here : (got : ConnId → List Token) (c : ConnId) (more : List Token) → gets got c more c ≡ got c ++ more
gets_here got c more =
    elim (gets_cases got c more c) [ inl s ↦ s.1 | inr s ↦ absurd (s.0 refl) ]

pub gets_rises : (got : ConnId → List Token) (c : ConnId) (more : List Token) (d : ConnId) → length (got d) ≤ length (gets got c more d)
gets_rises got c more d =
    elim (gets_cases got c more d) [
      | inl s ↦ omega (arith, ap length s.1, length-append (got d) more)
      | inr s ↦ omega (arith, ap length s.1)
    ]

gets_nothing : (got : ConnId → List Token) (c d : ConnId) → gets got c [] d ≡ got d
gets_nothing got c d =
    elim (gets_cases got c [] d) [ inl s ↦ s.1 ∙ append-nil (got d) | inr s ↦ s.1 ]

pub nothing_comes : (m : Meaning) (c : ConnId) → comes_in m c [] ≡ m
nothing_comes m c = λ z. record m { got = λ d. gets_nothing m.got c d z }

-- the inport with the token at its end
abbrev pub with_arrived : Inlet → Token → Inlet
with_arrived i t = record i { port = record (i.port) { held = i.port.held ++ t ∷ [] } }

inlet_arrived : (m : Meaning) (i : Inlet) (t : Token) → InAgrees m i → m.took i.conn ≤ length (m.got i.conn) → (length i.port.held ≡ i.port.cap → ⊥) → received i.port < 2 ^ 62 → InAgrees (comes_in m i.conn (t ∷ [])) (with_arrived i t)
inlet_arrived m i t a took room small =
    let p = a.port in
    let e : gets m.got i.conn (t ∷ []) i.conn ≡ m.got i.conn ++ t ∷ [] = gets_here m.got i.conn (t ∷ []) in
    let l = length-append i.port.held (t ∷ []) in
    let g = length-append (m.got i.conn) (t ∷ []) in
    record {
      port = record {
        some_room = p.some_room;
        within_room = omega (arith, l, p.within_room, room);
        read_are_held = omega (arith, l, p.read_are_held);
        bounded = omega (arith, l, small);
      };
      taken = a.taken;
      held = ap (λ (ts : List Token). ts ++ t ∷ []) a.held ∙ sym (drop-append-le (m.took i.conn) (m.got i.conn) (t ∷ []) took) ∙ ap (drop (m.took i.conn)) (sym e);
      arrived = omega (arith, l, g, ap length e, a.arrived);
    }

module _ (n : Nets) (m : Meaning) (copy : ActorId → Actor) (s : Streams n m copy) (a : ActorId) (x : Actor) (is : x ≡ copy a) (p : ℕ) (i : Inlet) (stands : slice_get x.ins p ≡ Some (Some i)) (t : Token) where
  agreed : ActorAgrees n m a x
  agreed = subst (ActorAgrees n m a) (sym is) (s.actors a)

  -- no other inport has the connection
  elsewhere : (b : ActorId) (q : ℕ) (c : ConnId) → FedAt n b q c → ((b ≡ a) → (q ≡ p) → ⊥) → gets m.got i.conn (t ∷ []) c ≡ m.got c
  elsewhere b q c f apart =
      elim (gets_cases m.got i.conn (t ∷ []) c) [
        | inl e ↦
            let here : FedAt n a p c = subst (FedAt n a p) (sym e.0) (fed_at n m a x p i agreed.alike stands) in
            let u = one_seat n b a q p c f here in
            absurd (apart u.0 u.1)
        | inr e ↦ e.1
      ]

  actor_arrived : m.took i.conn ≤ length (m.got i.conn) → (length i.port.held ≡ i.port.cap → ⊥) → received i.port < 2 ^ 62 → ActorAgrees n (comes_in m i.conn (t ∷ [])) a (record x { ins = slice_set x.ins p (Some (with_arrived i t)) })
  actor_arrived took room small = record {
    alike = record {
      spec = agreed.alike.spec;
      slots = agreed.alike.slots;
      fed = map_set_same fed_by x.ins p (Some i) (Some (with_arrived i t)) stands refl ∙ agreed.alike.fed;
      read = agreed.alike.read;
    };
    ins =
        λ q j e.
        elim (slice_get_apart x.ins p (Some (with_arrived i t)) q (Some j) e) [
          | inl w ↦ subst (InAgrees (comes_in m i.conn (t ∷ []))) (sym (same_Some j (with_arrived i t) w.1)) (inlet_arrived m i t (agreed.ins p i stands) took room small)
          | inr w ↦ inlet_same m (comes_in m i.conn (t ∷ [])) j refl (elsewhere a q j.conn (fed_at n m a x q j agreed.alike w.1) (λ same. w.0)) (agreed.ins q j w.1)
        ];
    outs = λ q o e. out_same m (comes_in m i.conn (t ∷ [])) o (agreed.outs q o e) (λ k r f. refl) (gets_rises m.got i.conn (t ∷ []));
  }

  ordered_arrived : slice_get (m.wrote i.conn) (length (m.got i.conn)) ≡ Some t → (c : ConnId) (k : ℕ) (u : Token) → slice_get (gets m.got i.conn (t ∷ []) c) k ≡ Some u → slice_get (m.wrote c) k ≡ Some u
  ordered_arrived next c k u e =
      elim (gets_cases m.got i.conn (t ∷ []) c) [
        | inl w ↦
            elim (slice_get_pushed (m.got c) t k u (ap (λ (ts : List Token). slice_get ts k) (sym w.1) ∙ e)) [
              | inl old ↦ s.ordered c k u old
              | inr new ↦
                  let here : slice_get (m.wrote c) (length (m.got c)) ≡ Some t = subst (λ (d : ConnId). slice_get (m.wrote d) (length (m.got d)) ≡ Some t) (sym w.0) next in
                  ap (slice_get (m.wrote c)) new.0 ∙ here ∙ ap Some (sym new.1)
            ]
        | inr w ↦ s.ordered c k u (ap (λ (ts : List Token). slice_get ts k) (sym w.1) ∙ e)
      ]

  taken_arrived : (c : ConnId) → m.took c ≤ length (gets m.got i.conn (t ∷ []) c)
  taken_arrived c = omega (arith, s.taken c, gets_rises m.got i.conn (t ∷ []) c)

  -- the next token of the connection comes into the inport, which has room
  pub streams_arrived : slice_get (m.wrote i.conn) (length (m.got i.conn)) ≡ Some t → (length i.port.held ≡ i.port.cap → ⊥) → received i.port < 2 ^ 62 → Streams n (comes_in m i.conn (t ∷ [])) (set copy a (record x { ins = slice_set x.ins p (Some (with_arrived i t)) }))
  streams_arrived next room small =
      streams_put n m (comes_in m i.conn (t ∷ [])) copy a (record x { ins = slice_set x.ins p (Some (with_arrived i t)) }) s (actor_arrived (s.taken i.conn) room small) (λ b other. actor_same n m (comes_in m i.conn (t ∷ [])) b (copy b) (s.actors b) refl (λ q c f. (refl, elsewhere b q c f (λ same. absurd (other same)))) (λ q c f. refl) (gets_rises m.got i.conn (t ∷ []))) (ordered_arrived next) taken_arrived
