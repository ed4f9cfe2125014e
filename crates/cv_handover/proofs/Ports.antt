-- Ports of the one copy against what was written, taken and got: what each call leaves.
use Rattle.std.proofs.Common.{◌≡◌, inl, inr, ℕ, ◌+◌, ◌<◌, ◌≤◌, max, Bool, true, false, List, [], ◌∷◌, length, Option, Some, None, refl, sym, ap, subst, ◌∙◌, arith}
use Rattle.std.specs.Prelude.{slice_get, map, min, suc, nat_eq, if◌then◌else◌}
use Rattle.cv_queue.specs.declared.reader.Reader.{Reader}
use Rattle.cv_queue.specs.Ports.{OutView, IsOutPort, place, count, count_of, token_at, first_needed, first_needed_from, with_reader, acknowledges, acknowledged, after_ack, rewound, after_rewind, marked_sent, after_sent, after_peek}
use Rattle.cv_queue.proofs.Lists.{slice_get_written, slice_get_mapped}
use Rattle.cv_endpoint.specs.Ends.{acked, after_nack}
use Rattle.cv_endpoint.proofs.Effects.{Keeps, keeps_both, keeps_count, keeps_after_ack, keeps_after_rewind, keeps_after_sent}
use Rattle.cv_protocol.specs.declared.state.Inlet.{Inlet}
use Rattle.cv_handover.specs.Meaning.{Meaning, read_by}
use Rattle.cv_handover.specs.Agree.{InAgrees, OutAgrees}
use Rattle.cv_handover.proofs.Seqs.{map_set_same, map_map_same}

-- 1. Inports

pub in_read : (m : Meaning) (i : Inlet) (tentative : ℕ) → InAgrees m i → tentative ≤ length i.port.held → InAgrees m (record i { port = record (i.port) { tentative = tentative } })
in_read m i tentative a h = record {
  port = record { some_room = a.port.some_room; within_room = a.port.within_room; read_are_held = h; bounded = a.port.bounded };
  taken = a.taken;
  held = a.held;
  arrived = a.arrived;
}

pub in_peek : (m : Meaning) (i : Inlet) (n : ℕ) → InAgrees m i → n ≤ length i.port.held → InAgrees m (record i { port = after_peek i.port n })
in_peek m i n a h = in_read m i (max i.port.tentative n) a (omega (arith, h, a.port.read_are_held))

-- 2. Outports: the readers' positions change

-- a reader stands where one stood before, and acknowledged no more than its consumer got
pub record ReaderFollows (m : Meaning) (o : OutView) (j : ℕ) (x : Reader) : Type 0 where
  pub before : Reader
  pub stood : slice_get o.readers j ≡ Some before
  pub conn : x.conn ≡ before.conn
  pub confirmed : x.acked ≤ length (m.got x.conn)

pub record Follows (m : Meaning) (o p : OutView) : Type 0 where
  pub keeps : Keeps o p
  pub same : read_by p ≡ read_by o
  pub readers : (j : ℕ) (x : Reader) → slice_get p.readers j ≡ Some x → ReaderFollows m o j x

pub out_follows : (m : Meaning) (o p : OutView) → OutAgrees m o → Follows m o p → OutAgrees m p
out_follows m o p a f = record {
  port = f.keeps.port;
  readers =
      λ k r g.
      let b = f.readers k r g in
      let e : b.before.conn ≡ r.conn = sym b.conn in
      let q = a.readers k b.before b.stood in
      record {
        counted = keeps_count o p k f.keeps ∙ q.counted ∙ ap (λ c. length (m.wrote c)) e;
        kept = λ i t h. subst (λ c. slice_get (m.wrote c) i ≡ Some t) e (q.kept i t (f.keeps.tokens k i t h));
        confirmed = b.confirmed;
      };
}

stays : (m : Meaning) (o : OutView) → OutAgrees m o → (j : ℕ) (x : Reader) → slice_get o.readers j ≡ Some x → ReaderFollows m o j x
stays m o a j x g = record { before = x; stood = g; conn = refl; confirmed = (a.readers j x g).confirmed }

-- one reader has other positions
reader_written : (m : Meaning) (o : OutView) (k : ℕ) (r : Reader) (acked sent : ℕ) → OutAgrees m o → slice_get o.readers k ≡ Some r → acked ≤ length (m.got r.conn) → (j : ℕ) (x : Reader) → slice_get (with_reader o k r acked sent).readers j ≡ Some x → ReaderFollows m o j x
reader_written m o k r acked sent a g h j x e =
    elim (slice_get_written o.readers k (record r { acked = acked; sent = sent }) j x e) [
      | inl w ↦ record {
        before = r;
        stood = ap (slice_get o.readers) w.0 ∙ g;
        conn = ap (λ (y : Reader). y.conn) w.1;
        confirmed = subst (λ (y : Reader). y.acked ≤ length (m.got y.conn)) (sym w.1) h;
      }
      | inr w ↦ stays m o a j x w
    ]

read_written : (o : OutView) (k : ℕ) (r : Reader) (acked sent : ℕ) → slice_get o.readers k ≡ Some r → read_by (with_reader o k r acked sent) ≡ read_by o
read_written o k r acked sent g = map_set_same (λ (x : Reader). x.conn) o.readers k r (record r { acked = acked; sent = sent }) g refl

read_acknowledged : (o : OutView) (k upto : ℕ) (r : Option Reader) → slice_get o.readers k ≡ r → (b : Bool) → read_by (acknowledged o k upto r b) ≡ read_by o
read_acknowledged o k upto None g true = refl
read_acknowledged o k upto None g false = refl
read_acknowledged o k upto (Some r) g false = refl
read_acknowledged o k upto (Some r) g true = read_written o k r upto (max r.sent upto) g

read_rewound : (o : OutView) (k : ℕ) (r : Option Reader) → slice_get o.readers k ≡ r → read_by (rewound o k r) ≡ read_by o
read_rewound o k None g = refl
read_rewound o k (Some r) g = read_written o k r r.acked r.acked g

read_marked : (o : OutView) (k : ℕ) (r : Option Reader) → slice_get o.readers k ≡ r → read_by (marked_sent o k r) ≡ read_by o
read_marked o k None g = refl
read_marked o k (Some r) g = read_written o k r r.acked (r.sent + 1) g

follows_acknowledged : (m : Meaning) (o : OutView) (k upto : ℕ) → OutAgrees m o → (r : Option Reader) → slice_get o.readers k ≡ r → ((x : Reader) → r ≡ Some x → upto ≤ length (m.got x.conn)) → (b : Bool) → (j : ℕ) (x : Reader) → slice_get (acknowledged o k upto r b).readers j ≡ Some x → ReaderFollows m o j x
follows_acknowledged m o k upto a None g h true j x e = stays m o a j x e
follows_acknowledged m o k upto a None g h false j x e = stays m o a j x e
follows_acknowledged m o k upto a (Some r) g h false j x e = stays m o a j x e
follows_acknowledged m o k upto a (Some r) g h true j x e =
    reader_written m o k r upto (max r.sent upto) a g (h r refl) j x e

-- an acknowledgement of no more than was got
pub follows_ack : (m : Meaning) (o : OutView) (k upto : ℕ) → OutAgrees m o → ((x : Reader) → slice_get o.readers k ≡ Some x → upto ≤ length (m.got x.conn)) → Follows m o (after_ack o k upto)
follows_ack m o k upto a h = record {
  keeps = keeps_after_ack o k upto a.port;
  same = read_acknowledged o k upto (slice_get o.readers k) refl (acknowledges o k upto);
  readers = follows_acknowledged m o k upto a (slice_get o.readers k) refl h (acknowledges o k upto);
}

follows_rewound : (m : Meaning) (o : OutView) (k : ℕ) → OutAgrees m o → (r : Option Reader) → slice_get o.readers k ≡ r → (j : ℕ) (x : Reader) → slice_get (rewound o k r).readers j ≡ Some x → ReaderFollows m o j x
follows_rewound m o k a None g j x e = stays m o a j x e
follows_rewound m o k a (Some r) g j x e = reader_written m o k r r.acked r.acked a g (a.readers k r g).confirmed j x e

pub follows_rewind : (m : Meaning) (o : OutView) (k : ℕ) → OutAgrees m o → Follows m o (after_rewind o k)
follows_rewind m o k a = record {
  keeps = keeps_after_rewind o k a.port;
  same = read_rewound o k (slice_get o.readers k) refl;
  readers = follows_rewound m o k a (slice_get o.readers k) refl;
}

follows_marked : (m : Meaning) (o : OutView) (k : ℕ) → OutAgrees m o → (r : Option Reader) → slice_get o.readers k ≡ r → (j : ℕ) (x : Reader) → slice_get (marked_sent o k r).readers j ≡ Some x → ReaderFollows m o j x
follows_marked m o k a None g j x e = stays m o a j x e
follows_marked m o k a (Some r) g j x e = reader_written m o k r r.acked (r.sent + 1) a g (a.readers k r g).confirmed j x e

pub follows_sent : (m : Meaning) (o : OutView) (k : ℕ) (r : Reader) → OutAgrees m o → slice_get o.readers k ≡ Some r → r.sent < count_of o k → Follows m o (after_sent o k)
follows_sent m o k r a g u = record {
  keeps = keeps_after_sent o k r a.port g u;
  same = read_marked o k (slice_get o.readers k) refl;
  readers = follows_marked m o k a (slice_get o.readers k) refl;
}

follows_either : (m : Meaning) (o : OutView) (b : Bool) (p q : OutView) → Follows m o p → Follows m o q → Follows m o (if b then p else q)
follows_either m o true p q f g = f
follows_either m o false p q f g = g

follows_both : (m : Meaning) (o p q : OutView) → Follows m o p → Follows m p q → Follows m o q
follows_both m o p q f g = record {
  keeps = keeps_both o p q f.keeps g.keeps;
  same = g.same ∙ f.same;
  readers =
      λ j x e.
      let b = g.readers j x e in
      let c = f.readers j b.before b.stood in
      record { before = c.before; stood = c.stood; conn = b.conn ∙ c.conn; confirmed = b.confirmed };
}

pub follows_nack : (m : Meaning) (o : OutView) (k upto : ℕ) → OutAgrees m o → ((x : Reader) → slice_get o.readers k ≡ Some x → upto ≤ length (m.got x.conn)) → Follows m o (after_nack o k upto)
follows_nack m o k upto a h =
    let f = follows_ack m o k upto a h in
    let p : OutView = after_ack o k upto in
    follows_either m o (nat_eq upto (acked p k)) (after_rewind p k) p (follows_both m o p (after_rewind p k) f (follows_rewind m p k (out_follows m o p a f))) f

-- 3. Every reader of a port is rewound, or some are

-- the positions of a reader are the same but for what was sent, which may be less
pub record Lowers (f : Reader → Reader) : Type 0 where
  pub conn : (r : Reader) → (f r).conn ≡ r.conn
  pub acked : (r : Reader) → (f r).acked ≡ r.acked
  pub sent : (r : Reader) → r.acked ≤ r.sent → (r.acked ≤ (f r).sent) × ((f r).sent ≤ r.sent)

same_needs : (f : Reader → Reader) → Lowers f → (s w k : ℕ) (rs : List Reader) → first_needed_from s w k (map f rs) ≡ first_needed_from s w k rs
same_needs f l s w k [] = refl
same_needs f l s w k (r ∷ rs) = λ i. min (place s k (l.acked r i)) (same_needs f l s w (k + 1) rs i)

pub same_length : {X Y : Type 0} (f : X → Y) (xs : List X) → length (map f xs) ≡ length xs
same_length f [] = refl
same_length f (x ∷ xs) = ap suc (same_length f xs)

lowered_port : (f : Reader → Reader) → Lowers f → (o : OutView) → IsOutPort o → IsOutPort (record o { readers = map f o.readers })
lowered_port f l o p =
    let n = same_length f o.readers in
    let needs : first_needed (record o { readers = map f o.readers }) ≡ first_needed o = ap (λ s. first_needed_from s o.write 0 (map f o.readers)) n ∙ same_needs f l (length o.readers) o.write 0 o.readers in
    record {
      some_room = p.some_room;
      within_room = p.within_room;
      held_from = omega (arith, needs, p.held_from);
      bounded = p.bounded;
      in_order =
          λ k x e.
          let g = slice_get_mapped f o.readers k x e in
          let r : Reader = g.0 in
          let c : count_of (record o { readers = map f o.readers }) k ≡ count_of o k = ap (λ s. count s o.write k) n in
          let b = p.in_order k r g.1 in
          let q = l.sent r b.0 in
          let t : (f r).acked ≡ r.acked = l.acked r in
          subst (λ (y : Reader). (y.acked ≤ y.sent) × (y.sent ≤ count_of (record o { readers = map f o.readers }) k)) g.2 (omega (arith, q, t), omega (arith, q, c, b.1));
    }

pub follows_lowered : (m : Meaning) (f : Reader → Reader) → Lowers f → (o : OutView) → OutAgrees m o → Follows m o (record o { readers = map f o.readers })
follows_lowered m f l o a =
    let n = same_length f o.readers in
    record {
      keeps = record {
        port = lowered_port f l o a.port;
        readers = n;
        written = refl;
        tokens = λ j i t h. ap (λ s. token_at o (place s j i)) (sym n) ∙ h;
      };
      same = map_map_same (λ (x : Reader). x.conn) f l.conn o.readers;
      readers =
          λ j x e.
          let g = slice_get_mapped f o.readers j x e in
          let c = (a.readers j g.0 g.1).confirmed in
          record {
            before = g.0;
            stood = g.1;
            conn = sym (ap (λ (y : Reader). y.conn) g.2) ∙ l.conn g.0;
            confirmed = subst (λ (y : Reader). y.acked ≤ length (m.got y.conn)) g.2 (subst (λ c. (f g.0).acked ≤ length (m.got c)) (sym (l.conn g.0)) (subst (λ k. k ≤ length (m.got g.0.conn)) (sym (l.acked g.0)) c));
          };
    }
