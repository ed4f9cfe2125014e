-- Each call keeps a port's positions in order.
use Rattle.std.proofs.Common.{◌≡◌, ℕ, ◌+◌, ◌-◌, ◌^◌, ◌<◌, ◌≤◌, ◌⊎◌, inl, inr, List, [], ◌∷◌, ◌++◌, length, map, Option, Some, None, refl, ◌∙◌, sym, ap, subst, arith, length-append, length-drop}
use Rattle.std.specs.Prelude.{IsSome, slice_get, slice_set, IsSomeAnd, OnSome}
use Rattle.std.specs.Option.{option_map}
use Rattle.std.proofs.lemmas.List.{length-set}
use Rattle.cv_token.specs.declared.token.Token.{Token}
use Rattle.cv_queue.specs.declared.reader.Reader.{Reader}
use Rattle.cv_queue.specs.declared.reader.Subscription.{Subscription}
use Rattle.cv_queue.specs.Ports.{OutView, IsOutPort, AreWritten, place, count, count_of, spread, space, first_needed, first_needed_from, first_held, with_reader, released, HasUnsent, IsThere, token_for, new_out, out_at, reader_from}
use Rattle.cv_queue.proofs.Lists.{slice_get_written, slice_get_some, slice_get_mapped}
use Rattle.cv_queue.proofs.Positions.{first_needed_le, first_needed_any, first_needed_before, first_needed_rises, first_needed_stays, place_rises, place_written, place_unwritten, count_rises, count_within, someone_next}
use Rattle.std.proofs.lemmas.Option.{slice_get_past, none-some as none_some}
use Rattle.std.proofs.lemmas.Bool.{cases_lt}
use Rattle.std.proofs.lemmas.Bool.Decides.{nat_tests}
use Rattle.std.proofs.lemmas.Grind.{common_steps}

-- the number of readers stays, so tokens are dealt as before
pub first_needed_written : (o : OutView) (k : ℕ) (r : Reader) (acked sent : ℕ) → first_needed (with_reader o k r acked sent) ≡ first_needed_from (spread o) o.write 0 (slice_set o.readers k (record r { acked = acked; sent = sent }))
first_needed_written o k r acked sent =
    ap (λ (s : ℕ). first_needed_from s o.write 0 (slice_set o.readers k (record r { acked = acked; sent = sent }))) (length-set o.readers k (record r { acked = acked; sent = sent }))

pub count_of_written : (o : OutView) (k : ℕ) (r : Reader) (acked sent j : ℕ) → count_of (with_reader o k r acked sent) j ≡ count_of o j
count_of_written o k r acked sent j =
    ap (λ (s : ℕ). count s o.write j) (length-set o.readers k (record r { acked = acked; sent = sent }))

-- the readers stay in order where one of them does
in_order_written : (o : OutView) (k : ℕ) (r : Reader) (acked sent : ℕ) → acked ≤ sent → sent ≤ count_of o k → IsOutPort o → (j : ℕ) (x : Reader) → slice_get (slice_set o.readers k (record r { acked = acked; sent = sent })) j ≡ Some x → (x.acked ≤ x.sent) × (x.sent ≤ count_of (with_reader o k r acked sent) j)
in_order_written o k r acked sent a b p j x h =
    let e = count_of_written o k r acked sent j in
    elim (slice_get_written o.readers k (record r { acked = acked; sent = sent }) j x h) [
      | inl q ↦ (grind (arith, q), grind (arith, q))
      | inr q ↦ (omega (arith, (p.in_order j x q).0), omega (arith, (p.in_order j x q).1))
    ]

-- a reader is rewound, or one more token is sent to it
pub keeps_sent : (o : OutView) (k : ℕ) (r : Reader) (sent : ℕ) → slice_get o.readers k ≡ Some r → r.acked ≤ sent → sent ≤ count_of o k → IsOutPort o → IsOutPort (with_reader o k r r.acked sent)
keeps_sent o k r sent g a b p =
    let e = first_needed_written o k r r.acked sent in
    let f = first_needed_stays (spread o) o.write 0 o.readers k r (record r { sent = sent }) g refl in
    record {
      some_room = p.some_room;
      within_room = p.within_room;
      held_from = omega (arith, e, f, p.held_from);
      bounded = p.bounded;
      in_order = in_order_written o k r r.acked sent a b p;
    }

pub keeps_rewind : (o : OutView) (k : ℕ) (r : Reader) → slice_get o.readers k ≡ Some r → IsOutPort o → IsOutPort (with_reader o k r r.acked r.acked)
keeps_rewind o k r g p =
    let a = p.in_order k r g in
    keeps_sent o k r r.acked g (omega arith) (omega (arith, a.0, a.1)) p

-- a reader that has an unsent token, as it stands
pub unsent : (o : OutView) (k : ℕ) (r : Reader) → slice_get o.readers k ≡ Some r → IsSomeAnd (slice_get o.readers k) (HasUnsent o k) → r.sent < count_of o k
unsent o k r g h =
    subst (λ (x : Option Reader). IsSomeAnd x (HasUnsent o k)) g h

pub keeps_mark : (o : OutView) (k : ℕ) (r : Reader) → slice_get o.readers k ≡ Some r → r.sent < count_of o k → IsOutPort o → IsOutPort (with_reader o k r r.acked (r.sent + 1))
keeps_mark o k r g u p =
    let a = p.in_order k r g in
    keeps_sent o k r (r.sent + 1) g (omega (arith, a.0)) (omega (arith, u)) p

-- what is needed begins no earlier than before, and at most at the next token that is written
pub needed_from : (o : OutView) (k : ℕ) (r : Reader) (upto sent : ℕ) → slice_get o.readers k ≡ Some r → r.acked ≤ upto → IsOutPort o → (first_held o ≤ first_needed (with_reader o k r upto sent)) × (first_needed (with_reader o k r upto sent) ≤ o.write)
needed_from o k r upto sent g a p =
    let e = first_needed_written o k r upto sent in
    let f = first_needed_rises (spread o) o.write 0 o.readers k r (record r { acked = upto; sent = sent }) g a in
    let l = first_needed_le (spread o) o.write 0 (slice_set o.readers k (record r { acked = upto; sent = sent })) in
    (omega (arith, e, f, p.held_from), omega (arith, e, l))

-- a reader acknowledges
pub keeps_ack : (o : OutView) (k : ℕ) (r : Reader) (upto sent : ℕ) → slice_get o.readers k ≡ Some r → r.acked ≤ upto → upto ≤ sent → sent ≤ count_of o k → IsOutPort o → IsOutPort (released (with_reader o k r upto sent))
keeps_ack o k r upto sent g a b c p =
    let n = needed_from o k r upto sent g a p in
    let d = length-drop (first_needed (with_reader o k r upto sent) - first_held o) o.held in
    record {
      some_room = p.some_room;
      within_room = omega (arith, d, p.within_room);
      held_from = omega (arith, d, n.0, n.1, p.held_from);
      bounded = p.bounded;
      in_order = in_order_written o k r upto sent b c p;
    }

-- a token is written, and nobody reads it
pub keeps_unread : (o : OutView) → o.readers ≡ [] → o.write < 2 ^ 62 → IsOutPort o → IsOutPort (record o { write = o.write + 1 })
keeps_unread o e small p =
    record {
      some_room = p.some_room;
      within_room = p.within_room;
      held_from =
          let f : first_needed_from (spread o) (o.write + 1) 0 o.readers ≡ o.write + 1 = rw e refl in
          let g : first_needed o ≡ o.write = rw e refl in
          omega (arith, f, g, p.held_from);
      bounded = omega arith;
      in_order =
          λ k r g.
          let a = p.in_order k r g in
          (a.0, omega (arith, a.1, count_rises (spread o) o.write (o.write + 1) k (omega arith)));
    }

-- a token is written for readers
first_needed_next : (o : OutView) → 0 < length o.readers → IsOutPort o → first_needed_from (spread o) (o.write + 1) 0 o.readers ≡ first_needed o
first_needed_next o h p =
    let n = someone_next (spread o) o.write h in
    let k = n.0 in
    let q = slice_get_some o.readers k n.1 in
    let r = q.0 in
    let a = p.in_order k r q.1 in
    let b = place_rises (spread o) k r.acked (count_of o k) (omega (arith, a.0, a.1)) in
    let c = first_needed_any (spread o) (o.write + 1) o.readers k r q.1 in
    let d = first_needed_before (spread o) o.write 0 o.readers in
    omega (arith, b, c, d, n.2)

pub keeps_write : (o : OutView) (t : Token) → 0 < length o.readers → 1 ≤ space o → o.write < 2 ^ 62 → IsOutPort o → IsOutPort (record o { held = o.held ++ t ∷ []; write = o.write + 1 })
keeps_write o t h room small p =
    let e = first_needed_next o h p in
    let l = length-append o.held (t ∷ []) in
    record {
      some_room = p.some_room;
      within_room = omega (arith, l, room, p.some_room);
      held_from = omega (arith, l, e, p.held_from);
      bounded = omega arith;
      in_order =
          λ k r g.
          let a = p.in_order k r g in
          (a.0, omega (arith, a.1, count_rises (spread o) o.write (o.write + 1) k (omega arith)));
    }

-- 3. Ports as they are made

pub is_new_out : (cap : ℕ) (readers : List Subscription) → 1 ≤ cap → IsOutPort (new_out cap readers)
is_new_out cap readers h =
    record {
      some_room = h;
      within_room = omega arith;
      held_from =
          omega (arith, first_needed_le (length (map (reader_from 0) readers)) 0 0 (map (reader_from 0) readers));
      bounded = omega arith;
      in_order =
          λ k r g.
          let m = slice_get_mapped (reader_from 0) readers k r g in
          let a : 0 ≡ r.acked = ap (λ (x : Reader). x.acked) m.2 in
          let b : 0 ≡ r.sent = ap (λ (x : Reader). x.sent) m.2 in
          (omega (arith, a, b), omega (arith, b));
    }

pub is_out_at : (cap written : ℕ) (held : List Token) (readers : List Subscription) → 1 ≤ cap → length held ≤ cap → written ≤ 2 ^ 62 → AreWritten written (out_at cap written held readers).readers → length held ≡ written - first_needed (out_at cap written held readers) → IsOutPort (out_at cap written held readers)
is_out_at cap written held readers a b c d e =
    let o = out_at cap written held readers in
    record {
      some_room = a;
      within_room = b;
      held_from = omega (arith, first_needed_le (spread o) written 0 o.readers);
      bounded = c;
      in_order =
          λ k r g.
          let m = slice_get_mapped (λ (s : Subscription). reader_from s.acked s) readers k r g in
          let f : m.0.acked ≡ r.acked = ap (λ (x : Reader). x.acked) m.2 in
          let h : m.0.acked ≡ r.sent = ap (λ (x : Reader). x.sent) m.2 in
          (omega (arith, f, h), omega (arith, f, h, d k r g));
    }

pub are_written_at : (o : OutView) → IsOutPort o → AreWritten o.write o.readers
are_written_at o p k r g = omega (arith, (p.in_order k r g).0, (p.in_order k r g).1)

-- 4. Which of a reader's tokens are held

-- only those that were written
held_below : (o : OutView) (k n : ℕ) (t : Token) → IsOutPort o → (n < count_of o k) ⊎ (count_of o k ≤ n) → token_for o k n ≡ Some t → n < count_of o k
held_below o k n t p (inl l) h = l
held_below o k n t p (inr l) h =
    let w = place_unwritten (spread o) o.write k n l in
    let x : length o.held ≤ place (spread o) k n - first_held o = omega (arith, w, p.held_from) in
    let y = slice_get_past o.held (place (spread o) k n - first_held o) x in
    absurd (grind (arith, nat_tests, common_steps, y, h))

pub held_is_written : (o : OutView) (k n : ℕ) (t : Token) → IsOutPort o → token_for o k n ≡ Some t → n < count_of o k
held_is_written o k n t p h = held_below o k n t p (cases_lt n (count_of o k)) h

-- every one that was written and that the reader has not acknowledged
pub on_held : {R : Type 0} (v : R → Token) (r : Option R) (o : OutView) (k n : ℕ) → IsOutPort o → option_map v r ≡ token_for o k n → OnSome r ((n < count_of o k) × (n < 2 ^ 62))
on_held v None o k n p h = tt
on_held v (Some x) o k n p h =
    let l = held_is_written o k n (v x) p (sym h) in
    (l, omega (arith, l, count_within (spread o) o.write k, p.bounded))

pub unacknowledged_is_held : (o : OutView) (k n : ℕ) (r : Reader) → IsOutPort o → slice_get o.readers k ≡ Some r → r.acked ≤ n → n < count_of o k → (t : Token) × (token_for o k n ≡ Some t)
unacknowledged_is_held o k n r p g a b =
    let f = first_needed_any (spread o) o.write o.readers k r g in
    let m = place_rises (spread o) k r.acked n a in
    let w = place_written (spread o) o.write k n b in
    let x : place (spread o) k n - first_held o < length o.held = omega (arith, f, m, w, p.held_from) in
    let y : first_held o ≤ place (spread o) k n = omega (arith, f, m, p.held_from) in
    let s = slice_get_some o.held (place (spread o) k n - first_held o) x in
    (s.0, grind (arith, nat_tests, s.1, y))

pub is_there : (o : OutView) (k n : ℕ) (r : Option Reader) → IsOutPort o → slice_get o.readers k ≡ r → IsThere o k n r → (t : Token) × (token_for o k n ≡ Some t)
is_there o k n None p g h = absurd h
is_there o k n (Some r) p g h = unacknowledged_is_held o k n r p g h.0 h.1

pub on_there : {R : Type 0} (v : R → Token) (a : Option R) (o : OutView) (k n : ℕ) → IsOutPort o → option_map v a ≡ token_for o k n → IsThere o k n (slice_get o.readers k) → IsSome a
on_there v None o k n p e h =
    let t = is_there o k n (slice_get o.readers k) p refl h in
    absurd (none_some t.0 (e ∙ t.1))
on_there v (Some x) o k n p e h = refl
