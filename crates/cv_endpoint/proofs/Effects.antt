-- What the calls of an outport leave: of its positions, of its readers' tokens, and of how many there are.
use Rattle.std.proofs.Common.{◌≡◌, ℕ, ◌+◌, ◌-◌, ◌<◌, ◌≤◌, max, Bool, true, false, ◌⊎◌, inl, inr, List, [], ◌∷◌, ◌++◌, length, drop, Option, Some, None, refl, sym, ap, ◌∙◌, subst, arith, length-append, length-drop}
use Rattle.std.specs.Prelude.{slice_get, nat_lt, if◌then◌else◌}
use Rattle.std.proofs.lemmas.List.{length-set}
use Rattle.std.proofs.lemmas.Option.{none-some as none_some}
use Rattle.std.proofs.lemmas.Bool.{cases_lt, cases_eq}
use Rattle.std.proofs.lemmas.Bool.Decides.{nat_tests}
use Rattle.std.proofs.lemmas.Grind.{common_steps}
use Rattle.cv_token.specs.declared.token.Token.{Token}
use Rattle.cv_queue.specs.declared.reader.Reader.{Reader}
use Rattle.cv_queue.specs.Ports.{OutView, IsOutPort, place, count, count_of, spread, first_needed, first_held, with_reader, token_at, token_for, needed_by, after_write, may_ack, acknowledges, acknowledged, after_ack, rewound, after_rewind, marked_sent, after_sent}
use Rattle.cv_endpoint.proofs.Lists.{slice_get_pushed, slice_get_dropped}
use Rattle.cv_queue.proofs.Positions.{place_written, count_dealt, count_passed}
use Rattle.cv_queue.proofs.Kept.{keeps_ack, keeps_rewind, keeps_mark, needed_from, held_is_written}

-- A change of readers' positions: the port is in order, has as many readers and written tokens as
-- before, and each token that a reader finds there it found there before.
pub record Keeps (o p : OutView) : Type 0 where
  pub port : IsOutPort p
  pub readers : length p.readers ≡ length o.readers
  pub written : p.write ≡ o.write
  pub tokens : (j n : ℕ) (t : Token) → token_for p j n ≡ Some t → token_for o j n ≡ Some t

pub keeps_all : (o : OutView) → IsOutPort o → Keeps o o
keeps_all o p =
    record { port = p; readers = refl; written = refl; tokens = λ j n t h. h }

pub keeps_both : (o p q : OutView) → Keeps o p → Keeps p q → Keeps o q
keeps_both o p q a b =
    record {
      port = b.port;
      readers = b.readers ∙ a.readers;
      written = b.written ∙ a.written;
      tokens = λ j n t h. a.tokens j n t (b.tokens j n t h);
    }

pub keeps_count : (o p : OutView) (j : ℕ) → Keeps o p → count_of p j ≡ count_of o j
keeps_count o p j a =
    ap (λ (s : ℕ). count s p.write j) a.readers ∙ ap (λ (w : ℕ). count (spread o) w j) a.written

-- 1. Acknowledgements, rewinds and sent tokens

-- as many readers, so each token stands at its place
token_for_written : (o : OutView) (k : ℕ) (r : Reader) (acked sent j n : ℕ) → token_for (with_reader o k r acked sent) j n ≡ token_for o j n
token_for_written o k r acked sent j n =
    ap (λ (s : ℕ). token_at o (place s j n)) (length-set o.readers k (record r { acked = acked; sent = sent }))

keeps_with : (o : OutView) (k : ℕ) (r : Reader) (sent : ℕ) → IsOutPort (with_reader o k r r.acked sent) → Keeps o (with_reader o k r r.acked sent)
keeps_with o k r sent p =
    record {
      port = p;
      readers = length-set o.readers k (record r { acked = r.acked; sent = sent });
      written = refl;
      tokens = λ j n t h. sym (token_for_written o k r r.acked sent j n) ∙ h;
    }

-- a held token, and where it stands
none_unless : {X : Type 0} (b : Bool) (o : Option X) (x : X) → (if b then None else o) ≡ Some x → (b ≡ false) × (o ≡ Some x)
none_unless true o x h = absurd (none_some x h)
none_unless false o x h = (refl, h)

pub token_at_some : (o : OutView) (m : ℕ) (t : Token) → token_at o m ≡ Some t → (first_held o ≤ m) × (slice_get o.held (m - first_held o) ≡ Some t)
token_at_some o m t h =
    let p = none_unless (nat_lt m (first_held o)) (slice_get o.held (m - first_held o)) t h in
    let q = p.0 in
    (grind (arith, nat_tests, q), p.1)

pub token_at_is : (o : OutView) (m : ℕ) (t : Token) → first_held o ≤ m → slice_get o.held (m - first_held o) ≡ Some t → token_at o m ≡ Some t
token_at_is o m t a h =
    let b : nat_lt m (first_held o) ≡ false = grind (arith, nat_tests, a) in
    ap (λ (c : Bool). if c then None else slice_get o.held (m - first_held o)) b ∙ h

-- a token that is held after the first d went was held before
token_at_released : (o : OutView) (d m : ℕ) (t : Token) → d ≤ length o.held → length o.held ≤ o.write → token_at (record o { held = drop d o.held }) m ≡ Some t → token_at o m ≡ Some t
token_at_released o d m t a b h =
    let l = length-drop d o.held in
    let p = token_at_some (record o { held = drop d o.held }) m t h in
    let n : ℕ = m - (o.write - length (drop d o.held)) in
    let e : d + n ≡ m - first_held o = omega (arith, l, p.0) in
    let g : slice_get o.held (d + n) ≡ Some t = sym (slice_get_dropped d o.held n) ∙ p.1 in
    token_at_is o m t (omega (arith, l, p.0)) (subst (λ (k : ℕ). slice_get o.held k ≡ Some t) e g)

keeps_acknowledged : (o : OutView) (k upto : ℕ) → IsOutPort o → (r : Option Reader) (b : Bool) → slice_get o.readers k ≡ r → may_ack o k upto r ≡ b → Keeps o (acknowledged o k upto r b)
keeps_acknowledged o k upto p None true g h = keeps_all o p
keeps_acknowledged o k upto p None false g h = keeps_all o p
keeps_acknowledged o k upto p (Some r) false g h = keeps_all o p
keeps_acknowledged o k upto p (Some r) true g h =
    let a : r.acked ≤ upto = grind (arith, nat_tests, common_steps, h) in
    let b : upto ≤ count_of o k = grind (arith, nat_tests, common_steps, h) in
    let i = p.in_order k r g in
    let s : max r.sent upto ≤ count_of o k = omega (arith, b, i.1) in
    let n = needed_from o k r upto (max r.sent upto) g a p in
    let w : OutView = with_reader o k r upto (max r.sent upto) in
    record {
      port = keeps_ack o k r upto (max r.sent upto) g a (omega arith) s p;
      readers = length-set o.readers k (record r { acked = upto; sent = max r.sent upto });
      written = refl;
      tokens =
          λ j n' t h'.
          sym (token_for_written o k r upto (max r.sent upto) j n') ∙ token_at_released w (first_needed w - first_held w) (place (spread w) j n') t (omega (arith, n.0, n.1, p.held_from)) (omega (arith, p.held_from)) h';
    }

pub keeps_after_ack : (o : OutView) (k upto : ℕ) → IsOutPort o → Keeps o (after_ack o k upto)
keeps_after_ack o k upto p =
    keeps_acknowledged o k upto p (slice_get o.readers k) (acknowledges o k upto) refl refl

keeps_rewound : (o : OutView) (k : ℕ) → IsOutPort o → (r : Option Reader) → slice_get o.readers k ≡ r → Keeps o (rewound o k r)
keeps_rewound o k p None g = keeps_all o p
keeps_rewound o k p (Some r) g = keeps_with o k r r.acked (keeps_rewind o k r g p)

pub keeps_after_rewind : (o : OutView) (k : ℕ) → IsOutPort o → Keeps o (after_rewind o k)
keeps_after_rewind o k p = keeps_rewound o k p (slice_get o.readers k) refl

pub keeps_after_sent : (o : OutView) (k : ℕ) (r : Reader) → IsOutPort o → slice_get o.readers k ≡ Some r → r.sent < count_of o k → Keeps o (after_sent o k)
keeps_after_sent o k r p g u =
    let a : Keeps o (marked_sent o k (Some r)) = keeps_with o k r (r.sent + 1) (keeps_mark o k r g u p) in
    subst (λ (x : Option Reader). Keeps o (marked_sent o k x)) (sym g) a

-- 2. Writes

needed_by_some : (rs : List Reader) (ts : List Token) → 0 < length rs → needed_by rs ts ≡ ts
needed_by_some [] ts h = absurd (omega arith)
needed_by_some (r ∷ rs) ts h = refl

-- the port with the token at its end, where it has readers
abbrev pub with_token : OutView → Token → OutView
with_token o t = record o { held = o.held ++ t ∷ []; write = o.write + 1 }

pub after_write_is : (o : OutView) (t : Token) → 0 < length o.readers → after_write o t ≡ with_token o t
after_write_is o t h =
    ap (λ (ts : List Token). record o { held = ts; write = o.write + 1 }) (needed_by_some o.readers (o.held ++ t ∷ []) h)

-- how many tokens the reader has after a write
pub count_after_write : (s w k : ℕ) → ((place s k (count s w k) ≡ w) × (count s (w + 1) k ≡ count s w k + 1)) ⊎ ((place s k (count s w k) ≡ w → ⊥) × (count s (w + 1) k ≡ count s w k))
count_after_write s w k =
    elim (cases_eq (place s k (count s w k)) w) [
      | inl e ↦ inl (e, count_dealt s w k e)
      | inr n ↦ inr (n, count_passed s w k n)
    ]

token_at_pushed : (o : OutView) (t : Token) (m : ℕ) (x : Token) → length o.held ≤ o.write → token_at (with_token o t) m ≡ Some x → (token_at o m ≡ Some x) ⊎ ((m ≡ o.write) × (x ≡ t))
token_at_pushed o t m x b h =
    let l = length-append o.held (t ∷ []) in
    let p = token_at_some (with_token o t) m x h in
    let f : first_held (with_token o t) ≡ first_held o = omega (arith, l, b) in
    let g : slice_get (o.held ++ t ∷ []) (m - first_held o) ≡ Some x = subst (λ (k : ℕ). slice_get (o.held ++ t ∷ []) (m - k) ≡ Some x) f p.1 in
    elim (slice_get_pushed o.held t (m - first_held o) x g) [
      | inl q ↦ inl (token_at_is o m x (omega (arith, f, p.0)) q)
      | inr q ↦ inr (omega (arith, q.0, f, p.0, b), q.1)
    ]

last_number : (s w j n : ℕ) → n < count s (w + 1) j → place s j n ≡ w → ((place s j (count s w j) ≡ w) × (count s (w + 1) j ≡ count s w j + 1)) ⊎ ((place s j (count s w j) ≡ w → ⊥) × (count s (w + 1) j ≡ count s w j)) → (n < count s w j) ⊎ (count s w j ≤ n) → n ≡ count s w j
last_number s w j n u e c (inl l) =
    absurd (omega (arith, place_written s w j n l))
last_number s w j n u e (inl c) (inr l) = omega (arith, c.1)
last_number s w j n u e (inr c) (inr l) = absurd (omega (arith, c.1))

-- a reader finds the tokens that it found before, and maybe the new one as its last
pub token_for_pushed : (o : OutView) (t : Token) (j n : ℕ) (x : Token) → IsOutPort o → IsOutPort (with_token o t) → token_for (with_token o t) j n ≡ Some x → (token_for o j n ≡ Some x) ⊎ ((n ≡ count_of o j) × (place (spread o) j n ≡ o.write) × (x ≡ t))
token_for_pushed o t j n x p q h =
    let u : n < count (spread o) (o.write + 1) j = held_is_written (with_token o t) j n x q h in
    elim (token_at_pushed o t (place (spread o) j n) x (omega (arith, p.held_from)) h) [
      | inl a ↦ inl a
      | inr a ↦
          inr (last_number (spread o) o.write j n u a.0 (count_after_write (spread o) o.write j) (cases_lt n (count_of o j)), a.0, a.1)
    ]
