-- What holds of the two ends of a connection at every moment, and that each call keeps it.
use Rattle.std.proofs.Common.{◌≡◌, ℕ, suc, zero, ◌+◌, ◌^◌, ◌<◌, ◌≤◌, max, Bool, true, false, inl, inr, List, [], ◌∷◌, ◌++◌, length, map, drop, Option, Some, None, refl, sym, ap, ◌∙◌, subst, arith, length-append, length-drop}
use Rattle.std.specs.Prelude.{slice_get, nat_lt, nat_le, nat_eq, not, is_some, ◌&&◌, if◌then◌else◌}
use Rattle.std.proofs.lemmas.List.{drop-append-le, drop-drop}
use Rattle.std.proofs.lemmas.Option.{slice_get_within, none-some as none_some, same_Some}
use Rattle.std.proofs.lemmas.Bool.{cases_eq}
use Rattle.std.proofs.lemmas.Bool.Decides.{nat_tests}
use Rattle.std.proofs.lemmas.Grind.{common_steps}
use Rattle.cv_token.specs.declared.token.Token.{Token}
use Rattle.cv_queue.specs.declared.reader.Reader.{Reader}
use Rattle.cv_queue.specs.declared.reader.Subscription.{Subscription}
use Rattle.cv_queue.specs.declared.in_port.Offered.{Offered}
use Rattle.cv_queue.specs.declared.in_port.Offered.TheVariants as offered
use Rattle.cv_queue.specs.Ports.{OutView, InView, IsOutPort, IsInPort, place, count, count_of, spread, space, token_for, received, reader_from, new_out, with_reader, acknowledges, acknowledged, after_ack, rewound, after_rewind, marked_sent, after_sent, answer_to, with_offered, after_offer, after_peek, after_commit}
use Rattle.cv_queue.proofs.Lists.{slice_get_same, slice_get_some}
use Rattle.cv_queue.proofs.Positions.{count_within}
use Rattle.cv_queue.proofs.Kept.{keeps_write, is_new_out, held_is_written, unacknowledged_is_held}
use Rattle.cv_endpoint.specs.declared.ends.Answer.{Answer}
use Rattle.cv_endpoint.specs.declared.ends.Answer.TheVariants as answers
use Rattle.cv_endpoint.specs.Ends.{acked_of, acked, next_of, next_number, after_nack, answer_with, movable, to_move, moved_out, moved_in}
use Rattle.cv_endpoint.specs.Link.{World, Event, Writes, Sends, Rewinds, Token_comes, Answer_comes, Other_acks, Other_sends, Other_rewinds, Peeks, Commits, Cancels, Moves, dealt, can_write, writes, sends_token, sends, answer_comes, other, got_after, takes, token_comes, reads, got_by_move, moves, happens, run, start, IsPrefixOf, IsHeldUntilAcked}
use Rattle.cv_endpoint.proofs.Lists.{slice_get_other, slice_get_kept, slice_get_last, slice_get_pushed}
use Rattle.cv_endpoint.proofs.Effects.{Keeps, keeps_both, keeps_count, keeps_after_ack, keeps_after_rewind, keeps_after_sent, with_token, after_write_is, count_after_write, token_at_some, token_for_pushed}

-- the number that an answer tells
abbrev pub number : Answer → ℕ
number (answers.Ack n) = n
number (answers.Nack n) = n

pub record Agrees (k : ℕ) (w : World) : Type 0 where
  pub port : IsOutPort w.out
  pub inport : IsInPort w.inp
  pub there : k < length w.out.readers
  -- what was written for the reader are its tokens, and those that are held are the last of them
  pub counted : count_of w.out k ≡ length w.wrote
  pub kept : (n : ℕ) (t : Token) → token_for w.out k n ≡ Some t → slice_get w.wrote n ≡ Some t
  -- what came into the inport is what was taken and what it holds, and begins what was written
  pub arrived : received w.inp ≡ length w.got
  pub queued : w.inp.held ≡ drop w.inp.taken w.got
  pub ordered : (n : ℕ) (t : Token) → slice_get w.got n ≡ Some t → slice_get w.wrote n ≡ Some t
  pub confirmed : acked w.out k ≤ length w.got
  -- whatever was sent is true, then and later
  pub on_way : (i : ℕ) (f : ℕ × Token) → slice_get w.tokens i ≡ Some f → slice_get w.wrote f.0 ≡ Some f.1
  pub answered : (i : ℕ) (a : Answer) → slice_get w.told i ≡ Some a → number a ≤ length w.got

-- one more true token or answer
on_way_more : (ws : List Token) (fs : List (ℕ × Token)) (n : ℕ) (t : Token) → slice_get ws n ≡ Some t → ((i : ℕ) (f : ℕ × Token) → slice_get fs i ≡ Some f → slice_get ws f.0 ≡ Some f.1) → (i : ℕ) (f : ℕ × Token) → slice_get ((n, t) ∷ fs) i ≡ Some f → slice_get ws f.0 ≡ Some f.1
on_way_more ws fs n t h a zero f e =
    subst (λ (g : ℕ × Token). slice_get ws g.0 ≡ Some g.1) (same_Some (n, t) f e) h
on_way_more ws fs n t h a (suc i) f e = a i f e

answered_more : (more : List Answer) (x : Answer) (m : ℕ) → number x ≤ m → ((i : ℕ) (a : Answer) → slice_get more i ≡ Some a → number a ≤ m) → (i : ℕ) (a : Answer) → slice_get (x ∷ more) i ≡ Some a → number a ≤ m
answered_more more x m h q zero a e = subst (λ (y : Answer). number y ≤ m) (same_Some x a e) h
answered_more more x m h q (suc i) a e = q i a e

-- 1. What readers have acknowledged

acked_with : (o : OutView) (k : ℕ) (r : Reader) (upto sent : ℕ) → slice_get o.readers k ≡ Some r → acked (with_reader o k r upto sent) k ≡ upto
acked_with o k r upto sent g =
    ap acked_of (slice_get_same o.readers k (record r { acked = upto; sent = sent }) (slice_get_within o.readers k r g))

acked_beside : (o : OutView) (j : ℕ) (r : Reader) (upto sent k : ℕ) → (k ≡ j → ⊥) → acked (with_reader o j r upto sent) k ≡ acked o k
acked_beside o j r upto sent k h =
    ap acked_of (slice_get_other o.readers j (record r { acked = upto; sent = sent }) k h)

-- a reader is rewound, or a token is sent to it
acked_same : (o : OutView) (j : ℕ) (r : Reader) (sent k : ℕ) → slice_get o.readers j ≡ Some r → acked (with_reader o j r r.acked sent) k ≡ acked o k
acked_same o j r sent k g =
    elim (cases_eq k j) [
      | inl e ↦
          let a : acked (with_reader o j r r.acked sent) j ≡ acked o j = acked_with o j r r.acked sent g ∙ ap acked_of (sym g) in
          subst (λ (n : ℕ). acked (with_reader o j r r.acked sent) n ≡ acked o n) (sym e) a
      | inr n ↦ acked_beside o j r r.acked sent k n
    ]

acked_acknowledged : (o : OutView) (k upto : ℕ) (r : Option Reader) (b : Bool) → slice_get o.readers k ≡ r → acked (acknowledged o k upto r b) k ≤ max (acked o k) upto
acked_acknowledged o k upto None true g = omega arith
acked_acknowledged o k upto None false g = omega arith
acked_acknowledged o k upto (Some r) false g = omega arith
acked_acknowledged o k upto (Some r) true g =
    omega (arith, acked_with o k r upto (max r.sent upto) g)

pub acked_after_ack : (o : OutView) (k upto : ℕ) → acked (after_ack o k upto) k ≤ max (acked o k) upto
acked_after_ack o k upto =
    acked_acknowledged o k upto (slice_get o.readers k) (acknowledges o k upto) refl

pub acked_by_other : (o : OutView) (j upto k : ℕ) (r : Option Reader) (b : Bool) → (k ≡ j → ⊥) → acked (acknowledged o j upto r b) k ≡ acked o k
acked_by_other o j upto k None true h = refl
acked_by_other o j upto k None false h = refl
acked_by_other o j upto k (Some r) false h = refl
acked_by_other o j upto k (Some r) true h =
    acked_beside o j r upto (max r.sent upto) k h

pub acked_rewound : (o : OutView) (j k : ℕ) (r : Option Reader) → slice_get o.readers j ≡ r → acked (rewound o j r) k ≡ acked o k
acked_rewound o j k None g = refl
acked_rewound o j k (Some r) g = acked_same o j r r.acked k g

pub acked_marked : (o : OutView) (j k : ℕ) (r : Option Reader) → slice_get o.readers j ≡ r → acked (marked_sent o j r) k ≡ acked o k
acked_marked o j k None g = refl
acked_marked o j k (Some r) g = acked_same o j r (r.sent + 1) k g

-- what holds of both choices
either : (P : OutView → Type 0) (b : Bool) (o p : OutView) → P o → P p → P (if b then o else p)
either P true o p a b = a
either P false o p a b = b

-- 2. Calls at the producer's port

pub agrees_out : (k : ℕ) (w : World) (p : OutView) → Agrees k w → Keeps w.out p → acked p k ≤ length w.got → Agrees k (record w { out = p })
agrees_out k w p a c h =
    record {
      port = c.port;
      inport = a.inport;
      there = omega (arith, c.readers, a.there);
      counted = keeps_count w.out p k c ∙ a.counted;
      kept = λ n t e. a.kept n t (c.tokens k n t e);
      arrived = a.arrived;
      queued = a.queued;
      ordered = a.ordered;
      confirmed = h;
      on_way = a.on_way;
      answered = a.answered;
    }

pub agrees_ack : (k : ℕ) (w : World) (upto : ℕ) → Agrees k w → upto ≤ length w.got → Agrees k (record w { out = after_ack w.out k upto })
agrees_ack k w upto a h =
    agrees_out k w (after_ack w.out k upto) a (keeps_after_ack w.out k upto a.port) (omega (arith, acked_after_ack w.out k upto, a.confirmed))

pub agrees_nack : (k : ℕ) (w : World) (upto : ℕ) → Agrees k w → upto ≤ length w.got → Agrees k (record w { out = after_nack w.out k upto })
agrees_nack k w upto a h =
    let o : OutView = after_ack w.out k upto in
    let c = keeps_after_ack w.out k upto a.port in
    let d = keeps_both w.out o (after_rewind o k) c (keeps_after_rewind o k c.port) in
    let e = acked_rewound o k k (slice_get o.readers k) refl in
    let f = acked_after_ack w.out k upto in
    either (λ (p : OutView). Agrees k (record w { out = p })) (nat_eq upto (acked o k)) (after_rewind o k) o (agrees_out k w (after_rewind o k) a d (omega (arith, e, f, a.confirmed))) (agrees_ack k w upto a h)

pub agrees_answer : (k : ℕ) (w : World) → Agrees k w → (r : Option Answer) → ((x : Answer) → r ≡ Some x → number x ≤ length w.got) → Agrees k (answer_comes k w r)
agrees_answer k w a None h = a
agrees_answer k w a (Some (answers.Ack n)) h = agrees_ack k w n a (h (answers.Ack n) refl)
agrees_answer k w a (Some (answers.Nack n)) h = agrees_nack k w n a (h (answers.Nack n) refl)

-- a reader to whom a token can be sent
unsent_of : (o : OutView) (k window : ℕ) (r : Option Reader) (n : ℕ) → next_of o k window r ≡ Some n → (x : Reader) × (r ≡ Some x) × (x.sent < count_of o k)
unsent_of o k window None n h = absurd (none_some n h)
unsent_of o k window (Some r) n h =
    (r, refl, grind (arith, nat_tests, common_steps, h))

pub agrees_sent : (k : ℕ) (w : World) (j window n : ℕ) → Agrees k w → next_number w.out j window ≡ Some n → Agrees k (record w { out = after_sent w.out j })
agrees_sent k w j window n a h =
    let u = unsent_of w.out j window (slice_get w.out.readers j) n h in
    let e = acked_marked w.out j k (slice_get w.out.readers j) refl in
    agrees_out k w (after_sent w.out j) a (keeps_after_sent w.out j u.0 a.port u.1 u.2) (omega (arith, e, a.confirmed))

-- the token with its number is on its way
pub agrees_on_way : (k : ℕ) (w : World) (n : ℕ) (t : Token) → Agrees k w → slice_get w.wrote n ≡ Some t → Agrees k (record w { tokens = (n, t) ∷ w.tokens })
agrees_on_way k w n t a h =
    record {
      port = a.port;
      inport = a.inport;
      there = a.there;
      counted = a.counted;
      kept = a.kept;
      arrived = a.arrived;
      queued = a.queued;
      ordered = a.ordered;
      confirmed = a.confirmed;
      on_way = on_way_more w.wrote w.tokens n t h a.on_way;
      answered = a.answered;
    }

agrees_token_sent : (k : ℕ) (w : World) (window n : ℕ) → Agrees k w → next_number w.out k window ≡ Some n → (t : Option Token) → token_for w.out k n ≡ t → Agrees k (sends_token k w n t)
agrees_token_sent k w window n a h None g = a
agrees_token_sent k w window n a h (Some t) g =
    agrees_on_way k (record w { out = after_sent w.out k }) n t (agrees_sent k w k window n a h) (a.kept n t g)

pub agrees_sends : (k : ℕ) (w : World) (window : ℕ) → Agrees k w → (n : Option ℕ) → next_number w.out k window ≡ n → Agrees k (sends k w n)
agrees_sends k w window a None h = a
agrees_sends k w window a (Some n) h =
    agrees_token_sent k w window n a h (token_for w.out k n) refl

agrees_other_sends : (k : ℕ) (w : World) (j window : ℕ) → Agrees k w → (n : Option ℕ) → next_number w.out j window ≡ n → (b : Bool) → Agrees k (other w (after_sent w.out j) (b && is_some n))
agrees_other_sends k w j window a None h true = a
agrees_other_sends k w j window a None h false = a
agrees_other_sends k w j window a (Some n) h false = a
agrees_other_sends k w j window a (Some n) h true = agrees_sent k w j window n a h

agrees_other_acks : (k : ℕ) (w : World) (j upto : ℕ) → Agrees k w → (b : Bool) → not (nat_eq j k) ≡ b → Agrees k (other w (after_ack w.out j upto) b)
agrees_other_acks k w j upto a false h = a
agrees_other_acks k w j upto a true h =
    let n : k ≡ j → ⊥ = λ (e : k ≡ j). grind (arith, nat_tests, common_steps, h, e) in
    let e = acked_by_other w.out j upto k (slice_get w.out.readers j) (acknowledges w.out j upto) n in
    agrees_out k w (after_ack w.out j upto) a (keeps_after_ack w.out j upto a.port) (omega (arith, e, a.confirmed))

pub agrees_rewind : (k : ℕ) (w : World) (j : ℕ) → Agrees k w → Agrees k (record w { out = after_rewind w.out j })
agrees_rewind k w j a =
    let e = acked_rewound w.out j k (slice_get w.out.readers j) refl in
    agrees_out k w (after_rewind w.out j) a (keeps_after_rewind w.out j a.port) (omega (arith, e, a.confirmed))

agrees_other_rewinds : (k : ℕ) (w : World) (j : ℕ) → Agrees k w → (b : Bool) → Agrees k (other w (after_rewind w.out j) b)
agrees_other_rewinds k w j a false = a
agrees_other_rewinds k w j a true = agrees_rewind k w j a

-- 3. Writes

-- the token is for this reader, or for another
agrees_written : (k : ℕ) (w : World) (t : Token) → Agrees k w → IsOutPort (with_token w.out t) → place (spread w.out) k (count_of w.out k) ≡ w.out.write → count (spread w.out) (w.out.write + 1) k ≡ count_of w.out k + 1 → Agrees k (record w { out = with_token w.out t; wrote = w.wrote ++ t ∷ [] })
agrees_written k w t a p e c =
    record {
      port = p;
      inport = a.inport;
      there = a.there;
      counted = omega (arith, c, a.counted, length-append w.wrote (t ∷ []));
      kept =
          λ n x h.
          elim (token_for_pushed w.out t k n x a.port p h) [
            | inl g ↦ slice_get_kept w.wrote t n x (a.kept n x g)
            | inr g ↦ slice_get_last w.wrote t n (g.0 ∙ a.counted) ∙ ap Some (sym g.2)
          ];
      arrived = a.arrived;
      queued = a.queued;
      ordered = λ n x h. slice_get_kept w.wrote t n x (a.ordered n x h);
      confirmed = a.confirmed;
      on_way = λ i f h. slice_get_kept w.wrote t f.0 f.1 (a.on_way i f h);
      answered = a.answered;
    }

agrees_passed : (k : ℕ) (w : World) (t : Token) → Agrees k w → IsOutPort (with_token w.out t) → (place (spread w.out) k (count_of w.out k) ≡ w.out.write → ⊥) → count (spread w.out) (w.out.write + 1) k ≡ count_of w.out k → Agrees k (record w { out = with_token w.out t })
agrees_passed k w t a p e c =
    record {
      port = p;
      inport = a.inport;
      there = a.there;
      counted = c ∙ a.counted;
      kept =
          λ n x h.
          elim (token_for_pushed w.out t k n x a.port p h) [
            | inl g ↦ a.kept n x g
            | inr g ↦
                absurd (e (ap (λ (m : ℕ). place (spread w.out) k m) (sym g.0) ∙ g.1))
          ];
      arrived = a.arrived;
      queued = a.queued;
      ordered = a.ordered;
      confirmed = a.confirmed;
      on_way = a.on_way;
      answered = a.answered;
    }

pub agrees_writes : (k : ℕ) (w : World) (t : Token) → Agrees k w → (b : Bool) → can_write w.out ≡ b → Agrees k (writes k w t b)
agrees_writes k w t a false h = a
agrees_writes k w t a true h =
    let o : OutView = w.out in
    let some : 0 < length o.readers = omega (arith, a.there) in
    let room : 1 ≤ space o = grind (arith, nat_tests, common_steps, h) in
    let small : o.write < 2 ^ 62 = grind (arith, nat_tests, common_steps, h) in
    let p = keeps_write o t some room small a.port in
    let b : Bool = nat_eq (place (spread o) k (count_of o k)) o.write in
    let x : Agrees k (record w { out = with_token o t; wrote = dealt o k t w.wrote }) = elim (count_after_write (spread o) o.write k) [
      | inl c ↦
          let e : true ≡ b = grind (arith, nat_tests, c.0) in
          subst (λ (d : Bool). Agrees k (record w { out = with_token o t; wrote = if d then w.wrote ++ t ∷ [] else w.wrote })) e (agrees_written k w t a p c.0 c.1)
      | inr c ↦
          let e : false ≡ b = grind (arith, nat_tests, c.0) in
          subst (λ (d : Bool). Agrees k (record w { out = with_token o t; wrote = if d then w.wrote ++ t ∷ [] else w.wrote })) e (agrees_passed k w t a p c.0 c.1)
    ] in
    subst (λ (q : OutView). Agrees k (record w { out = q; wrote = dealt o k t w.wrote })) (sym (after_write_is o t some)) x

-- 4. Calls at the consumer's port

-- a port without its tentative reads, or with more of them
pub agrees_read : (k : ℕ) (w : World) (tentative : ℕ) → Agrees k w → tentative ≤ length w.inp.held → Agrees k (record w { inp = record (w.inp) { tentative = tentative } })
agrees_read k w tentative a h =
    record {
      port = a.port;
      inport = record { some_room = a.inport.some_room; within_room = a.inport.within_room; read_are_held = h; bounded = a.inport.bounded };
      there = a.there;
      counted = a.counted;
      kept = a.kept;
      arrived = a.arrived;
      queued = a.queued;
      ordered = a.ordered;
      confirmed = a.confirmed;
      on_way = a.on_way;
      answered = a.answered;
    }

pub agrees_peeks : (k : ℕ) (w : World) (n : ℕ) → Agrees k w → (b : Bool) → nat_le n (length w.inp.held) ≡ b → Agrees k (reads w (after_peek w.inp n) b)
agrees_peeks k w n a false h = a
agrees_peeks k w n a true h =
    let l : n ≤ length w.inp.held = grind (arith, nat_tests, h) in
    agrees_read k w (max w.inp.tentative n) a (omega (arith, l, a.inport.read_are_held))

pub agrees_commits : (k : ℕ) (w : World) (n : ℕ) → Agrees k w → (b : Bool) → nat_le n w.inp.tentative ≡ b → Agrees k (reads w (after_commit w.inp n) b)
agrees_commits k w n a false h = a
agrees_commits k w n a true h =
    let l : n ≤ w.inp.tentative = grind (arith, nat_tests, h) in
    let d = length-drop n w.inp.held in
    let i = a.inport in
    record {
      port = a.port;
      inport =
          record {
            some_room = i.some_room;
            within_room = omega (arith, d, i.within_room);
            read_are_held = omega arith;
            bounded = omega (arith, d, l, i.read_are_held, i.bounded);
          };
      there = a.there;
      counted = a.counted;
      kept = a.kept;
      arrived = omega (arith, d, l, i.read_are_held, a.arrived);
      queued =
          ap (λ (ts : List Token). drop n ts) a.queued ∙ drop-drop n w.inp.taken w.got;
      ordered = a.ordered;
      confirmed = a.confirmed;
      on_way = a.on_way;
      answered = a.answered;
    }

-- the next token comes, and there is room
pub agrees_taken : (k : ℕ) (w : World) (t : Token) → Agrees k w → slice_get w.wrote (length w.got) ≡ Some t → (length w.inp.held ≡ w.inp.cap → ⊥) → received w.inp < 2 ^ 62 → Agrees k (record w { inp = record (w.inp) { held = w.inp.held ++ t ∷ [] }; got = w.got ++ t ∷ [] })
agrees_taken k w t a h room small =
    let i = a.inport in
    let d = length-append w.inp.held (t ∷ []) in
    let g = length-append w.got (t ∷ []) in
    record {
      port = a.port;
      inport =
          record {
            some_room = i.some_room;
            within_room = omega (arith, d, room, i.within_room);
            read_are_held = omega (arith, d, i.read_are_held);
            bounded = omega (arith, d, small);
          };
      there = a.there;
      counted = a.counted;
      kept = a.kept;
      arrived = omega (arith, d, g, a.arrived);
      queued =
          ap (λ (ts : List Token). ts ++ t ∷ []) a.queued ∙ sym (drop-append-le w.inp.taken w.got (t ∷ []) (omega (arith, a.arrived)));
      ordered =
          λ n x e.
          elim (slice_get_pushed w.got t n x e) [
            | inl q ↦ a.ordered n x q
            | inr q ↦ ap (λ (m : ℕ). slice_get w.wrote m) q.0 ∙ (h ∙ ap Some (sym q.1))
          ];
      confirmed = omega (arith, g, a.confirmed);
      on_way = a.on_way;
      answered = λ n x e. omega (arith, g, a.answered n x e);
    }

pub agrees_told : (k : ℕ) (w : World) (x : Answer) → Agrees k w → number x ≤ length w.got → Agrees k (record w { told = x ∷ w.told })
agrees_told k w x a h =
    record {
      port = a.port;
      inport = a.inport;
      there = a.there;
      counted = a.counted;
      kept = a.kept;
      arrived = a.arrived;
      queued = a.queued;
      ordered = a.ordered;
      confirmed = a.confirmed;
      on_way = a.on_way;
      answered = answered_more w.told x (length w.got) h a.answered;
    }

-- which token is taken
taken_means : (i : InView) (n : ℕ) → answer_to i n ≡ offered.Taken → (n ≡ received i) × (length i.held ≡ i.cap → ⊥)
taken_means i n h =
    (grind (arith, nat_tests, common_steps, h), λ (e : length i.held ≡ i.cap). grind (arith, nat_tests, common_steps, h, e))

taken_at : (i : InView) (n : ℕ) → n ≡ received i → (length i.held ≡ i.cap → ⊥) → answer_to i n ≡ offered.Taken
taken_at i n e h = grind (arith, nat_tests, common_steps, e, h)

agrees_offered : (k : ℕ) (w : World) (n : ℕ) (t : Token) → Agrees k w → slice_get w.wrote n ≡ Some t → received w.inp < 2 ^ 62 → (o : Offered) → answer_to w.inp n ≡ o → Agrees k (record w { inp = with_offered w.inp t o; got = got_after w.got t o; told = answer_with (received (with_offered w.inp t o)) o ∷ w.told })
agrees_offered k w n t a h small offered.Old e =
    agrees_told k w (answers.Ack (received w.inp)) a (omega (arith, a.arrived))
agrees_offered k w n t a h small offered.Gap e =
    agrees_told k w (answers.Nack (received w.inp)) a (omega (arith, a.arrived))
agrees_offered k w n t a h small offered.Full e =
    agrees_told k w (answers.Nack (received w.inp)) a (omega (arith, a.arrived))
agrees_offered k w n t a h small offered.Taken e =
    let m = taken_means w.inp n e in
    let l : n ≡ length w.got = m.0 ∙ a.arrived in
    let g : slice_get w.wrote (length w.got) ≡ Some t = subst (λ (j : ℕ). slice_get w.wrote j ≡ Some t) l h in
    let v : World = record w { inp = record (w.inp) { held = w.inp.held ++ t ∷ [] }; got = w.got ++ t ∷ [] } in
    let b : Agrees k v = agrees_taken k w t a g m.1 small in
    agrees_told k v (answers.Ack (received v.inp)) b (omega (arith, b.arrived))

pub agrees_takes : (k : ℕ) (w : World) (n : ℕ) (t : Token) → Agrees k w → slice_get w.wrote n ≡ Some t → (b : Bool) → nat_lt (received w.inp) (2 ^ 62) ≡ b → Agrees k (takes w n t b)
agrees_takes k w n t a h false e = a
agrees_takes k w n t a h true e =
    agrees_offered k w n t a h (grind (arith, nat_tests, e)) (answer_to w.inp n) refl

pub agrees_token : (k : ℕ) (w : World) → Agrees k w → (f : Option (ℕ × Token)) → ((x : ℕ × Token) → f ≡ Some x → slice_get w.wrote x.0 ≡ Some x.1) → Agrees k (token_comes w f)
agrees_token k w a None h = a
agrees_token k w a (Some f) h =
    agrees_takes k w f.0 f.1 a (h f refl) (nat_lt (received w.inp) (2 ^ 62)) refl

-- 5. Moves in one place

movable_means : (i : InView) (x : Option Token) (t : Token) → movable i x ≡ Some t → (x ≡ Some t) × (length i.held ≡ i.cap → ⊥)
movable_means i None t h = absurd (none_some t h)
movable_means i (Some s) t h =
    (grind (arith, nat_tests, common_steps, h), λ (e : length i.held ≡ i.cap). grind (arith, nat_tests, common_steps, h, e))

-- the token is there already, or it comes now; then it is acknowledged
agrees_moved_in : (k : ℕ) (w : World) (t : Token) → Agrees k w → token_for w.out k (acked w.out k) ≡ Some t → (length w.inp.held ≡ w.inp.cap → ⊥) → acked w.out k ≤ received w.inp → (b : Bool) → nat_lt (acked w.out k) (received w.inp) ≡ b → Agrees k (record w { inp = if b then w.inp else after_offer w.inp (acked w.out k) t; got = if b then w.got else w.got ++ t ∷ [] }) × (acked w.out k + 1 ≤ length (if b then w.got else w.got ++ t ∷ []))
agrees_moved_in k w t a g room le true e =
    let l : acked w.out k < received w.inp = grind (arith, nat_tests, e) in
    (a, omega (arith, l, a.arrived))
agrees_moved_in k w t a g room le false e =
    let l : acked w.out k ≡ received w.inp = grind (arith, nat_tests, e, le) in
    let m : acked w.out k ≡ length w.got = l ∙ a.arrived in
    let u = held_is_written w.out k (acked w.out k) t a.port g in
    let small : received w.inp < 2 ^ 62 = omega (arith, l, u, count_within (spread w.out) w.out.write k, a.port.bounded) in
    let h : slice_get w.wrote (length w.got) ≡ Some t = subst (λ (j : ℕ). slice_get w.wrote j ≡ Some t) m (a.kept (acked w.out k) t g) in
    let v = agrees_taken k w t a h room small in
    let o : offered.Taken ≡ answer_to w.inp (acked w.out k) = sym (taken_at w.inp (acked w.out k) l room) in
    (subst (λ (x : Offered). Agrees k (record w { inp = with_offered w.inp t x; got = w.got ++ t ∷ [] })) o v, omega (arith, m, length-append w.got (t ∷ [])))

agrees_moved : (k : ℕ) (w : World) → Agrees k w → acked w.out k ≤ received w.inp → (x : Option Token) → to_move w.out k w.inp ≡ x → Agrees k (record w { out = moved_out w.out k x; inp = moved_in w.inp (acked w.out k) x; got = got_by_move w.inp (acked w.out k) x w.got })
agrees_moved k w a le None h = a
agrees_moved k w a le (Some t) h =
    let m = movable_means w.inp (token_for w.out k (acked w.out k)) t h in
    let b : Bool = nat_lt (acked w.out k) (received w.inp) in
    let v = agrees_moved_in k w t a m.0 m.1 le b refl in
    agrees_ack k (record w { inp = if b then w.inp else after_offer w.inp (acked w.out k) t; got = if b then w.got else w.got ++ t ∷ [] }) (acked w.out k + 1) v.0 v.1

pub agrees_moves : (k : ℕ) (w : World) → Agrees k w → (b : Bool) → nat_le (acked w.out k) (received w.inp) ≡ b → Agrees k (moves k w b)
agrees_moves k w a false h = a
agrees_moves k w a true h =
    agrees_moved k w a (grind (arith, nat_tests, h)) (to_move w.out k w.inp) refl

-- 6. Runs

pub agrees_happens : (k : ℕ) (w : World) (e : Event) → Agrees k w → Agrees k (happens k w e)
agrees_happens k w (Writes t) a = agrees_writes k w t a (can_write w.out) refl
agrees_happens k w (Sends window) a = agrees_sends k w window a (next_number w.out k window) refl
agrees_happens k w Rewinds a = agrees_rewind k w k a
agrees_happens k w (Token_comes which) a =
    agrees_token k w a (slice_get w.tokens which) (λ x h. a.on_way which x h)
agrees_happens k w (Answer_comes which) a =
    agrees_answer k w a (slice_get w.told which) (λ x h. a.answered which x h)
agrees_happens k w (Other_acks j upto) a = agrees_other_acks k w j upto a (not (nat_eq j k)) refl
agrees_happens k w (Other_sends j window) a =
    agrees_other_sends k w j window a (next_number w.out j window) refl (not (nat_eq j k))
agrees_happens k w (Other_rewinds j) a = agrees_other_rewinds k w j a (not (nat_eq j k))
agrees_happens k w (Peeks n) a = agrees_peeks k w n a (nat_le n (length w.inp.held)) refl
agrees_happens k w (Commits n) a = agrees_commits k w n a (nat_le n w.inp.tentative) refl
agrees_happens k w Cancels a = agrees_read k w 0 a (omega arith)
agrees_happens k w Moves a = agrees_moves k w a (nat_le (acked w.out k) (received w.inp)) refl

pub agrees_run : (k : ℕ) (es : List Event) (w : World) → Agrees k w → Agrees k (run k es w)
agrees_run k [] w a = a
agrees_run k (e ∷ es) w a = agrees_run k es (happens k w e) (agrees_happens k w e a)

acked_anew : (readers : List Subscription) (k : ℕ) → acked_of (slice_get (map (reader_from 0) readers) k) ≡ 0
acked_anew [] k = refl
acked_anew (s ∷ ss) zero = refl
acked_anew (s ∷ ss) (suc k) = acked_anew ss k

length_anew : (readers : List Subscription) → length (map (reader_from 0) readers) ≡ length readers
length_anew [] = refl
length_anew (s ∷ ss) = ap suc (length_anew ss)

pub agrees_start : (out_cap : ℕ) (readers : List Subscription) (in_cap k : ℕ) → 1 ≤ out_cap → 1 ≤ in_cap → k < length readers → Agrees k (start out_cap readers in_cap)
agrees_start out_cap readers in_cap k a b h =
    let o : OutView = new_out out_cap readers in
    record {
      port = is_new_out out_cap readers a;
      inport = record { some_room = b; within_room = omega arith; read_are_held = omega arith; bounded = omega arith };
      there = omega (arith, length_anew readers, h);
      counted = omega (arith, count_within (spread o) 0 k);
      kept = λ n t g. absurd (none_some t (token_at_some o (place (spread o) k n) t g).1);
      arrived = refl;
      queued = refl;
      ordered = λ n t g. absurd (none_some t g);
      confirmed = omega (arith, acked_anew readers k);
      on_way = λ i f g. absurd (none_some f g);
      answered = λ i x g. absurd (none_some x g);
    }

pub agrees_always : (out_cap : ℕ) (readers : List Subscription) (in_cap k : ℕ) (events : List Event) → 1 ≤ out_cap → 1 ≤ in_cap → k < length readers → Agrees k (run k events (start out_cap readers in_cap))
agrees_always out_cap readers in_cap k events a b h =
    agrees_run k events (start out_cap readers in_cap) (agrees_start out_cap readers in_cap k a b h)

-- a list each of whose elements stands in another at its place begins the other
pub prefix_by_places : (xs ys : List Token) → ((n : ℕ) (t : Token) → slice_get xs n ≡ Some t → slice_get ys n ≡ Some t) → IsPrefixOf xs ys
prefix_by_places [] ys h = (ys, refl)
prefix_by_places (x ∷ xs) [] h = absurd (none_some x (h zero x refl))
prefix_by_places (x ∷ xs) (y ∷ ys) h =
    let e : y ≡ x = same_Some y x (h zero x refl) in
    let r = prefix_by_places xs ys (λ n t g. h (suc n) t g) in
    (r.0, ap (λ (ts : List Token). x ∷ ts) r.1 ∙ ap (λ (z : Token). z ∷ ys) (sym e))

-- what the reader has not acknowledged is held
pub held_until_acked : (k : ℕ) (w : World) → Agrees k w → IsHeldUntilAcked k w
held_until_acked k w a n l h =
    let r = slice_get_some w.out.readers k a.there in
    let c : acked w.out k ≡ r.0.acked = ap acked_of r.1 in
    let t = unacknowledged_is_held w.out k n r.0 a.port r.1 (omega (arith, c, l)) (omega (arith, a.counted, h)) in
    t.1 ∙ sym (a.kept n t.0 t.1)
