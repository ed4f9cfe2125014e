-- The rows of the events that need no other node, and why each is refused.
use Rattle.std.proofs.Common.{◌≡◌, ℕ, ◌+◌, Bool, true, false, ◌&&◌, not, ◌==◌, nat_lt, if◌then◌else◌, Option, Some, None, refl, ap, sym, ◌∙◌, subst, inl, inr, ◌<◌, ◌≤◌, [], slice_set, arith}
use Rattle.std.proofs.lemmas.Bool.{eqb-true, eq-eqb}
use Rattle.std.proofs.lemmas.Bool.Decides.{eqb_tells, nat_tests}
use Rattle.std.specs.Prelude.{IsSomeAnd}
use Rattle.std.specs.FinMap as map
use Rattle.cv_token.specs.declared.identifiers.ActorId.{ActorId}
use Rattle.cv_protocol.specs.declared.event.Event.{Event}
use Rattle.cv_protocol.specs.declared.event.Event.TheVariants as event
use Rattle.cv_protocol.specs.declared.event.Sent.TheVariants as sent
use Rattle.cv_protocol.specs.declared.refusal.StepRefusal.{StepRefusal}
use Rattle.cv_protocol.specs.declared.refusal.StepRefusal.TheVariants as refusal
use Rattle.cv_protocol.specs.declared.state.Inlet.{Inlet}
use Rattle.cv_protocol.specs.Actors.{LiveState}
use Rattle.cv_protocol.specs.Poll.{limit, Answer, Fired, Held, Waiting, Fires, look, poll}
use Rattle.cv_protocol.specs.NodeState.{NodeState}
use Rattle.cv_protocol.specs.Rows.{Did, fire, inlet_at, peek, peek_at, peek_by, peek_inlet, uses}
use Rattle.cv_protocol.specs.NodeRow.{row, attempted, stamp_of, is_bounded, stamped, stamped_if, cause_of, first_cause, is_absent, is_moving, last_cause, spent_unless, whereabouts}
use Rattle.cv_actor.specs.Polled.{foreseen, peeked, read_more}
use Rattle.cv_actor.specs.declared.outlook.Outlook.{Outlook}
use Rattle.cv_actor.proofs.Sights.{poll_fires, poll_holds}
use Rattle.cv_state.specs.Answers.{is_fire, read_of}
use Rattle.cv_state.specs.Steps.{LeadsTo}

-- 1. The cause by what is found of the actor

abbrev peek_cause : NodeState → ActorId → ℕ → Option LiveState → Option StepRefusal
peek_cause s a port l =
    first_cause (is_absent (whereabouts l (map.get s.moves.frozen a))) (is_moving (whereabouts l (map.get s.moves.frozen a))) false (last_cause (s.stamp + 1) (event.Peek a port) (peek s a port l))

-- 2. Where a row leads, and where its stamp is spent

pub leads : (s : NodeState) (e : Event) (d : Did) (next : NodeState) → attempted s (stamp_of s e) e ≡ Some d → is_bounded (stamp_of s e) d ≡ true → next ≡ record (d.next) { stamp = stamp_of s e } → [] ≡ d.sends → LeadsTo (row s e) next sent.Nothing
leads s e d next does bounded is silent =
    let stepped : row s e ≡ Some (record d { next = record (d.next) { stamp = stamp_of s e } }) = ap (stamped (stamp_of s e)) does ∙ ap (stamped_if (stamp_of s e) d) bounded in
    subst (λ (r : Option Did). LeadsTo r next sent.Nothing) (sym stepped) (is, silent)

pub spent : (b : Bool) → b ≡ false → spent_unless b ≡ Some refusal.StampSpent
spent b e = ap spent_unless e

-- 3. Peek

told : (held port c count : ℕ) → (if held == port then Some c else None) ≡ Some count → Held held c ≡ Held port count
told held port c count e =
    elim (eqb_tells held port) [
      | inl h ↦
          let some : Some c ≡ Some count = ap (λ b. if b then Some c else None) (sym h.0) ∙ e in
          let same : c ≡ count = cc in
          ap (λ (n : ℕ). Held n c) h.1 ∙ ap (Held port) same
      | inr h ↦ let none : None ≡ Some count = ap (λ b. if b then Some c else None) (sym h.0) ∙ e in absurd (cc)
    ]

-- an answer that has that inport read
pub reading : (p : Answer) (port count : ℕ) → read_of port (foreseen p) ≡ Some count → p ≡ Held port count
reading (Fired action) port count e = absurd (cc)
reading (Held held c) port count e = told held port c count e
reading (Waiting lacks) port count e = absurd (cc)

fed_read : (s : NodeState) (a : ActorId) (l : LiveState) (port count : ℕ) (i : Option Inlet) (P : Inlet → Type 0) → inlet_at l port ≡ i → IsSomeAnd i P → peek_inlet s a l port count i ≡ Some (uses s a (peeked l port count))
fed_read s a l port count None P is fed = absurd fed
fed_read s a l port count (Some i) P is fed =
    ap (λ (x : Option Inlet). Some (uses s a (record l { actor = record (l.actor) { ins = slice_set l.actor.ins port (read_more count x) } }))) (sym is)

-- the row of a Peek
pub peeks : (s : NodeState) (a : ActorId) (port count : ℕ) (l : LiveState) → map.get s.live a ≡ Some l → poll l s.now ≡ Held port count → peek s a port (map.get s.live a) ≡ Some (uses s a (peeked l port count))
peeks s a port count l here polled =
    ap (peek s a port) here
    ∙ ap (peek_by s a l port) polled
    ∙ ap (peek_at s a l port count) (eq-eqb port port refl)
    ∙ fed_read s a l port count (inlet_at l port) _ refl (poll_holds l s.now port count polled)

-- it is refused where its stamp is spent, and else not
pub peek_decided : (s : NodeState) (a : ActorId) (port count : ℕ) (l : LiveState) → map.get s.live a ≡ Some l → poll l s.now ≡ Held port count → cause_of s (event.Peek a port) ≡ spent_unless (nat_lt (s.stamp + 1) limit)
peek_decided s a port count l here polled =
    ap (peek_cause s a port) here
    ∙ ap (last_cause (s.stamp + 1) (event.Peek a port)) (ap (peek s a port) (sym here) ∙ peeks s a port count l here polled)

pub peek_spent : (s : NodeState) (a : ActorId) (port count : ℕ) (l : LiveState) → map.get s.live a ≡ Some l → poll l s.now ≡ Held port count → nat_lt (s.stamp + 1) limit ≡ false → cause_of s (event.Peek a port) ≡ Some refusal.StampSpent
peek_spent s a port count l here polled late =
    peek_decided s a port count l here polled ∙ spent (nat_lt (s.stamp + 1) limit) late

-- 4. Fire

-- an answer that has that action fire
pub firing : (p : Answer) (action : ℕ) → is_fire action (foreseen p) ≡ true → p ≡ Fired action
firing (Fired first) action e = ap Fired (eqb-true first action e)
firing (Held port count) action e = absurd (cc)
firing (Waiting lacks) action e = absurd (cc)

-- 5. Tests

pub not_less : (m n : ℕ) → n ≤ m → nat_lt m n ≡ false
not_less m n h = grind (arith, nat_tests)

pub is_less : (m n : ℕ) → m < n → nat_lt m n ≡ true
is_less m n h = grind (arith, nat_tests)

pub either_false : (a b : Bool) → b ≡ false → a && b ≡ false
either_false true b e = e
either_false false b e = refl

pub first_false : (a b : Bool) → a ≡ false → a && b ≡ false
first_false true b e = absurd (cc)
first_false false b e = refl

pub both_true : (a b : Bool) → a ≡ true → b ≡ true → a && b ≡ true
both_true true b e f = f
both_true false b e f = absurd (cc)

pub late : (b : Bool) → not b ≡ true → b ≡ false
late true e = absurd (cc)
late false e = refl

pub timely : (b : Bool) → not b ≡ false → b ≡ true
timely true e = refl
timely false e = absurd (cc)

-- 6. What the code was told

pub fires_as_told : (l : LiveState) (now action : ℕ) (told : Outlook) → told ≡ foreseen (poll l now) → true ≡ is_fire action told → look l now action ≡ Fires
fires_as_told l now action told is fire =
    poll_fires l now action (firing (poll l now) action (ap (is_fire action) (sym is) ∙ sym fire))

pub reads_as_told : (l : LiveState) (now port count : ℕ) (told : Outlook) → told ≡ foreseen (poll l now) → Some count ≡ read_of port told → poll l now ≡ Held port count
reads_as_told l now port count told is read =
    reading (poll l now) port count (ap (read_of port) (sym is) ∙ sym read)

-- what was found twice under one name is one
pub one_found : {X : Type 0} (o : Option X) (x y : X) → Some x ≡ o → Some y ≡ o → x ≡ y
one_found o x y e f = let same : Some x ≡ Some y = e ∙ sym f in cc
