-- What the answer of a poll says of the action that it names.
use Rattle.std.proofs.Common.{◌≡◌, ℕ, zero, suc, ◌+◌, ◌≤◌, Bool, true, false, ◌&&◌, List, [], ◌∷◌, length, Option, Some, None, refl, sym, subst, ◌∙◌, arith, if◌then◌else◌, nat_le}
use Rattle.std.specs.Prelude.{slice_get, nat_lt}
use Rattle.std.proofs.lemmas.Bool.Decides.{nat_tests}
use Rattle.std.proofs.lemmas.Option.{same_Some, none-some as none_some}
use Rattle.cv_token.specs.declared.token.Token.{Token}
use Rattle.cv_behave.specs.KindRow.{Row, needed, given, is_timed, guard_holds, has_counts, head_at, action_count}
use Rattle.cv_kinds.specs.KindRow.{row_of}
use Rattle.cv_queue.specs.Ports.{OutView, space}
use Rattle.cv_protocol.specs.declared.poll.Need.{Need}
use Rattle.cv_protocol.specs.declared.poll.Need.TheVariants as need
use Rattle.cv_protocol.specs.declared.state.Inlet.{Inlet}
use Rattle.cv_protocol.specs.Actors.{Actor, LiveState}
use Rattle.cv_protocol.specs.Poll.{row_at, held_in, inputs, first_short, first_unread, first_crowded, Look, Lacks, Reads, Fires, look, look_at_tokens, look_at_reads, look_at_guard, look_at_space, look_at_time, is_guarded, Answer, Fired, Held, Waiting, with_lack, answer_from, poll_from, poll}

-- 1. Tests on ports

short_here : (needs : ℕ → ℕ) (port : ℕ) (i : Option Inlet) (later : Option Need) (b : Bool) → nat_lt (length (held_in i)) (needs port) ≡ b → (if b then Some (need.Token port (needs port)) else later) ≡ None → (needs port ≤ length (held_in i)) × (later ≡ None)
short_here needs port i later true is e = absurd (cc)
short_here needs port i later false is e = (grind (arith, nat_tests, is), e)

-- no inport is short of tokens
pub none_short : (needs : ℕ → ℕ) (port : ℕ) (ins : List (Option Inlet)) → first_short needs port ins ≡ None → (p : ℕ) (i : Option Inlet) → slice_get ins p ≡ Some i → needs (port + p) ≤ length (held_in i)
none_short needs port [] e p i g = absurd (none_some i g)
none_short needs port (x ∷ ins) e zero i g =
    let s = short_here needs port x (first_short needs (suc port) ins) (nat_lt (length (held_in x)) (needs port)) refl e in
    let k : port ≡ port + 0 = omega arith in
    subst (λ (q : ℕ). needs q ≤ length (held_in i)) k (subst (λ (y : Option Inlet). needs port ≤ length (held_in y)) (same_Some x i g) s.0)
none_short needs port (x ∷ ins) e (suc p) i g =
    let s = short_here needs port x (first_short needs (suc port) ins) (nat_lt (length (held_in x)) (needs port)) refl e in
    let k : suc port + p ≡ port + suc p = omega arith in
    subst (λ (q : ℕ). needs q ≤ length (held_in i)) k (none_short needs (suc port) ins s.1 p i g)

pub counts_there : (row : Row) (args : List Token) (action port : ℕ) (ins : List (Option Inlet)) → first_short (needed row args action) port ins ≡ None → has_counts row args action port (inputs ins) ≡ true
counts_there row args action port [] e = refl
counts_there row args action port (x ∷ ins) e =
    let s = short_here (needed row args action) port x (first_short (needed row args action) (suc port) ins) (nat_lt (length (held_in x)) (needed row args action port)) refl e in
    let enough : needed row args action port ≤ length (held_in x) = s.0 in
    let t : nat_le (needed row args action port) (length (held_in x)) ≡ true = grind (arith, nat_tests, enough) in
    λ z. t z && counts_there row args action (suc port) ins s.1 z

crowded_here : (gives : ℕ → ℕ) (port : ℕ) (o : OutView) (later : Option ℕ) (b : Bool) → nat_lt (space o) (gives port) ≡ b → (if b then Some port else later) ≡ None → (gives port ≤ space o) × (later ≡ None)
crowded_here gives port o later true is e = absurd (cc)
crowded_here gives port o later false is e = (grind (arith, nat_tests, is), e)

-- each outport has a place for what it is given
pub none_crowded : (gives : ℕ → ℕ) (port : ℕ) (outs : List OutView) → first_crowded gives port outs ≡ None → (q : ℕ) (o : OutView) → slice_get outs q ≡ Some o → gives (port + q) ≤ space o
none_crowded gives port [] e q o g = absurd (none_some o g)
none_crowded gives port (x ∷ outs) e zero o g =
    let s = crowded_here gives port x (first_crowded gives (suc port) outs) (nat_lt (space x) (gives port)) refl e in
    let k : port ≡ port + 0 = omega arith in
    subst (λ (q : ℕ). gives q ≤ space o) k (subst (λ (y : OutView). gives port ≤ space y) (same_Some x o g) s.0)
none_crowded gives port (x ∷ outs) e (suc q) o g =
    let s = crowded_here gives port x (first_crowded gives (suc port) outs) (nat_lt (space x) (gives port)) refl e in
    let k : suc port + q ≡ port + suc q = omega arith in
    subst (λ (r : ℕ). gives r ≤ space o) k (none_crowded gives (suc port) outs s.1 q o g)

-- 2. A look

-- the actor has the needed tokens, the guard holds, and there is room
pub record CanFire (x : Actor) (action : ℕ) : Type 0 where
  pub tokens : first_short (needed (row_of x.spec.kind) x.spec.args action) 0 x.ins ≡ None
  pub guarded : guard_holds (row_of x.spec.kind) x.spec.args x.slots action (head_at (row_of x.spec.kind).guard_port (inputs x.ins)) ≡ true
  pub room : first_crowded (given (row_of x.spec.kind) action) 0 x.outs ≡ None

after_space : (l : LiveState) (now action : ℕ) (x : Option ℕ) → look_at_space l now action x ≡ Fires → x ≡ None
after_space l now action None e = refl
after_space l now action (Some port) e = absurd (cc)

after_guard : (l : LiveState) (now action : ℕ) (b : Bool) → look_at_guard l now action b ≡ Fires → (b ≡ true) × (first_crowded (given (row_at l) action) 0 l.actor.outs ≡ None)
after_guard l now action false e = absurd (cc)
after_guard l now action true e = (refl, after_space l now action (first_crowded (given (row_at l) action) 0 l.actor.outs) e)

after_reads : (l : LiveState) (now action : ℕ) (x : Option ℕ) → look_at_reads l now action x ≡ Fires → (is_guarded l action ≡ true) × (first_crowded (given (row_at l) action) 0 l.actor.outs ≡ None)
after_reads l now action None e = after_guard l now action (is_guarded l action) e
after_reads l now action (Some port) e = absurd (cc)

after_tokens : (l : LiveState) (now action : ℕ) (x : Option Need) → first_short (needed (row_at l) l.actor.spec.args action) 0 l.actor.ins ≡ x → look_at_tokens l now action x ≡ Fires → CanFire l.actor action
after_tokens l now action (Some lack) is e = absurd (cc)
after_tokens l now action None is e =
    let g = after_reads l now action (first_unread (needed (row_at l) l.actor.spec.args action) 0 l.actor.ins) e in
    record { tokens = is; guarded = g.0; room = g.1 }

look_fires : (l : LiveState) (now action : ℕ) → look l now action ≡ Fires → CanFire l.actor action
look_fires l now action e = after_tokens l now action (first_short (needed (row_at l) l.actor.spec.args action) 0 l.actor.ins) refl e

-- so many tokens of an inport are there
pub record CanRead (x : Actor) (port count : ℕ) : Type 0 where
  pub enough : (i : Option Inlet) → slice_get x.ins port ≡ Some i → count ≤ length (held_in i)

time_reads : (l : LiveState) (now port count : ℕ) (b : Bool) → (if b then Lacks (need.Until l.due) else Fires) ≡ Reads port count → ⊥
time_reads l now port count true e = cc
time_reads l now port count false e = cc

timed_reads : (l : LiveState) (now port count : ℕ) (b : Bool) → look_at_time l now b ≡ Reads port count → ⊥
timed_reads l now port count true e = time_reads l now port count (nat_lt now l.due) e
timed_reads l now port count false e = cc

space_reads : (l : LiveState) (now action port count : ℕ) (x : Option ℕ) → look_at_space l now action x ≡ Reads port count → ⊥
space_reads l now action port count None e = timed_reads l now port count (is_timed (row_at l) action) e
space_reads l now action port count (Some q) e = cc

guard_reads : (l : LiveState) (now action port count : ℕ) (b : Bool) → look_at_guard l now action b ≡ Reads port count → ⊥
guard_reads l now action port count true e = space_reads l now action port count (first_crowded (given (row_at l) action) 0 l.actor.outs) e
guard_reads l now action port count false e = cc

unread_reads : (l : LiveState) (now action port count : ℕ) (x : Option ℕ) → look_at_reads l now action x ≡ Reads port count → count ≡ needed (row_at l) l.actor.spec.args action port
unread_reads l now action port count None e = absurd (guard_reads l now action port count (is_guarded l action) e)
unread_reads l now action port count (Some q) e = cc

tokens_read : (l : LiveState) (now action port count : ℕ) (x : Option Need) → first_short (needed (row_at l) l.actor.spec.args action) 0 l.actor.ins ≡ x → look_at_tokens l now action x ≡ Reads port count → CanRead l.actor port count
tokens_read l now action port count (Some lack) is e = absurd (cc)
tokens_read l now action port count None is e =
    let c = unread_reads l now action port count (first_unread (needed (row_at l) l.actor.spec.args action) 0 l.actor.ins) e in
    let z : 0 + port ≡ port = omega arith in
    record {
      enough =
          λ i g.
          let h = none_short (needed (row_at l) l.actor.spec.args action) 0 l.actor.ins is port i g in
          subst (λ (k : ℕ). k ≤ length (held_in i)) (sym c) (subst (λ (q : ℕ). needed (row_at l) l.actor.spec.args action q ≤ length (held_in i)) z h);
    }

-- 3. A poll

lack_fires : (lack : Need) (action : ℕ) (later : Answer) → with_lack lack later ≡ Fired action → later ≡ Fired action
lack_fires lack action (Fired k) e = e
lack_fires lack action (Held port count) e = absurd (cc)
lack_fires lack action (Waiting lacks) e = absurd (cc)

lack_holds : (lack : Need) (port count : ℕ) (later : Answer) → with_lack lack later ≡ Held port count → later ≡ Held port count
lack_holds lack port count (Fired k) e = absurd (cc)
lack_holds lack port count (Held q c) e = e
lack_holds lack port count (Waiting lacks) e = absurd (cc)

look_answers : (l : LiveState) (now first action : ℕ) (x : Look) (later : Answer) → look l now first ≡ x → answer_from x first later ≡ Fired action → (later ≡ Fired action → CanFire l.actor action) → CanFire l.actor action
look_answers l now first action Fires later is e rest =
    let same : first ≡ action = cc in
    subst (CanFire l.actor) same (look_fires l now first is)
look_answers l now first action (Reads port count) later is e rest = absurd (cc)
look_answers l now first action (Lacks lack) later is e rest = rest (lack_fires lack action later e)

poll_fires_from : (l : LiveState) (now first left action : ℕ) → poll_from l now first left ≡ Fired action → CanFire l.actor action
poll_fires_from l now first zero action e = absurd (cc)
poll_fires_from l now first (suc left) action e =
    look_answers l now first action (look l now first) (poll_from l now (suc first) left) refl e (poll_fires_from l now (suc first) left action)

pub poll_fires : (l : LiveState) (now action : ℕ) → poll l now ≡ Fired action → CanFire l.actor action
poll_fires l now action e = poll_fires_from l now 0 (action_count (row_at l)) action e

look_holds : (l : LiveState) (now first port count : ℕ) (x : Look) (later : Answer) → look l now first ≡ x → answer_from x first later ≡ Held port count → (later ≡ Held port count → CanRead l.actor port count) → CanRead l.actor port count
look_holds l now first port count Fires later is e rest = absurd (cc)
look_holds l now first port count (Reads q c) later is e rest =
    let p : q ≡ port = cc in
    let k : c ≡ count = cc in
    tokens_read l now first port count (first_short (needed (row_at l) l.actor.spec.args first) 0 l.actor.ins) refl (is ∙ λ z. Reads (p z) (k z))
look_holds l now first port count (Lacks lack) later is e rest = rest (lack_holds lack port count later e)

poll_holds_from : (l : LiveState) (now first left port count : ℕ) → poll_from l now first left ≡ Held port count → CanRead l.actor port count
poll_holds_from l now first zero port count e = absurd (cc)
poll_holds_from l now first (suc left) port count e =
    look_holds l now first port count (look l now first) (poll_from l now (suc first) left) refl e (poll_holds_from l now (suc first) left port count)

pub poll_holds : (l : LiveState) (now port count : ℕ) → poll l now ≡ Held port count → CanRead l.actor port count
poll_holds l now port count e = poll_holds_from l now 0 (action_count (row_at l)) port count e
