-- What follows for the ports of an actor from what is seen of an action.
use Rattle.std.proofs.Common.{◌≡◌, ℕ, zero, suc, ◌+◌, ◌-◌, ◌<◌, ◌≤◌, Bool, true, false, nat_lt, if◌then◌else◌, List, [], ◌∷◌, length, slice_get, slice_set, Option, Some, None, unwrap_or, refl, ap, sym, subst, ◌∙◌, arith}
use Rattle.std.specs.Prelude.{IsSomeAnd}
use Rattle.std.proofs.lemmas.Bool.Decides.{nat_tests}
use Rattle.cv_queue.specs.Ports.{OutView, space}
use Rattle.cv_behave.specs.KindRow.{needed, given, action_count, is_timed}
use Rattle.cv_protocol.specs.declared.poll.Need.{Need}
use Rattle.cv_protocol.specs.declared.poll.Need.TheVariants as need
use Rattle.cv_protocol.specs.declared.state.Inlet.{Inlet}
use Rattle.cv_protocol.specs.Actors.{LiveState}
use Rattle.cv_protocol.specs.Poll.{Look, Lacks, Reads, Fires, Answer, Fired, Held, Waiting, held_in, read_in, first_short, first_unread, first_crowded, is_guarded, row_at, look, look_at_tokens, look_at_reads, look_at_guard, look_at_space, look_at_time, poll, poll_from, answer_from, with_lack}
use Rattle.cv_protocol.specs.Rows.{inlet_at}
use Rattle.cv_actor.specs.declared.outlook.Outlook.TheVariants as outlook
use Rattle.cv_actor.specs.declared.outlook.Sight.TheVariants as sight
use Rattle.cv_actor.specs.Polled.{foreseen, foreseen_from, seen}

-- 1. Ports one after another

passed_over : {X : Type 0} (b : Bool) (x : X) (rest : Option X) → (if b then Some x else rest) ≡ None → (b ≡ false) × (rest ≡ None)
passed_over true x rest e = absurd (cc)
passed_over false x rest e = (refl, e)

no_less : (m n : ℕ) → nat_lt m n ≡ false → n ≤ m
no_less m n e = grind (arith, nat_tests)

-- an inport that is not short holds what is needed, and so do those after it
pub not_short : (needs : ℕ → ℕ) (port : ℕ) (i : Option Inlet) (ins : List (Option Inlet)) → first_short needs port (i ∷ ins) ≡ None → (needs port ≤ length (held_in i)) × (first_short needs (suc port) ins ≡ None)
not_short needs port i ins e = let h = passed_over _ _ _ e in (no_less _ _ h.0, h.1)

pub not_unread : (needs : ℕ → ℕ) (port : ℕ) (i : Option Inlet) (ins : List (Option Inlet)) → first_unread needs port (i ∷ ins) ≡ None → (needs port ≤ read_in i) × (first_unread needs (suc port) ins ≡ None)
not_unread needs port i ins e = let h = passed_over _ _ _ e in (no_less _ _ h.0, h.1)

pub not_crowded : (gives : ℕ → ℕ) (port : ℕ) (o : OutView) (outs : List OutView) → first_crowded gives port (o ∷ outs) ≡ None → (gives port ≤ space o) × (first_crowded gives (suc port) outs ≡ None)
not_crowded gives port o outs e = let h = passed_over _ _ _ e in (no_less _ _ h.0, h.1)

-- 2. An action that fires

-- what holds where an action fires
pub record Ready (l : LiveState) (action : ℕ) : Type 0 where
  pub held : first_short (needed (row_at l) l.actor.spec.args action) 0 l.actor.ins ≡ None
  pub read : first_unread (needed (row_at l) l.actor.spec.args action) 0 l.actor.ins ≡ None
  pub guarded : is_guarded l action ≡ true
  pub spacious : first_crowded (given (row_at l) action) 0 l.actor.outs ≡ None

fires_space : (l : LiveState) (now action : ℕ) (o : Option ℕ) → look_at_space l now action o ≡ Fires → o ≡ None
fires_space l now action None e = refl
fires_space l now action (Some port) e = absurd (cc)

fires_guard : (l : LiveState) (now action : ℕ) (b : Bool) → look_at_guard l now action b ≡ Fires → (b ≡ true) × (first_crowded (given (row_at l) action) 0 l.actor.outs ≡ None)
fires_guard l now action true e = (refl, fires_space l now action _ e)
fires_guard l now action false e = absurd (cc)

fires_reads : (l : LiveState) (now action : ℕ) (o : Option ℕ) → look_at_reads l now action o ≡ Fires → (o ≡ None) × (look_at_guard l now action (is_guarded l action) ≡ Fires)
fires_reads l now action None e = (refl, e)
fires_reads l now action (Some port) e = absurd (cc)

fires_tokens : (l : LiveState) (now action : ℕ) (o : Option Need) → look_at_tokens l now action o ≡ Fires → (o ≡ None) × (look_at_reads l now action (first_unread (needed (row_at l) l.actor.spec.args action) 0 l.actor.ins) ≡ Fires)
fires_tokens l now action None e = (refl, e)
fires_tokens l now action (Some lack) e = absurd (cc)

pub ready : (l : LiveState) (now action : ℕ) → look l now action ≡ Fires → Ready l action
ready l now action e =
    let tokens = fires_tokens l now action _ e in
    let reads = fires_reads l now action _ tokens.1 in
    let guard = fires_guard l now action _ reads.1 in
    record { held = tokens.0; read = reads.0; guarded = guard.0; spacious = guard.1 }

-- 3. An action that has to read

reads_late : (l : LiveState) (now action port count : ℕ) (b : Bool) → (if b then Lacks (need.Until l.due) else Fires) ≡ Reads port count → ⊥
reads_late l now action port count true e = cc
reads_late l now action port count false e = cc

reads_time : (l : LiveState) (now port count : ℕ) (b : Bool) → look_at_time l now b ≡ Reads port count → ⊥
reads_time l now port count true e = reads_late l now 0 port count (nat_lt now l.due) e
reads_time l now port count false e = cc

reads_space : (l : LiveState) (now action port count : ℕ) (o : Option ℕ) → look_at_space l now action o ≡ Reads port count → ⊥
reads_space l now action port count None e = reads_time l now port count (is_timed (row_at l) action) e
reads_space l now action port count (Some p) e = cc

reads_guard : (l : LiveState) (now action port count : ℕ) (b : Bool) → look_at_guard l now action b ≡ Reads port count → ⊥
reads_guard l now action port count true e = reads_space l now action port count _ e
reads_guard l now action port count false e = cc

reads_reads : (l : LiveState) (now action port count : ℕ) (o : Option ℕ) → look_at_reads l now action o ≡ Reads port count → (o ≡ Some port) × (count ≡ needed (row_at l) l.actor.spec.args action port)
reads_reads l now action port count None e = absurd (reads_guard l now action port count _ e)
reads_reads l now action port count (Some p) e =
    let same : p ≡ port = cc in
    (ap Some same, let many : needed (row_at l) l.actor.spec.args action p ≡ count = cc in sym many ∙ ap (needed (row_at l) l.actor.spec.args action) same)

reads_tokens : (l : LiveState) (now action port count : ℕ) (o : Option Need) → look_at_tokens l now action o ≡ Reads port count → (o ≡ None) × (look_at_reads l now action (first_unread (needed (row_at l) l.actor.spec.args action) 0 l.actor.ins) ≡ Reads port count)
reads_tokens l now action port count None e = (refl, e)
reads_tokens l now action port count (Some lack) e = absurd (cc)

-- an inport with tokens that are needed and not read is fed
abbrev CanRead : ℕ → Inlet → Type 0
CanRead count i = count ≤ length i.port.held

is_fed : (count : ℕ) (i : Option Inlet) → count ≤ length (held_in i) → read_in i < count → IsSomeAnd i (CanRead count)
is_fed count None held unread = absurd (omega arith)
is_fed count (Some i) held unread = held

some_or : (b : Bool) (x y : ℕ) (rest : Option ℕ) → (if b then Some x else rest) ≡ Some y → (P : Type 0) → (b ≡ true → x ≡ y → P) → (b ≡ false → rest ≡ Some y → P) → P
some_or true x y rest e P here later = here refl (cc)
some_or false x y rest e P here later = later refl e

pub less : (m n : ℕ) → nat_lt m n ≡ true → m < n
less m n e = grind (arith, nat_tests)

unread_from : (needs : ℕ → ℕ) (port : ℕ) (ins : List (Option Inlet)) (p : ℕ) → first_unread needs port ins ≡ Some p → port ≤ p
unread_from needs port [] p e = absurd (cc)
unread_from needs port (i ∷ ins) p e =
    some_or _ port p (first_unread needs (suc port) ins) e (port ≤ p) (λ is same. omega arith) (λ is later. let h = unread_from needs (suc port) ins p later in omega arith)

reading : (needs : ℕ → ℕ) (port : ℕ) (ins : List (Option Inlet)) (p : ℕ) → first_short needs port ins ≡ None → first_unread needs port ins ≡ Some p → IsSomeAnd (unwrap_or (slice_get ins (p - port)) None) (CanRead (needs p))
reading needs port [] p held e = absurd (cc)
reading needs port (i ∷ ins) p held e =
    let Fed : ℕ → Type 0 = λ n. IsSomeAnd (unwrap_or (slice_get (i ∷ ins) n) None) (CanRead (needs p)) in
    let h = not_short needs port i ins held in
    some_or _ port p (first_unread needs (suc port) ins) e (Fed (p - port))
    (λ is same.
    let first : 0 ≡ p - port = omega arith in
    let here : IsSomeAnd i (CanRead (needs port)) = is_fed (needs port) i h.0 (less _ _ is) in
    subst Fed first (subst (λ (n : ℕ). IsSomeAnd i (CanRead (needs n))) same here))
    (λ is later.
    let above = unread_from needs (suc port) ins p later in
    let next : suc (p - suc port) ≡ p - port = omega arith in
    subst Fed next (reading needs (suc port) ins p h.1 later))

pub reads : (l : LiveState) (now action port count : ℕ) → look l now action ≡ Reads port count → IsSomeAnd (inlet_at l port) (λ i. count ≤ length i.port.held)
reads l now action port count e =
    let tokens = reads_tokens l now action port count _ e in
    let read = reads_reads l now action port count _ tokens.1 in
    let same : port - 0 ≡ port = omega arith in
    let there = reading (needed (row_at l) l.actor.spec.args action) 0 l.actor.ins port tokens.0 read.0 in
    subst (λ (n : ℕ). IsSomeAnd (inlet_at l n) (CanRead count)) same (subst (λ (n : ℕ). IsSomeAnd (inlet_at l (port - 0)) (CanRead n)) (sym read.1) there)

-- 4. Polls

lack_fires : (lack : Need) (later : Answer) (action : ℕ) → with_lack lack later ≡ Fired action → later ≡ Fired action
lack_fires lack (Fired a) action e = e
lack_fires lack (Held port count) action e = absurd (cc)
lack_fires lack (Waiting lacks) action e = absurd (cc)

fires_by : (l : LiveState) (now at action : ℕ) (k : Look) (later : Answer) → look l now at ≡ k → (later ≡ Fired action → look l now action ≡ Fires) → answer_from k at later ≡ Fired action → look l now action ≡ Fires
fires_by l now at action (Lacks lack) later is next e = next (lack_fires lack later action e)
fires_by l now at action (Reads port count) later is next e = absurd (cc)
fires_by l now at action Fires later is next e =
    let same : at ≡ action = cc in
    subst (λ (n : ℕ). look l now n ≡ Fires) same is

fires_from : (l : LiveState) (now at left action : ℕ) → poll_from l now at left ≡ Fired action → look l now action ≡ Fires
fires_from l now at zero action e = absurd (cc)
fires_from l now at (suc left) action e =
    fires_by l now at action (look l now at) (poll_from l now (suc at) left) refl (fires_from l now (suc at) left action) e

-- the action that a poll names fires
pub poll_fires : (l : LiveState) (now action : ℕ) → poll l now ≡ Fired action → look l now action ≡ Fires
poll_fires l now action e = fires_from l now 0 (action_count (row_at l)) action e

lack_holds : (lack : Need) (later : Answer) (port count : ℕ) → with_lack lack later ≡ Held port count → later ≡ Held port count
lack_holds lack (Fired a) port count e = absurd (cc)
lack_holds lack (Held p c) port count e = e
lack_holds lack (Waiting lacks) port count e = absurd (cc)

abbrev Readable : LiveState → ℕ → ℕ → Type 0
Readable l port count = IsSomeAnd (inlet_at l port) (λ i. count ≤ length i.port.held)

holds_by : (l : LiveState) (now at port count : ℕ) (k : Look) (later : Answer) → look l now at ≡ k → (later ≡ Held port count → Readable l port count) → answer_from k at later ≡ Held port count → Readable l port count
holds_by l now at port count (Lacks lack) later is next e = next (lack_holds lack later port count e)
holds_by l now at port count (Reads p c) later is next e =
    let same : Reads p c ≡ Reads port count = cc in
    reads l now at port count (is ∙ same)
holds_by l now at port count Fires later is next e = absurd (cc)

holds_from : (l : LiveState) (now at left port count : ℕ) → poll_from l now at left ≡ Held port count → Readable l port count
holds_from l now at zero port count e = absurd (cc)
holds_from l now at (suc left) port count e =
    holds_by l now at port count (look l now at) (poll_from l now (suc at) left) refl (holds_from l now (suc at) left port count) e

-- the inport of which a poll tells that it is to be read is fed, and holds so many tokens
pub poll_holds : (l : LiveState) (now port count : ℕ) → poll l now ≡ Held port count → Readable l port count
poll_holds l now port count e = holds_from l now 0 (action_count (row_at l)) port count e

-- an answer is known from what is foreseen
pub foresees_firing : (a : Answer) (action : ℕ) → outlook.Fires action ≡ foreseen a → a ≡ Fired action
foresees_firing (Fired first) action e = let same : action ≡ first = cc in ap Fired (sym same)
foresees_firing (Held port count) action e = absurd (cc)
foresees_firing (Waiting lacks) action e = absurd (cc)

pub foresees_reading : (a : Answer) (port count : ℕ) → outlook.Reads port count ≡ foreseen a → a ≡ Held port count
foresees_reading (Fired first) port count e = absurd (cc)
foresees_reading (Held p c) port count e =
    let same_port : p ≡ port = cc in
    let same_count : c ≡ count = cc in
    ap (λ (n : ℕ). Held n c) same_port ∙ ap (Held port) same_count
foresees_reading (Waiting lacks) port count e = absurd (cc)

-- 5. One action after another

-- what is foreseen where this action lacks something is what is foreseen behind it
pub lack_next : (places : List (Option Need)) (at : ℕ) (lack : Need) (later : Answer) → foreseen_from places at (with_lack lack later) ≡ foreseen_from (slice_set places at (Some lack)) (suc at) later
lack_next places at lack (Fired action) = refl
lack_next places at lack (Held port count) = refl
lack_next places at lack (Waiting lacks) = refl

pub poll_next : (l : LiveState) (now at count : ℕ) → at < count → poll_from l now at (count - at) ≡ answer_from (look l now at) at (poll_from l now (suc at) (count - (at + 1)))
poll_next l now at count within =
    let left : count - at ≡ suc (count - (at + 1)) = omega arith in
    ap (poll_from l now at) left

lacks_from_seen : (k : Look) (need : Need) → sight.Lacks need ≡ seen k → k ≡ Lacks need
lacks_from_seen (Lacks n) need e = let same : need ≡ n = cc in ap Lacks (sym same)
lacks_from_seen (Reads port count) need e = absurd (cc)
lacks_from_seen Fires need e = absurd (cc)

-- where an action lacks something, what is foreseen is what is foreseen behind it
pub lacking : (l : LiveState) (now at count : ℕ) (places : List (Option Need)) (need : Need) → at < count → sight.Lacks need ≡ seen (look l now at) → foreseen_from places at (poll_from l now at (count - at)) ≡ foreseen_from (slice_set places at (Some need)) (at + 1) (poll_from l now (at + 1) (count - (at + 1)))
lacking l now at count places need within e =
    let later = poll_from l now (suc at) (count - (at + 1)) in
    let next : suc at ≡ at + 1 = omega arith in
    ap (foreseen_from places at) (poll_next l now at count within ∙ ap (λ (k : Look). answer_from k at later) (lacks_from_seen (look l now at) need e))
    ∙ lack_next places at need later
    ∙ ap (λ (n : ℕ). foreseen_from (slice_set places at (Some need)) n (poll_from l now n (count - (at + 1)))) next
