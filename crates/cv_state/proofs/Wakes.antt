-- The least moment that an action waits for.
use Rattle.std.proofs.Common.{◌≡◌, ◌⊎◌, inl, inr, ℕ, zero, suc, ◌+◌, ◌-◌, ◌<◌, ◌≤◌, nat_le, nat_lt, Bool, true, false, if◌then◌else◌, List, [], ◌∷◌, drop, length, slice_get, Option, Some, None, refl, ap, sym, ◌∙◌, subst, arith}
use Rattle.std.proofs.lemmas.Bool.Decides.{leb_tells}
use Rattle.std.proofs.Math.ListN.{drop_of_length-le}
use Rattle.std.specs.FinMap as map
use Rattle.cv_token.specs.declared.identifiers.ActorId.{ActorId}
use Rattle.cv_behave.specs.KindRow.{action_count, is_timed, given, needed}
use Rattle.cv_protocol.specs.declared.poll.Need.{Need}
use Rattle.cv_protocol.specs.declared.poll.Need.TheVariants as need
use Rattle.cv_protocol.specs.declared.state.Inlet.{Inlet}
use Rattle.cv_protocol.specs.Actors.{LiveState}
use Rattle.cv_protocol.specs.NodeState.{NodeState}
use Rattle.cv_protocol.specs.Poll.{Look, Lacks, Reads, Fires, first_crowded, first_short, first_unread, held_in, is_guarded, look, look_at_guard, look_at_reads, look_at_space, look_at_time, look_at_tokens, row_at}
use Rattle.cv_state.specs.Waking.{Wakes, IsNextDue, earlier, first_wake, until_of, wake_at, wake_from, wake_of}
use Rattle.cv_state.proofs.Entries.{place_of, value_at}
use Rattle.cv_state.proofs.Local.{is_less, not_less}

-- 1. The least number that has a property

abbrev pub Least : (ℕ → Type 0) → Option ℕ → Type 0
Least P None = (t : ℕ) → P t → ⊥
Least P (Some t) = P t × ((u : ℕ) → P u → t ≤ u)

least_of : (P Q : ℕ → Type 0) (o : Option ℕ) → ((t : ℕ) → P t → Q t) → ((t : ℕ) → Q t → P t) → Least P o → Least Q o
least_of P Q None to back h = λ t q. h t (back t q)
least_of P Q (Some t) to back h = (to t h.0, λ u q. h.1 u (back u q))

abbrev Either : (ℕ → Type 0) → (ℕ → Type 0) → ℕ → Type 0
Either P Q t = P t ⊎ Q t

least_two : (P Q : ℕ → Type 0) (t u : ℕ) → Least P (Some t) → Least Q (Some u) → Least (Either P Q) (earlier (Some t) (Some u))
least_two P Q t u h g =
    elim (leb_tells t u) [
      | inl w ↦
          subst (λ b. Least (Either P Q) (if b then Some t else Some u)) (sym w.0) (
            inl h.0,
            λ v e. elim e [
              | inl p ↦ h.1 v p
              | inr q ↦ let late = g.1 v q in let first = w.1 in omega (arith, late, first)
            ],
          )
      | inr w ↦
          subst (λ b. Least (Either P Q) (if b then Some t else Some u)) (sym w.0) (
            inr g.0,
            λ v e. elim e [
              | inl p ↦ let late = h.1 v p in let first = w.1 in omega (arith, late, first)
              | inr q ↦ g.1 v q
            ],
          )
    ]

least_either : (P Q : ℕ → Type 0) (o r : Option ℕ) → Least P o → Least Q r → Least (Either P Q) (earlier o r)
least_either P Q None None h g = λ t e. elim e [ inl p ↦ h t p | inr q ↦ g t q ]
least_either P Q None (Some u) h g =
    (inr g.0, λ v e. elim e [ inl p ↦ absurd (h v p) | inr q ↦ g.1 v q ])
least_either P Q (Some t) None h g =
    (inl h.0, λ v e. elim e [ inl p ↦ h.1 v p | inr q ↦ absurd (g v q) ])
least_either P Q (Some t) (Some u) h g = least_two P Q t u h g

-- 2. The actions of an actor

abbrev LooksAt : Look → ℕ → Type 0
LooksAt x t = x ≡ Lacks (need.Until t)

least_look : (x : Look) → Least (LooksAt x) (until_of x)
least_look (Lacks (need.Until t)) = (refl, λ u e. let same : t ≡ u = cc in omega (arith, same))
least_look (Lacks (need.Token port count)) = λ t e. absurd (cc)
least_look (Lacks need.Guard) = λ t e. absurd (cc)
least_look (Lacks (need.Space port)) = λ t e. absurd (cc)
least_look (Reads port count) = λ t e. absurd (cc)
least_look Fires = λ t e. absurd (cc)

record ActionWaits (l : LiveState) (now action left t : ℕ) : Type 0 where
  pub number : ℕ
  pub from : action ≤ number
  pub below : number < action + left
  pub lacks : LooksAt (look l now number) t

abbrev ActsAt : LiveState → ℕ → ℕ → ℕ → ℕ → Type 0
ActsAt l now action left t = ActionWaits l now action left t

first_action : (P : ℕ → Type 0) (l : LiveState) (now action left t : ℕ) (w : ActionWaits l now action (suc left) t) → ((nat_le w.number action ≡ true) × (w.number ≤ action)) ⊎ ((nat_le w.number action ≡ false) × (action < w.number)) → Either (Either P (LooksAt (look l now action))) (ActsAt l now (suc action) left) t
first_action P l now action left t w (inl h) =
    let low = w.from in
    let high = h.1 in
    let same : w.number ≡ action = omega (arith, low, high) in
    inl (inr (subst (λ (k : ℕ). LooksAt (look l now k) t) same w.lacks))
first_action P l now action left t w (inr h) =
    let high = w.below in
    let low = h.1 in
    inr (record { number = w.number; from = low; below = omega (arith, high); lacks = w.lacks })

first_here : (l : LiveState) (now action left t : ℕ) → LooksAt (look l now action) t → ActionWaits l now action (suc left) t
first_here l now action left t p = record { number = action; from = omega arith; below = omega arith; lacks = p }

first_later : (l : LiveState) (now action left t : ℕ) → ActionWaits l now (suc action) left t → ActionWaits l now action (suc left) t
first_later l now action left t w =
    let low = w.from in
    let high = w.below in
    record { number = w.number; from = omega (arith, low); below = omega (arith, high); lacks = w.lacks }

no_action : (l : LiveState) (now action t : ℕ) → ActionWaits l now action 0 t → ⊥
no_action l now action t w =
    let low = w.from in
    let high = w.below in
    omega (arith, low, high)

least_action : (l : LiveState) (now action left : ℕ) (P : ℕ → Type 0) (found : Option ℕ) → Least P found → Least (Either P (ActsAt l now action left)) (wake_from l now found action left)
least_action l now action zero P found h =
    least_of P (Either P (ActsAt l now action 0)) found (λ t p. inl p) (λ t e. elim e [ inl p ↦ p | inr w ↦ absurd (no_action l now action t w) ]) h
least_action l now action (suc left) P found h =
    let Q = Either P (LooksAt (look l now action)) in
    least_of (Either Q (ActsAt l now (suc action) left)) (Either P (ActsAt l now action (suc left))) (wake_from l now found action (suc left))
    (λ t e. elim e [
      | inl q ↦ elim q [ inl p ↦ inl p | inr p ↦ inr (first_here l now action left t p) ]
      | inr w ↦ inr (first_later l now action left t w)
    ])
    (λ t e. elim e [
      | inl p ↦ inl (inl p)
      | inr w ↦ first_action P l now action left t w (leb_tells w.number action)
    ])
    (least_action l now (suc action) left Q (earlier found (until_of (look l now action))) (least_either P (LooksAt (look l now action)) found (until_of (look l now action)) h (least_look (look l now action))))

-- one action further
pub wake_next : (l : LiveState) (now : ℕ) (found : Option ℕ) (action count : ℕ) → action < count → wake_from l now found action (count - action) ≡ wake_from l now (earlier found (until_of (look l now action))) (action + 1) (count - (action + 1))
wake_next l now found action count within =
    let left : count - action ≡ suc (count - (action + 1)) = omega (arith, within) in
    let next : suc action ≡ action + 1 = omega arith in
    ap (wake_from l now found action) left
    ∙ ap (λ (k : ℕ). wake_from l now (earlier found (until_of (look l now action))) k (count - (action + 1))) next

-- 3. The actors of a node

record EntryWaits (now : ℕ) (es : List (ActorId × LiveState)) (t : ℕ) : Type 0 where
  pub place : ℕ
  pub entry : ActorId × LiveState
  pub there : slice_get es place ≡ Some entry
  pub waits : ActionWaits entry.1 now 0 (action_count (row_at entry.1)) t

abbrev AllActs : ℕ → LiveState → ℕ → Type 0
AllActs now l t = ActionWaits l now 0 (action_count (row_at l)) t

first_entry : (P : ℕ → Type 0) (now t : ℕ) (e : ActorId × LiveState) (es : List (ActorId × LiveState)) (place : ℕ) (entry : ActorId × LiveState) → slice_get (e ∷ es) place ≡ Some entry → AllActs now entry.1 t → Either (Either P (AllActs now e.1)) (EntryWaits now es) t
first_entry P now t e es zero entry there w =
    let same : entry ≡ e = cc in
    inl (inr (subst (λ (x : ActorId × LiveState). AllActs now x.1 t) same w))
first_entry P now t e es (suc n) entry there w = inr (record { place = n; entry = entry; there = there; waits = w })

no_entry : (now t : ℕ) → EntryWaits now [] t → ⊥
no_entry now t w = let none = w.there in cc

least_entry : (now : ℕ) (es : List (ActorId × LiveState)) (P : ℕ → Type 0) (found : Option ℕ) → Least P found → Least (Either P (EntryWaits now es)) (first_wake now found es)
least_entry now [] P found h =
    least_of P (Either P (EntryWaits now [])) found (λ t p. inl p) (λ t e. elim e [ inl p ↦ p | inr w ↦ absurd (no_entry now t w) ]) h
least_entry now (e ∷ es) P found h =
    let Q = Either P (AllActs now e.1) in
    least_of (Either Q (EntryWaits now es)) (Either P (EntryWaits now (e ∷ es))) (first_wake now found (e ∷ es))
    (λ t x. elim x [
      | inl q ↦ elim q [
        | inl p ↦ inl p
        | inr w ↦ inr (record { place = 0; entry = e; there = refl; waits = w })
      ]
      | inr w ↦ inr (record { place = suc w.place; entry = w.entry; there = w.there; waits = w.waits })
    ])
    (λ t x. elim x [
      | inl p ↦ inl (inl p)
      | inr w ↦ first_entry P now t e es w.place w.entry w.there w.waits
    ])
    (least_entry now es Q (wake_of now found e.1) (least_action e.1 now 0 (action_count (row_at e.1)) P found h))

-- one entry further, and after the last one
pub entry_next : (now : ℕ) (found : Option ℕ) (es : List (ActorId × LiveState)) (n : ℕ) → n < length es → first_wake now found (drop n es) ≡ first_wake now (wake_at now found (slice_get es n)) (drop (n + 1) es)
entry_next now found [] n within = absurd (omega arith)
entry_next now found (e ∷ es) zero within = refl
entry_next now found (e ∷ es) (suc n) within =
    let next : suc (n + 1) ≡ suc n + 1 = omega arith in
    entry_next now found es n (omega arith)
    ∙ ap (λ (k : ℕ). first_wake now (wake_at now found (slice_get es n)) (drop k (e ∷ es))) next

pub entry_past : (now : ℕ) (found : Option ℕ) (es : List (ActorId × LiveState)) (n : ℕ) → length es ≤ n → first_wake now found (drop n es) ≡ found
entry_past now found es n past = ap (first_wake now found) (drop_of_length-le es past)

-- a moment that is a first lack is the actor's, and to come

short_there : (needs : ℕ → ℕ) (port t : ℕ) (later : Option Need) (b : Bool) → (later ≡ Some (need.Until t) → ⊥) → (if b then Some (need.Token port (needs port)) else later) ≡ Some (need.Until t) → ⊥
short_there needs port t later true none is = cc
short_there needs port t later false none is = none is

short_of_tokens : (needs : ℕ → ℕ) (port : ℕ) (ins : List (Option Inlet)) (t : ℕ) → first_short needs port ins ≡ Some (need.Until t) → ⊥
short_of_tokens needs port [] t is = cc
short_of_tokens needs port (i ∷ ins) t is = short_there needs port t (first_short needs (suc port) ins) (nat_lt (length (held_in i)) (needs port)) (λ h. short_of_tokens needs (suc port) ins t h) is

less_or_not : (m n : ℕ) → ((nat_lt m n ≡ true) × (m < n)) ⊎ (nat_lt m n ≡ false)
less_or_not m n = elim (leb_tells n m) [ inl h ↦ inr (not_less m n h.1) | inr h ↦ inl (is_less m n h.1, h.1) ]

module _ (l : LiveState) (now action t : ℕ) where
  abbrev IsToCome : Type 0
  IsToCome = (t ≡ l.due) × (now < t)

  in_time : (b : Bool) → look_at_time l now b ≡ Lacks (need.Until t) → IsToCome
  in_time true is =
      elim (less_or_not now l.due) [
        | inl h ↦
            let there : Lacks (need.Until l.due) ≡ Lacks (need.Until t) = ap (λ b. if b then Lacks (need.Until l.due) else Fires) (sym h.0) ∙ is in
            let same : l.due ≡ t = cc in
            (sym same, subst (λ (u : ℕ). now < u) same h.1)
        | inr h ↦ let fires : Fires ≡ Lacks (need.Until t) = ap (λ b. if b then Lacks (need.Until l.due) else Fires) (sym h) ∙ is in absurd (cc)
      ]
  in_time false is = absurd (cc)

  in_space : (o : Option ℕ) → look_at_space l now action o ≡ Lacks (need.Until t) → IsToCome
  in_space (Some port) is = absurd (cc)
  in_space None is = in_time (is_timed (row_at l) action) is

  in_guard : (b : Bool) → look_at_guard l now action b ≡ Lacks (need.Until t) → IsToCome
  in_guard false is = absurd (cc)
  in_guard true is = in_space (first_crowded (given (row_at l) action) 0 l.actor.outs) is

  in_reads : (o : Option ℕ) → look_at_reads l now action o ≡ Lacks (need.Until t) → IsToCome
  in_reads (Some port) is = absurd (cc)
  in_reads None is = in_guard (is_guarded l action) is

  in_tokens : (o : Option Need) → first_short (needed (row_at l) l.actor.spec.args action) 0 l.actor.ins ≡ o → look_at_tokens l now action o ≡ Lacks (need.Until t) → IsToCome
  in_tokens (Some lack) found is =
      let same : lack ≡ need.Until t = cc in
      absurd (short_of_tokens (needed (row_at l) l.actor.spec.args action) 0 l.actor.ins t (found ∙ ap Some same))
  in_tokens None found is = in_reads (first_unread (needed (row_at l) l.actor.spec.args action) 0 l.actor.ins) is

  to_come : look l now action ≡ Lacks (need.Until t) → IsToCome
  to_come is = in_tokens (first_short (needed (row_at l) l.actor.spec.args action) 0 l.actor.ins) refl is

abbrev WakesSome : NodeState → ℕ → Type 0
WakesSome s t = (a : ActorId) × Wakes s a t

wakes : (s : NodeState) (t : ℕ) → EntryWaits s.now (map.entries s.live) t → WakesSome s t
wakes s t w =
    let high = w.waits.below in
    let come = to_come w.entry.1 s.now w.waits.number t w.waits.lacks in (
      w.entry.0,
      record {
        live = w.entry.1;
        there = value_at s.live w.place w.entry w.there;
        action = w.waits.number;
        within = omega (arith, high);
        lacks = w.waits.lacks;
        due = come.0;
        to_come = come.1;
      },
    )

entered : (s : NodeState) (t : ℕ) → WakesSome s t → EntryWaits s.now (map.entries s.live) t
entered s t w =
    let p = place_of s.live w.0 w.1.live w.1.there in
    let high = w.1.within in
    record {
      place = p.0;
      entry = (w.0, w.1.live);
      there = p.1;
      waits = record { number = w.1.action; from = omega arith; below = omega (arith, high); lacks = w.1.lacks };
    }

told : (s : NodeState) (o : Option ℕ) → Least (WakesSome s) o → IsNextDue s o
told s None h = λ a t w. h t (a, w)
told s (Some t) h =
    record { actor = h.0.0; wakes = h.0.1; least = λ a u w. h.1 u (a, w) }

abbrev Nowhere : ℕ → Type 0
Nowhere t = ⊥

pub next_due_is : (s : NodeState) → IsNextDue s (first_wake s.now None (map.entries s.live))
next_due_is s =
    let found = first_wake s.now None (map.entries s.live) in
    told s found (least_of (Either Nowhere (EntryWaits s.now (map.entries s.live))) (WakesSome s) found (λ t e. elim e [ inl none ↦ absurd none | inr w ↦ wakes s t w ]) (λ t w. inr (entered s t w)) (least_entry s.now (map.entries s.live) Nowhere None (λ t none. none)))
