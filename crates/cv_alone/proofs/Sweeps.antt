-- What a node does by itself goes on entry by entry; a sweep without a change finds it at rest.
use Rattle.std.proofs.Common.{◌≡◌, ℕ, ◌+◌, ◌<◌, ◌≤◌, ◌&&◌, ◌||◌, Bool, true, false, if◌then◌else◌, MatchBool, List, [], ◌∷◌, ◌++◌, length, Option, Some, None, refl, ap, sym, ◌∙◌, subst, arith, length-append, append_assoc, add-zero, below_more}
use Rattle.std.specs.List.{list_all}
use Rattle.std.proofs.lemmas.List.{append-nil}
use Rattle.std.proofs.lemmas.List.Sums.{sum_by-append}
use Rattle.cv_protocol.specs.declared.event.Entry.{Entry}
use Rattle.cv_protocol.specs.declared.event.Event.{Event}
use Rattle.cv_protocol.specs.declared.event.Event.TheVariants as event
use Rattle.cv_protocol.specs.declared.event.Sent.{Sent}
use Rattle.cv_protocol.specs.declared.event.Sent.TheVariants as sent
use Rattle.cv_protocol.specs.declared.poll.Need.{Need}
use Rattle.cv_protocol.specs.NodeState.{NodeState}
use Rattle.cv_protocol.specs.NodeRow.{row}
use Rattle.cv_actor.specs.declared.act.Polled.{Polled}
use Rattle.cv_actor.specs.declared.act.Polled.TheVariants as polled
use Rattle.cv_node.specs.Counts.{firing_count, is_firing, journal_length}
use Rattle.cv_node.specs.Journalled.{Journalled, MakesStep, entry_of_row}
use Rattle.cv_node.specs.Polls.{HasPolled, Waits}
use Rattle.cv_alone.specs.declared.sweep.Swept.{Swept}
use Rattle.cv_alone.specs.Going.{EndsInFiring, GoesOn, Polls, all_may, is_prompt, swept_by}
use Rattle.cv_alone.specs.Resting.{AllWait, WaitsFor, actor_id, conn_id, earlier, is_untimed, until_from, until_in, waits_for_none}

-- 1. Going on

pub goes_on_self : (may : Event → Bool) (j : Journalled) → GoesOn may j j 0
goes_on_self may j = record { more = []; appends = sym (append-nil j.entries); own = refl; firings = refl; based = refl; few = λ h. h }

own_head : (may : Event → Bool) (own : Bool) (xs ys : List Entry) → own && all_may may xs ≡ true → (all_may may xs ≡ true → all_may may (xs ++ ys) ≡ true) → own && all_may may (xs ++ ys) ≡ true
own_head may true xs ys h below = below h
own_head may false xs ys h below = h

own_one : (own : Bool) → own ≡ true → own && true ≡ true
own_one true is = refl
own_one false is = is

own_append : (may : Event → Bool) (xs ys : List Entry) → all_may may xs ≡ true → all_may may ys ≡ true → all_may may (xs ++ ys) ≡ true
own_append may [] ys x y = y
own_append may (e ∷ xs) ys x y =
    own_head may (may e.event) xs ys x (λ h. own_append may xs ys h y)

count_append : (xs ys : List Entry) → firing_count (xs ++ ys) ≡ firing_count xs + firing_count ys
count_append xs ys = sum_by-append (λ (e : Entry). if is_firing e.event then 1 else 0) xs ys

pub goes_on_step : (may : Event → Bool) (a b c : Journalled) (n m : ℕ) → GoesOn may a b n → GoesOn may b c m → GoesOn may a c (n + m)
goes_on_step may a b c n m first second = record {
  more = first.more ++ second.more;
  appends = second.appends ∙ ap (λ (es : List Entry). es ++ second.more) first.appends ∙ append_assoc a.entries first.more second.more;
  own = own_append may first.more second.more first.own second.own;
  firings = omega (arith, count_append first.more second.more, first.firings, second.firings);
  based = second.based ∙ first.based;
  few = λ h. second.few (first.few h);
}

abbrev counts : Event → ℕ
counts e = if is_firing e then 1 else 0

pub goes_on_entry : (may : Event → Bool) (a b : Journalled) (e : Event) (s : Sent) → MakesStep a e s b → may e ≡ true → length a.entries < journal_length → GoesOn may a b (counts e)
goes_on_entry may a b e s steps own few = record {
  more = entry_of_row a.state e ∷ [];
  appends = steps.appends;
  own = own_one (may e) own;
  firings = omega arith;
  based = steps.based;
  few = λ h. omega (arith, few, ap length steps.appends, length-append a.entries (entry_of_row a.state e ∷ []));
}

pub longer_by_entry : (a b : Journalled) (e : Event) (s : Sent) → MakesStep a e s b → length b.entries ≡ length a.entries + 1
longer_by_entry a b e s steps =
    omega (arith, ap length steps.appends, length-append a.entries (entry_of_row a.state e ∷ []))

pub not_shorter : (may : Event → Bool) (a b : Journalled) (n : ℕ) → GoesOn may a b n → length a.entries ≤ length b.entries
not_shorter may a b n g = omega (arith, ap length g.appends, length-append a.entries g.more)

-- 2. A sweep over the connections

pub record PassesSoFar (start now : Journalled) (passed : Bool) (place : ℕ) : Type 0 where
  pub goes_on : GoesOn is_prompt start now 0
  pub none : passed ≡ false → (now ≡ start) × ((k : ℕ) → k < place → row start.state (event.Pass (conn_id k)) ≡ None)
  pub more : passed ≡ true → length start.entries < length now.entries

pub passes_first : (start : Journalled) → PassesSoFar start start false 0
passes_first start = record {
  goes_on = goes_on_self is_prompt start;
  none = λ h. (refl, λ k low. absurd (omega (arith, low)));
  more = λ h. absurd (cc);
}

passes_on : (start now next : Journalled) (passed : Bool) (place : ℕ) → PassesSoFar start now passed place → MakesStep now (event.Pass (conn_id place)) sent.Nothing next → length now.entries < journal_length → PassesSoFar start next true (place + 1)
passes_on start now next passed place before steps few = record {
  goes_on = goes_on_step is_prompt start now next 0 0 before.goes_on (goes_on_entry is_prompt now next (event.Pass (conn_id place)) sent.Nothing steps refl few);
  none = λ h. absurd (cc);
  more = λ h. omega (arith, not_shorter is_prompt start now 0 before.goes_on, longer_by_entry now next (event.Pass (conn_id place)) sent.Nothing steps);
}

abbrev PassOutcome : Journalled → ℕ → Bool → Journalled → Type 0
PassOutcome now place moved next =
    MatchBool moved (MakesStep now (event.Pass (conn_id place)) sent.Nothing next) ((next ≡ now) × (row now.state (event.Pass (conn_id place)) ≡ None))

pub passes_next : (start now next : Journalled) (passed moved : Bool) (place : ℕ) → PassesSoFar start now passed place → PassOutcome now place moved next → length now.entries < journal_length → PassesSoFar start next (passed || moved) (place + 1)
passes_next start now next true true place before steps few = passes_on start now next true place before steps few
passes_next start now next false true place before steps few = passes_on start now next false place before steps few
passes_next start now next true false place before same few = record {
  goes_on = subst (λ (j : Journalled). GoesOn is_prompt start j 0) (sym same.0) before.goes_on;
  none = λ h. absurd (cc);
  more = λ h. subst (λ (j : Journalled). length start.entries < length j.entries) (sym same.0) (before.more refl);
}
passes_next start now next false false place before same few =
    let unchanged : now ≡ start = (before.none refl).0 in
    let here = subst (λ (j : Journalled). row j.state (event.Pass (conn_id place)) ≡ None) unchanged same.1 in
    record {
      goes_on = subst (λ (j : Journalled). GoesOn is_prompt start j 0) (sym same.0) before.goes_on;
      none = λ h. (same.0 ∙ unchanged, below_more (λ k. row start.state (event.Pass (conn_id k)) ≡ None) place (before.none refl).1 here);
      more = λ h. absurd (cc);
    }

-- 3. Moments

none_earlier : (due other : Option ℕ) → earlier due other ≡ None → (due ≡ None) × (other ≡ None)
none_earlier None other e = (refl, e)
none_earlier (Some t) None e = absurd (cc)
none_earlier (Some t) (Some u) e = absurd (cc)

untimed_head : (lack : Option Need) (lacks : List (Option Need)) → until_in lack ≡ None → list_all is_untimed lacks ≡ true → list_all is_untimed (lack ∷ lacks) ≡ true
untimed_head lack lacks none rest = ap (λ (o : Option ℕ). waits_for_none o && list_all is_untimed lacks) none ∙ rest

pub none_until : (due : Option ℕ) (lacks : List (Option Need)) → until_from due lacks ≡ None → (due ≡ None) × (list_all is_untimed lacks ≡ true)
none_until due [] e = (e, refl)
none_until due (lack ∷ lacks) e =
    let h = none_until (earlier due (until_in lack)) lacks e in
    let g = none_earlier due (until_in lack) h.0 in
    (g.0, untimed_head lack lacks g.1 h.1)

-- 4. A sweep over the actors

pub record SweptSoFar (start now : Journalled) (swept : Swept) (most place : ℕ) : Type 0 where
  pub within : swept.fired ≤ most
  pub goes_on : GoesOn is_prompt start now swept.fired
  pub none : swept.changed ≡ false → (now ≡ start) × (swept.fired ≡ 0) × AllWait start.state place swept.due
  pub more : swept.changed ≡ true → length start.entries < length now.entries
  pub ends : 0 < most → most ≤ swept.fired → EndsInFiring now.entries

pub swept_first : (start : Journalled) (most : ℕ) → SweptSoFar start start (record { changed = false; fired = 0; due = None }) most 0
swept_first start most = record {
  within = omega arith;
  goes_on = goes_on_self is_prompt start;
  none = λ h. (refl, refl, λ k low. absurd (omega (arith, low)));
  more = λ h. absurd (cc);
  ends = λ some spent. absurd (omega (arith, some, spent));
}

ends_in_entry : (now next : Journalled) (e : Event) → MakesStep now e sent.Nothing next → is_firing e ≡ true → EndsInFiring next.entries
ends_in_entry now next e steps fires = record { before = now.entries; last = entry_of_row now.state e; is = steps.appends; fires = fires }

-- a poll that changes something
changes : (start now next : Journalled) (was : Swept) (most place : ℕ) (e : Event) (count : ℕ) → SweptSoFar start now was most place → MakesStep now e sent.Nothing next → is_prompt e ≡ true → counts e ≡ count → was.fired + count ≤ most → (most ≤ was.fired + count → is_firing e ≡ true) → length now.entries < journal_length → SweptSoFar start next (record was { changed = true; fired = was.fired + count }) most (place + 1)
changes start now next was most place e count before steps own is low fires few = record {
  within = low;
  goes_on = goes_on_step is_prompt start now next was.fired count before.goes_on (subst (GoesOn is_prompt now next) is (goes_on_entry is_prompt now next e sent.Nothing steps own few));
  none = λ h. absurd (cc);
  more = λ h. omega (arith, not_shorter is_prompt start now was.fired before.goes_on, longer_by_entry now next e sent.Nothing steps);
  ends = λ some spent. ends_in_entry now next e steps (fires spent);
}

later_due : (s : NodeState) (place : ℕ) (due : Option ℕ) (lacks : List (Option Need)) → AllWait s place due → AllWait s place (until_from due lacks)
later_due s place due lacks all k low =
    let w = all k low in
    record { lacks = w.lacks; waits = w.waits; untimed = λ none. w.untimed (none_until due lacks none).0 }

waits_next : (start now next : Journalled) (was : Swept) (most place : ℕ) (lacks : List (Option Need)) → SweptSoFar start now was most place → (next ≡ now) × Waits now.state (actor_id place) lacks → SweptSoFar start next (record was { due = until_from was.due lacks }) most (place + 1)
waits_next start now next was most place lacks before done = record {
  within = before.within;
  goes_on = subst (λ (j : Journalled). GoesOn is_prompt start j was.fired) (sym done.0) before.goes_on;
  none = λ h.
      let so_far = before.none h in
      let here : WaitsFor start.state (actor_id place) (until_from was.due lacks) = record {
        lacks = lacks;
        waits = subst (λ (j : Journalled). Waits j.state (actor_id place) lacks) so_far.0 done.1;
        untimed = λ none. (none_until was.due lacks none).1;
      } in
      (done.0 ∙ so_far.0, so_far.1, below_more (λ k. WaitsFor start.state (actor_id k) (until_from was.due lacks)) place (later_due start.state place was.due lacks so_far.2) here);
  more = λ h. subst (λ (j : Journalled). length start.entries < length j.entries) (sym done.0) (before.more h);
  ends = λ some spent. subst (λ (j : Journalled). EndsInFiring j.entries) (sym done.0) (before.ends some spent);
}

by_told : (start now next : Journalled) (was : Swept) (most place : ℕ) (told : Polled) → SweptSoFar start now was most place → was.fired < most → HasPolled now (actor_id place) told next → length now.entries < journal_length → SweptSoFar start next (swept_by was told) most (place + 1)
by_told start now next was most place (polled.Fired action) before left done few =
    changes start now next was most place (event.Fire (actor_id place) action) 1 before done refl refl (omega (arith, left)) (λ spent. refl) few
by_told start now next was most place (polled.Held port) before left done few =
    let same : was.fired + 0 ≡ was.fired = add-zero was.fired in
    subst (λ (n : ℕ). SweptSoFar start next (record was { changed = true; fired = n }) most (place + 1)) same (changes start now next was most place (event.Peek (actor_id place) port) 0 before done refl refl (omega (arith, left)) (λ spent. absurd (omega (arith, left, spent))) few)
by_told start now next was most place (polled.Waiting lacks) before left done few =
    waits_next start now next was most place lacks before done

pub swept_next : (start now next : Journalled) (was swept : Swept) (most place : ℕ) → SweptSoFar start now was most place → was.fired < most → Polls now (actor_id place) was swept next → length now.entries < journal_length → SweptSoFar start next swept most (place + 1)
swept_next start now next was swept most place before left polls few =
    subst (λ (x : Swept). SweptSoFar start next x most (place + 1)) (sym polls.is) (by_told start now next was most place polls.told before left polls.done few)

-- where as many fired as may, something changed
pub spent_next : (start now : Journalled) (swept : Swept) (most place : ℕ) → 0 < most → most ≤ swept.fired → SweptSoFar start now swept most place → SweptSoFar start now swept most (place + 1)
spent_next start now swept most place some spent before = record {
  within = before.within;
  goes_on = before.goes_on;
  none = λ h. absurd (omega (arith, some, spent, (before.none h).1));
  more = before.more;
  ends = before.ends;
}
