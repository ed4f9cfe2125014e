-- A station's acts keep what the items say of each of its links.
use Rattle.std.proofs.Common.{◌≡◌, ◌≢◌, ◌⊎◌, inl, inr, ℕ, zero, suc, ◌+◌, ◌<◌, ◌≤◌, ◌^◌, ◌==◌, Bool, true, false, if◌then◌else◌, List, [], ◌∷◌, ◌++◌, map, length, slice_get, Some, None, refl, sym, ◌∙◌, ap, subst, arith, append-nil}
use Rattle.std.specs.List.{flat_map}
use Rattle.std.proofs.lemmas.Bool.Decides.{nat_tests}
use Rattle.std.proofs.lemmas.Grind.{flat_map-append}
use Rattle.std.proofs.lemmas.List.{length-append, length-map}
use Rattle.std.proofs.lemmas.List.Folds.{flat_map-map}
use Rattle.std.proofs.lemmas.Option.{same_Some}
use Rattle.cv_node.specs.Counts.{journal_length}
use Rattle.cv_protocol.specs.declared.event.Entry.{Entry}
use Rattle.cv_protocol.specs.declared.event.Event.{Event}
use Rattle.cv_protocol.specs.declared.event.Event.TheVariants as event
use Rattle.cv_protocol.specs.Journals.{got_frame}
use Rattle.cv_merge.specs.Lanes.{AllAbove, Ascends}
use Rattle.cv_link.specs.declared.items.Item.{Item}
use Rattle.cv_link.specs.declared.plan.Taken.{Taken}
use Rattle.cv_link.specs.declared.plan.Taken.TheVariants as told
use Rattle.cv_link.specs.Items.{LinkView, link_of}
use Rattle.cv_link.specs.Plan.{PlanView, IsJudged, Tells, counted, frame_of, number_after}
use Rattle.cv_link.specs.Planned.{IsAsPlanned}
use Rattle.cv_link.proofs.Words.{as_planned}
use Rattle.cv_station.specs.Acts.{Act, Does, Comes, EachAct, IsAct, IsWhole, events_of, events_in, told_by, TellsAll}
use Rattle.cv_mesh.specs.Links.{came_event, came_from, IsAsItemsSay}
use Rattle.cv_mesh.specs.Keeping.{Planned}

-- 1. Numbers that ascend differ

above_at : (n : ℕ) (ns : List ℕ) (j m : ℕ) → AllAbove n ns → slice_get ns j ≡ Some m → n < m
above_at n [] j m above is = absurd (cc)
above_at n (k ∷ ns) zero m above is = let same : k ≡ m = cc in omega (arith, same, above.0)
above_at n (k ∷ ns) (suc j) m above is = above_at n ns j m above.1 is

pub one_place : (ns : List ℕ) → Ascends ns → (i j n : ℕ) → slice_get ns i ≡ Some n → slice_get ns j ≡ Some n → i ≡ j
one_place [] ascend i j n at_i at_j = absurd (cc)
one_place (k ∷ ns) ascend zero zero n at_i at_j = refl
one_place (k ∷ ns) ascend zero (suc j) n at_i at_j =
    let same : k ≡ n = cc in absurd (omega (arith, same, above_at k ns j n ascend.0 at_j))
one_place (k ∷ ns) ascend (suc i) zero n at_i at_j =
    let same : k ≡ n = cc in absurd (omega (arith, same, above_at k ns i n ascend.0 at_i))
one_place (k ∷ ns) ascend (suc i) (suc j) n at_i at_j = ap suc (one_place ns ascend.1 i j n at_i at_j)

-- 2. What the acts say of the frames of one peer

-- each frame that came is from the node whose place it came from
abbrev pub ComesFrom : List ℕ → Act → Type 0
ComesFrom numbers (Does e) = Unit {0}
ComesFrom numbers (Comes peer t done) = slice_get numbers peer ≡ Some (frame_of t).from

same_number : (n from : ℕ) → n ≡ from → (n == from) ≡ true
same_number n from is = grind (arith, nat_tests, is)

other_number : (n from : ℕ) → n ≢ from → (n == from) ≡ false
other_number n from is = by_test (n == from) refl
  where
    by_test : (b : Bool) → (n == from) ≡ b → b ≡ false
    by_test true t = absurd (is (grind (arith, nat_tests, t)))
    by_test false t = refl

came_mine : (from : ℕ) (t : Taken) → (frame_of t).from ≡ from → flat_map (came_event from) (events_of t) ≡ events_of t
came_mine from (told.Deliver f) is = ap (λ b. (if b then event.Deliver f ∷ [] else []) ++ []) (same_number f.from from is)
came_mine from (told.Twice f) is =
    ap (λ b. (if b then event.Deliver f ∷ [] else []) ++ ((if b then event.Deliver f ∷ [] else []) ++ [])) (same_number f.from from is)
came_mine from (told.Lost f) is = ap (λ b. (if b then event.Lose f ∷ [] else []) ++ []) (same_number f.from from is)

came_others : (from : ℕ) (t : Taken) → (frame_of t).from ≢ from → flat_map (came_event from) (events_of t) ≡ []
came_others from (told.Deliver f) is = ap (λ b. (if b then event.Deliver f ∷ [] else []) ++ []) (other_number f.from from is)
came_others from (told.Twice f) is =
    ap (λ b. (if b then event.Deliver f ∷ [] else []) ++ ((if b then event.Deliver f ∷ [] else []) ++ [])) (other_number f.from from is)
came_others from (told.Lost f) is = ap (λ b. (if b then event.Lose f ∷ [] else []) ++ []) (other_number f.from from is)

own_came : (from : ℕ) (e : Event) → got_frame e ≡ None → came_event from e ≡ []
own_came from (event.Deliver f) none = absurd (cc)
own_came from (event.Lose f) none = absurd (cc)
own_came from (event.Meet node attrs) none = refl
own_came from (event.Deploy name net) none = refl
own_came from (event.Tick now) none = refl
own_came from (event.Peek a port) none = refl
own_came from (event.Fire a action) none = refl
own_came from (event.Pass conn) none = refl
own_came from (event.Send conn) none = refl
own_came from (event.Rewind conn) none = refl
own_came from (event.Freeze a to) none = refl
own_came from (event.Resend a) none = refl
own_came from (event.Withdraw a) none = refl
own_came from (event.Hint a attempt node) none = refl
own_came from (event.Destroy app) none = refl

module _ (numbers : List ℕ) (ascend : Ascends numbers) (j from : ℕ) (there : slice_get numbers j ≡ Some from) where
  came_if : (peer : ℕ) (t : Taken) (b : Bool) → (peer == j) ≡ b → slice_get numbers peer ≡ Some (frame_of t).from → flat_map (came_event from) (events_of t) ≡ flat_map events_of (if b then t ∷ [] else [])
  came_if peer t true is at =
      let same : peer ≡ j = grind (arith, nat_tests, is) in
      let number : (frame_of t).from ≡ from = same_Some _ _ (sym at ∙ ap (slice_get numbers) same ∙ there) in
      came_mine from t number ∙ sym (append-nil (events_of t))
  came_if peer t false is at =
      came_others from t (λ same.
      let place : peer ≡ j = one_place numbers ascend peer j from (at ∙ ap Some same) there in
      absurd (let test : (peer == j) ≡ true = grind (arith, nat_tests, place) in cc))

  came_by : (a : Act) → IsAct a → IsWhole a → ComesFrom numbers a → flat_map (came_event from) (events_in a) ≡ flat_map events_of (told_by j a)
  came_by (Does e) is whole comes = ap (λ xs. xs ++ []) (own_came from e is)
  came_by (Comes peer t done) is whole comes =
      ap (flat_map (came_event from)) whole ∙ came_if peer t (peer == j) refl comes

  pub came_in : (acts : List Act) → EachAct IsAct acts → EachAct IsWhole acts → EachAct (ComesFrom numbers) acts → flat_map (came_event from) (flat_map events_in acts) ≡ flat_map events_of (flat_map (told_by j) acts)
  came_in [] are whole comes = refl
  came_in (a ∷ acts) are whole comes =
      flat_map-append (came_event from) (events_in a) (flat_map events_in acts)
      ∙ ap (λ xs. xs ++ flat_map (came_event from) (flat_map events_in acts)) (came_by a are.0 whole.0 comes.0)
      ∙ ap (λ xs. flat_map events_of (told_by j a) ++ xs) (came_in acts are.1 whole.1 comes.1)
      ∙ sym (flat_map-append events_of (told_by j a) (flat_map (told_by j) acts))

-- 3. What was told of them

weaker : (items : List Item) (from to since k : ℕ) (t : Taken) → since ≤ k → IsAsPlanned items from to since k (frame_of t) t → IsAsItemsSay items from to k t
weaker items from to since k (told.Lost f) low h =
    elim h.1 [ inl l ↦ inl l | inr c ↦ inr (c.0, c.1, c.3) ]
weaker items from to since k (told.Twice f) low h =
    (λ must. h.1 (elim must [ inl l ↦ inl l | inr c ↦ inr (k, c, low, omega arith) ]), h.2)
weaker items from to since k (told.Deliver f) low h =
    (λ must. h.1 (elim must [ inl l ↦ inl l | inr c ↦ inr (k, c, low, omega arith) ]), h.2)

-- what a plan has told of k frames and these
record Goes (items : List Item) (from to : ℕ) (p q : PlanView) (tellings : List Taken) : Type 0 where
  link : q.items ≡ link_of from to items
  next : q.next ≡ p.next + length tellings
  since : q.since ≤ q.next
  each : (k : ℕ) (t : Taken) → slice_get tellings k ≡ Some t → IsAsItemsSay items from to (p.next + k) t

told_so : (items : List Item) (from to : ℕ) (p : PlanView) (t : Taken) → p.items ≡ link_of from to items → p.since ≤ p.next → Tells p (frame_of t) t → IsAsItemsSay items from to p.next t
told_so items from to p t its low tells =
    weaker items from to p.since p.next t low
    (as_planned items from to p.since p.next (frame_of t) t (subst (λ (l : LinkView). IsJudged l p.since p.next (frame_of t) t) its tells))

goes_first : (items : List Item) (from to : ℕ) (p q : PlanView) (t : Taken) (ts : List Taken) → p.next + 1 < 2 ^ 64 → IsAsItemsSay items from to p.next t → Goes items from to (counted p) q ts → Goes items from to p q (t ∷ ts)
goes_first items from to p q t ts small first later =
    let up : number_after p.next ≡ p.next + 1 = omega arith in record {
      link = later.link;
      next = omega (arith, later.next, up);
      since = later.since;
      each = λ k u is. each_at k u is;
    }
  where
    each_at : (k : ℕ) (u : Taken) → slice_get (t ∷ ts) k ≡ Some u → IsAsItemsSay items from to (p.next + k) u
    each_at zero u is =
        let same : t ≡ u = same_Some t u is in
        subst (λ (n : ℕ). IsAsItemsSay items from to n u) (omega arith) (subst (λ (x : Taken). IsAsItemsSay items from to p.next x) same first)
    each_at (suc k) u is =
        let up : number_after p.next ≡ p.next + 1 = omega arith in
        subst (λ (n : ℕ). IsAsItemsSay items from to n u) (omega (arith, up)) (later.each k u is)

goes_all : (items : List Item) (from to : ℕ) (ts : List Taken) (p q : PlanView) → p.items ≡ link_of from to items → p.since ≤ p.next → p.next + length ts < 2 ^ 64 → TellsAll p ts q → Goes items from to p q ts
goes_all items from to [] p q its low small same = record {
  link = ap (λ (x : PlanView). x.items) same ∙ its;
  next = ap (λ (x : PlanView). x.next) same ∙ omega arith;
  since = subst (λ (x : PlanView). x.since ≤ x.next) (sym same) low;
  each = λ k t is. absurd (cc);
}
goes_all items from to (t ∷ ts) p q its low small tells =
    let up : number_after p.next ≡ p.next + 1 = omega arith in
    goes_first items from to p q t ts (omega arith) (told_so items from to p t its low tells.0)
    (goes_all items from to ts (counted p) q its (omega (arith, up)) (omega (arith, up)) tells.1)

-- 4. A link, after the acts of a station

count_events : (t : Taken) → 1 ≤ length (events_of t)
count_events (told.Deliver f) = omega arith
count_events (told.Twice f) = omega arith
count_events (told.Lost f) = omega arith

told_if : (t : Taken) (done : List Event) (b : Bool) → done ≡ events_of t → length (if b then t ∷ [] else []) ≤ length done
told_if t done true whole = let e = ap length whole in omega (arith, e, count_events t)
told_if t done false whole = omega arith

told_few : (j : ℕ) (a : Act) → IsWhole a → length (told_by j a) ≤ length (events_in a)
told_few j (Does e) whole = omega arith
told_few j (Comes peer t done) whole = told_if t done (peer == j) whole

all_told_few : (j : ℕ) (acts : List Act) → EachAct IsWhole acts → length (flat_map (told_by j) acts) ≤ length (flat_map events_in acts)
all_told_few j [] whole = omega arith
all_told_few j (a ∷ acts) whole =
    omega (arith, told_few j a whole.0, all_told_few j acts whole.1, length-append (told_by j a) (flat_map (told_by j) acts), length-append (events_in a) (flat_map events_in acts))

-- an element of two lists in a row
record InSecond {X : Type 0} (xs ys : List X) (k : ℕ) (x : X) : Type 0 where
  place : ℕ
  is : k ≡ length xs + place
  at : slice_get ys place ≡ Some x

in_either : {X : Type 0} (xs ys : List X) (k : ℕ) (x : X) → slice_get (xs ++ ys) k ≡ Some x → (slice_get xs k ≡ Some x) ⊎ InSecond xs ys k x
in_either [] ys k x at = inr (record { place = k; is = omega arith; at = at })
in_either (y ∷ xs) ys zero x at = inl at
in_either (y ∷ xs) ys (suc k) x at =
    elim (in_either xs ys k x at) [ inl here ↦ inl here | inr there ↦ inr (record { place = there.place; is = (let e = there.is in omega (arith, e)); at = there.at }) ]

came_more : (from : ℕ) (old more : List Entry) (events : List Event) → map (λ (e : Entry). e.event) more ≡ events → came_from from (old ++ more) ≡ came_from from old ++ flat_map (came_event from) events
came_more from old more events is =
    flat_map-append (λ (e : Entry). came_event from e.event) old more
    ∙ ap (λ xs. came_from from old ++ xs) (sym (flat_map-map (came_event from) (λ (e : Entry). e.event) more) ∙ ap (flat_map (came_event from)) is)

module _ (items : List Item) (numbers : List ℕ) (ascend : Ascends numbers) (j from to : ℕ) (there : slice_get numbers j ≡ Some from) where
  pub planned_on : (acts : List Act) (old new more : List Entry) (p q : PlanView) → new ≡ old ++ more → map (λ (e : Entry). e.event) more ≡ flat_map events_in acts → length new ≤ journal_length → EachAct IsAct acts → EachAct IsWhole acts → EachAct (ComesFrom numbers) acts → TellsAll p (flat_map (told_by j) acts) q → Planned items from to old p → Planned items from to new q
  planned_on acts old new more p q grown events few are whole comes tells k =
      let fresh = flat_map (told_by j) acts in
      let as_many : length more ≡ length (flat_map events_in acts) = sym (length-map more (λ (e : Entry). e.event)) ∙ ap length events in
      let long : length new ≡ length old + length more = ap length grown ∙ length-append old more in
      let small : p.next + length fresh < 2 ^ 64 = omega (arith, all_told_few j acts whole, as_many, long, few, k.next, k.few) in
      let goes = goes_all items from to fresh p q k.link k.since small tells in
      record {
        tellings = k.tellings ++ fresh;
        came = ap (came_from from) grown ∙ came_more from old more (flat_map events_in acts) events
            ∙ ap (λ xs. xs ++ flat_map (came_event from) (flat_map events_in acts)) k.came
            ∙ ap (λ xs. flat_map events_of k.tellings ++ xs) (came_in numbers ascend j from there acts are whole comes)
            ∙ sym (flat_map-append events_of k.tellings fresh);
        each = λ n t at. elim (in_either k.tellings fresh n t at) [
          | inl here ↦ k.each n t here
          | inr later ↦ let is = later.is in let next = k.next in subst (λ (m : ℕ). IsAsItemsSay items from to m t) (omega (arith, is, next)) (goes.each later.place t later.at)
        ];
        link = goes.link;
        next = omega (arith, goes.next, k.next, length-append k.tellings fresh);
        since = goes.since;
        few = omega (arith, all_told_few j acts whole, as_many, long, k.few, length-append k.tellings fresh);
      }
