-- Time goes on only where nothing else can happen.
use Rattle.std.proofs.Common.{◌≡◌, ◌⊎◌, inl, inr, ℕ, ◌&&◌, Bool, true, false, List, [], ◌∷◌, ◌++◌, refl, ap, sym, ◌∙◌, subst}
use Rattle.std.proofs.lemmas.List.{append-nil}
use Rattle.cv_protocol.specs.declared.event.Entry.{Entry}
use Rattle.cv_protocol.specs.declared.event.Event.{Event}
use Rattle.cv_protocol.specs.declared.event.Event.TheVariants as event
use Rattle.cv_protocol.specs.declared.event.Sent.TheVariants as sent
use Rattle.cv_protocol.specs.NodeState.{NodeState}
use Rattle.cv_protocol.specs.Journals.{replay}
use Rattle.cv_node.specs.Journalled.{IsReplay, Journalled, MakesStep, entry_of_row}
use Rattle.cv_alone.specs.Going.{GoesOn, all_may, is_own, is_prompt}
use Rattle.cv_alone.specs.Resting.{IsAtRest, IsPatient}
use Rattle.cv_alone.specs.Turns.{StaysPatient}

-- 1. Where an element of two lists in a row stands

abbrev InFirst : {X : Type 0} → List X → List X → X → Type 0
InFirst {X} xs before x = (rest : List X) × (xs ≡ before ++ x ∷ rest)

abbrev InSecond : {X : Type 0} → List X → List X → List X → X → List X → Type 0
InSecond {X} xs ys before x after = (middle : List X) × (before ≡ xs ++ middle) × (ys ≡ middle ++ x ∷ after)

parted : {X : Type 0} (xs ys before after : List X) (x : X) → xs ++ ys ≡ before ++ x ∷ after → InFirst xs before x ⊎ InSecond xs ys before x after
parted [] ys before after x is = inr (before, refl, is)
parted (y ∷ xs) ys [] after x is = inl (xs, cc)
parted (y ∷ xs) ys (b ∷ before) after x is =
    let same : y ≡ b = cc in
    let tail : xs ++ ys ≡ before ++ x ∷ after = cc in
    elim (parted xs ys before after x tail) [
      | inl first ↦ inl (first.0, cc)
      | inr second ↦ inr (second.0, cc, second.2)
    ]

-- 2. At one moment

both_true : (a b : Bool) → a && b ≡ true → (a ≡ true) × (b ≡ true)
both_true true b h = (refl, h)
both_true false b h = absurd (cc)

prompt_is_own : (e : Event) → is_prompt e ≡ true → is_own e ≡ true
prompt_is_own (event.Peek a port) h = refl
prompt_is_own (event.Fire a action) h = refl
prompt_is_own (event.Pass conn) h = refl
prompt_is_own (event.Tick now) h = refl
prompt_is_own (event.Meet node attrs) h = h
prompt_is_own (event.Deploy name net) h = h
prompt_is_own (event.Send conn) h = h
prompt_is_own (event.Rewind conn) h = h
prompt_is_own (event.Freeze a to) h = h
prompt_is_own (event.Resend a) h = h
prompt_is_own (event.Withdraw a) h = h
prompt_is_own (event.Hint a attempt node) h = h
prompt_is_own (event.Destroy app) h = h
prompt_is_own (event.Lose f) h = h
prompt_is_own (event.Deliver f) h = h

own_and : (own : Bool) (rest : Bool) → own ≡ true → rest ≡ true → own && rest ≡ true
own_and true rest o r = r
own_and false rest o r = o

prompt_are_own : (entries : List Entry) → all_may is_prompt entries ≡ true → all_may is_own entries ≡ true
prompt_are_own [] h = refl
prompt_are_own (e ∷ entries) h =
    let parts = both_true (is_prompt e.event) (all_may is_prompt entries) h in
    own_and (is_own e.event) (all_may is_own entries) (prompt_is_own e.event parts.0) (prompt_are_own entries parts.1)

pub goes_own : (a b : Journalled) (n : ℕ) → GoesOn is_prompt a b n → GoesOn is_own a b n
goes_own a b n g = record {
  more = g.more;
  appends = g.appends;
  own = prompt_are_own g.more g.own;
  firings = g.firings;
  based = g.based;
  few = g.few;
}

no_tick : (entries before after : List Entry) (stamp now : ℕ) → all_may is_prompt entries ≡ true → entries ≡ before ++ record { stamp = stamp; event = event.Tick now } ∷ after → ⊥
no_tick [] [] after stamp now h is = absurd (cc)
no_tick [] (b ∷ before) after stamp now h is = absurd (cc)
no_tick (e ∷ entries) [] after stamp now h is =
    let same : e ≡ record { stamp = stamp; event = event.Tick now } = cc in
    let prompt : is_prompt (event.Tick now) ≡ true = subst (λ (x : Entry). is_prompt x.event ≡ true) same (both_true (is_prompt e.event) (all_may is_prompt entries) h).0 in
    absurd (cc)
no_tick (e ∷ entries) (b ∷ before) after stamp now h is =
    let tail : entries ≡ before ++ record { stamp = stamp; event = event.Tick now } ∷ after = cc in
    no_tick entries before after stamp now (both_true (is_prompt e.event) (all_may is_prompt entries) h).1 tail

-- 3. A journal stays patient

pub prompt_patient : (actors connections : ℕ) (a b : Journalled) (n : ℕ) → GoesOn is_prompt a b n → StaysPatient actors connections a b
prompt_patient actors connections a b n g patient before after stamp now is =
    elim (parted a.entries g.more before after (record { stamp = stamp; event = event.Tick now }) (sym g.appends ∙ is)) [
      | inl first ↦ (let s = patient before first.0 stamp now first.1 in (s.0, ap (λ (base : NodeState). replay base before) g.based ∙ s.1, s.2))
      | inr second ↦ absurd (no_tick g.more second.0 after stamp now g.own second.2)
    ]

-- the one entry of a list stands behind nothing
alone : (e x : Entry) (middle after : List Entry) → e ∷ [] ≡ middle ++ x ∷ after → middle ≡ []
alone e x [] after is = refl
alone e x (m ∷ []) after is = absurd (cc)
alone e x (m ∷ n ∷ middle) after is = absurd (cc)

pub tick_patient : (actors connections : ℕ) (a b : Journalled) (moment : ℕ) → IsReplay a.base a.state a.entries → MakesStep a (event.Tick moment) sent.Nothing b → IsAtRest a.state actors connections → StaysPatient actors connections a b
tick_patient actors connections a b moment kept steps rest patient before after stamp now is =
    elim (parted a.entries (entry_of_row a.state (event.Tick moment) ∷ []) before after (record { stamp = stamp; event = event.Tick now }) (sym steps.appends ∙ is)) [
      | inl first ↦ (let s = patient before first.0 stamp now first.1 in (s.0, ap (λ (base : NodeState). replay base before) steps.based ∙ s.1, s.2))
      | inr second ↦
          let none = alone (entry_of_row a.state (event.Tick moment)) (record { stamp = stamp; event = event.Tick now }) second.0 after second.2 in
          let all : before ≡ a.entries = second.1 ∙ ap (λ (xs : List Entry). a.entries ++ xs) none ∙ append-nil a.entries in
          (a.state, ap (λ (base : NodeState). replay base before) steps.based ∙ ap (λ (es : List Entry). replay a.base es) all ∙ kept.replays, rest)
    ]

-- a journal of a deployment alone
pub deployed_patient : (actors connections : ℕ) (base : NodeState) (stamp : ℕ) (e : Event) → ((now : ℕ) → e ≡ event.Tick now → ⊥) → IsPatient actors connections base (record { stamp = stamp; event = e } ∷ [])
deployed_patient actors connections base stamp e no_time [] after at now is =
    let same : record { stamp = stamp; event = e } ≡ record { stamp = at; event = event.Tick now } = cc in
    absurd (no_time now (ap (λ (x : Entry). x.event) same))
deployed_patient actors connections base stamp e no_time (b ∷ before) after at now is =
    absurd (no_more b before (record { stamp = at; event = event.Tick now }) after is)
  where
    no_more : (b : Entry) (before : List Entry) (x : Entry) (after : List Entry) → record { stamp = stamp; event = e } ∷ [] ≡ b ∷ before ++ x ∷ after → ⊥
    no_more b [] x after is = absurd (cc)
    no_more b (c ∷ before) x after is = absurd (cc)
