-- Along a record the numbers of all nodes stay few: none is above the number of steps so far.
use Rattle.std.proofs.Common.{◌≡◌, ℕ, zero, suc, ◌<◌, ◌≤◌, Bool, true, false, ◌==◌, cond, List, [], ◌∷◌, ◌++◌, length, Option, Some, None, refl, sym, ap, subst, ◌∙◌, arith, length-append, append_assoc, IfSome, Contains}
use Rattle.std.specs.Prelude.{option_and_then}
use Rattle.std.proofs.lemmas.Bool.Decides.{nat_tests}
use Rattle.std.proofs.lemmas.Grind.{flat_map-append}
use Rattle.std.proofs.lemmas.List.{append-nil}
use Rattle.std.proofs.lemmas.List.Elements.{Contains-append_right}
use Rattle.std.proofs.lemmas.Option.{same_Some, none-some as none_some}
use Rattle.cv_protocol.specs.declared.event.Entry.{Entry}
use Rattle.cv_protocol.specs.declared.event.Event.{Event}
use Rattle.cv_protocol.specs.declared.event.Event.TheVariants as event
use Rattle.cv_protocol.specs.declared.event.Step.{Step}
use Rattle.cv_protocol.specs.declared.frame.Body.{Body}
use Rattle.cv_protocol.specs.declared.frame.Body.TheVariants as body
use Rattle.cv_protocol.specs.declared.frame.Frame.{Frame}
use Rattle.cv_protocol.specs.Journals.{FramesWereSent, did_after, did_at, did_if, entries_of, entry_of, got_frame, next_of, own_entry, replay}
use Rattle.cv_protocol.specs.Laws.{Rises}
use Rattle.cv_protocol.specs.NodeRow.{row, stamp_of}
use Rattle.cv_protocol.specs.NodeState.{NodeState}
use Rattle.cv_protocol.specs.Rows.{Did}
use Rattle.cv_protocol.proofs.Causes.{stamps_rise}
use Rattle.cv_bounds.specs.Few.{AllStill, BodyIsFew, DidFew, GotFew, IsNew, RecordsStayFew, StateIsFew}
use Rattle.cv_bounds.proofs.Raising.{few_weaken}
use Rattle.cv_bounds.proofs.Spending.{raises_by_one}

-- 1. The last entry of several

record LastEntry (s : NodeState) (entries : List Entry) (e : Entry) (u : NodeState) : Type 0 where
  before : NodeState
  replays : replay s entries ≡ Some before
  did : Did
  does : did_at before e ≡ Some did
  leaves : u ≡ did.next

one_entry : (s u : NodeState) (e : Entry) (r : Option Did) → did_at s e ≡ r → option_and_then (λ next. Some next) (next_of r) ≡ Some u → LastEntry s [] e u
one_entry s u e None is h = absurd (none_some u h)
one_entry s u e (Some d) is h = record { before = s; replays = refl; did = d; does = is; leaves = sym (same_Some d.next u h) }

later_entry : (s u : NodeState) (e x : Entry) (entries : List Entry) (r : Option NodeState) → next_of (did_at s x) ≡ r → option_and_then (λ next. replay next (entries ++ e ∷ [])) r ≡ Some u → ((t : NodeState) → replay t (entries ++ e ∷ []) ≡ Some u → LastEntry t entries e u) → LastEntry s (x ∷ entries) e u
later_entry s u e x entries None is h rest = absurd (none_some u h)
later_entry s u e x entries (Some t) is h rest =
    let l = rest t h in
    record {
      before = l.before;
      replays = ap (option_and_then (λ next. replay next entries)) is ∙ l.replays;
      did = l.did;
      does = l.does;
      leaves = l.leaves;
    }

last_entry : (entries : List Entry) (s u : NodeState) (e : Entry) → replay s (entries ++ e ∷ []) ≡ Some u → LastEntry s entries e u
last_entry [] s u e h = one_entry s u e (did_at s e) refl h
last_entry (x ∷ entries) s u e h =
    later_entry s u e x entries (next_of (did_at s x)) refl h (λ t. last_entry entries t u e)

-- what an entry did is its row, at its stamp
record IsRowOf (s : NodeState) (e : Entry) (d : Did) : Type 0 where
  is : row s e.event ≡ Some d
  stamped : e.stamp ≡ stamp_of s e.event

row_if : (s : NodeState) (e : Entry) (d : Did) (b : Bool) → (e.stamp == stamp_of s e.event) ≡ b → did_if b (row s e.event) ≡ Some d → IsRowOf s e d
row_if s e d true same h = record { is = h; stamped = grind (arith, nat_tests, same) }
row_if s e d false same h = absurd (none_some d h)

row_at : (s : NodeState) (e : Entry) (d : Did) → did_at s e ≡ Some d → IsRowOf s e d
row_at s e d h = row_if s e d (e.stamp == stamp_of s e.event) refl h

-- what was done after some entries, from the state that they left
record DidAfter (opening : NodeState) (entries : List Entry) (e : Entry) (d : Did) : Type 0 where
  state : NodeState
  replays : replay opening entries ≡ Some state
  does : did_at state e ≡ Some d

did_from : (opening : NodeState) (entries : List Entry) (e : Entry) (d : Did) (r : Option NodeState) → replay opening entries ≡ r → option_and_then (λ here. did_at here e) r ≡ Some d → DidAfter opening entries e d
did_from opening entries e d None is h = absurd (none_some d h)
did_from opening entries e d (Some s) is h = record { state = s; replays = is; does = h }

-- a list is empty, or has a last element
record Last {X : Type 0} (xs : List X) : Type 0 where
  front : List X
  last : X
  is : xs ≡ front ++ last ∷ []

last_of : {X : Type 0} (x : X) (xs : List X) → Last (x ∷ xs)
last_of x [] = record { front = []; last = x; is = refl }
last_of x (y ∷ xs) =
    let l = last_of y xs in
    record { front = x ∷ l.front; last = l.last; is = ap (λ zs. x ∷ zs) l.is }

-- 2. Numbers of frames

pub body_weaken : (n m : ℕ) (b : Body) → n ≤ m → BodyIsFew n b → BodyIsFew m b
body_weaken n m (body.Token conn a number t) low h = tt
body_weaken n m (body.Ack conn a upto) low h = tt
body_weaken n m (body.Nack conn a upto) low h = tt
body_weaken n m (body.Located a attempt node) low h = omega (arith, low, h)
body_weaken n m (body.Transfer a attempt state) low h = h
body_weaken n m (body.Verdict a attempt v) low h = h
body_weaken n m (body.Cancel a attempt) low h = h
body_weaken n m (body.Destroy app) low h = h

-- the frame that an event gets is few, and so is its stamp
abbrev pub GotLow : ℕ → Option Frame → Type 0
GotLow n None = Unit {0}
GotLow n (Some f) = f.stamp ≤ n

pub stamp_low : (n : ℕ) (s : NodeState) (e : Event) → s.stamp ≤ n → GotLow n (got_frame e) → stamp_of s e ≤ suc n
stamp_low n s (event.Lose f) low got = omega (arith, low, got)
stamp_low n s (event.Deliver f) low got = omega (arith, low, got)
stamp_low n s (event.Meet node attrs) low got = omega (arith, low)
stamp_low n s (event.Deploy name net) low got = omega (arith, low)
stamp_low n s (event.Tick now) low got = omega (arith, low)
stamp_low n s (event.Peek a port) low got = omega (arith, low)
stamp_low n s (event.Fire a action) low got = omega (arith, low)
stamp_low n s (event.Pass conn) low got = omega (arith, low)
stamp_low n s (event.Send conn) low got = omega (arith, low)
stamp_low n s (event.Rewind conn) low got = omega (arith, low)
stamp_low n s (event.Freeze a to) low got = omega (arith, low)
stamp_low n s (event.Resend a) low got = omega (arith, low)
stamp_low n s (event.Withdraw a) low got = omega (arith, low)
stamp_low n s (event.Hint a attempt node) low got = omega (arith, low)
stamp_low n s (event.Destroy app) low got = omega (arith, low)

state_weaken : (n m : ℕ) (s : NodeState) → n ≤ m → StateIsFew n s → StateIsFew m s
state_weaken n m s low h = record { stamp = omega (arith, low, h.stamp); few = few_weaken n m s low h.few }

-- 3. Along a record

module _ (openings : ℕ → NodeState) (m : List Step) (sent : FramesWereSent openings m) (still : AllStill m) (new : (i : ℕ) → IsNew (openings i)) where
  -- a step of the record, with what it did
  record Made (before : List Step) (step : Step) (d : Did) : Type 0 where
    did : DidFew (suc (length before)) d
    stamp : step.stamp ≤ suc (length before)

  -- what holds of the first k steps
  record Sound (k : ℕ) : Type 0 where
    states : (begins rest : List Step) (i : ℕ) (s : NodeState) → m ≡ begins ++ rest → length begins ≤ k → replay (openings i) (entries_of i begins) ≡ Some s → StateIsFew (length begins) s
    steps : (before after : List Step) (step : Step) (d : Did) → m ≡ before ++ step ∷ after → length before < k → did_after (openings step.node) (entries_of step.node before) (entry_of step) ≡ Some d → Made before step d

  there : (before after : List Step) (step : Step) → m ≡ before ++ step ∷ after → Contains m step
  there before after step is = subst (λ (xs : List Step). Contains xs step) (sym is) (Contains-append_right before (step ∷ after) step (zero, omega arith, refl))

  module _ (k : ℕ) (sound : Sound k) where
    -- what a step got was few
    got_by : (before after : List Step) (step : Step) (f : Frame) → m ≡ before ++ step ∷ after → length before ≤ k → got_frame step.event ≡ Some f → BodyIsFew (length before) f.body × (f.stamp ≤ length before)
    got_by before after step f is low got =
        let by = sent before after step f is got in
        let whole : m ≡ by.before ++ by.step ∷ (by.after ++ step ∷ after) = is ∙ ap (λ (xs : List Step). xs ++ step ∷ after) by.stands ∙ append_assoc by.before (by.step ∷ by.after) (step ∷ after) in
        let shorter : suc (length by.before) ≤ length before = omega (arith, ap length by.stands, length-append by.before (by.step ∷ by.after)) in
        let does : did_after (openings by.step.node) (entries_of by.step.node by.before) (entry_of by.step) ≡ Some by.sends.did = subst (λ (i : ℕ). did_after (openings i) (entries_of i by.before) (entry_of by.step) ≡ Some by.sends.did) (sym by.by_sender) by.sends.does in
        let made = sound.steps by.before (by.after ++ step ∷ after) by.step by.sends.did whole (omega (arith, shorter, low)) does in
        (body_weaken (suc (length by.before)) (length before) f.body shorter (made.did.sends f by.sends.sent), omega (arith, made.stamp, by.stamped, shorter))

    got_few : (before after : List Step) (step : Step) (o : Option Frame) → m ≡ before ++ step ∷ after → length before ≤ k → got_frame step.event ≡ o → GotFew (length before) o × GotLow (length before) o
    got_few before after step None is low got = (tt, tt)
    got_few before after step (Some f) is low got = got_by before after step f is low got

    step_made : (before after : List Step) (step : Step) (d : Did) → m ≡ before ++ step ∷ after → length before ≤ k → did_after (openings step.node) (entries_of step.node before) (entry_of step) ≡ Some d → Made before step d
    step_made before after step d is low does =
        let from = did_from (openings step.node) (entries_of step.node before) (entry_of step) d (replay (openings step.node) (entries_of step.node before)) refl does in
        let here = sound.states before (step ∷ after) step.node from.state is low from.replays in
        let got = got_few before after step (got_frame step.event) is low refl in
        let rows = row_at from.state (entry_of step) d from.does in
        let few = raises_by_one (length before) from.state step.event (still step (there before after step is)) got.0 here.few in
        record {
          did = subst (λ (r : Option Did). IfSome r (DidFew (suc (length before)))) rows.is few;
          stamp = omega (arith, rows.stamped, stamp_low (length before) from.state step.event here.stamp got.1);
        }

    -- the state of the node that made the last step
    own_state : (front rest : List Step) (step : Step) (s : NodeState) → m ≡ front ++ step ∷ rest → length front ≤ k → replay (openings step.node) (entries_of step.node front ++ entry_of step ∷ []) ≡ Some s → StateIsFew (suc (length front)) s
    own_state front rest step s is low replays =
        let l = last_entry (entries_of step.node front) (openings step.node) s (entry_of step) replays in
        let does : did_after (openings step.node) (entries_of step.node front) (entry_of step) ≡ Some l.did = ap (option_and_then (λ here. did_at here (entry_of step))) l.replays ∙ l.does in
        let made = step_made front rest step l.did is low does in
        let rows = row_at l.before (entry_of step) l.did l.does in
        let rises = subst (λ (r : Option Did). IfSome r (Rises l.before step.event)) rows.is (stamps_rise l.before step.event) in
        subst (StateIsFew (suc (length front))) (sym l.leaves) (record { stamp = omega (arith, rises.0, rows.stamped, made.stamp); few = made.did.next })

    state_by : (front rest : List Step) (step : Step) (i : ℕ) (s : NodeState) (b : Bool) → (step.node == i) ≡ b → m ≡ front ++ step ∷ rest → length front ≤ k → replay (openings i) (entries_of i front ++ cond b (entry_of step ∷ []) []) ≡ Some s → StateIsFew (suc (length front)) s
    state_by front rest step i s true same is low replays =
        let node : step.node ≡ i = grind (arith, nat_tests, same) in
        own_state front rest step s is low (subst (λ (j : ℕ). replay (openings j) (entries_of j front ++ entry_of step ∷ []) ≡ Some s) (sym node) replays)
    state_by front rest step i s false same is low replays =
        state_weaken (length front) (suc (length front)) s (omega arith) (sound.states front (step ∷ rest) i s is low (ap (replay (openings i)) (sym (append-nil (entries_of i front))) ∙ replays))

    last_state : (begins rest front : List Step) (step : Step) (i : ℕ) (s : NodeState) → begins ≡ front ++ step ∷ [] → m ≡ begins ++ rest → length begins ≤ suc k → replay (openings i) (entries_of i begins) ≡ Some s → StateIsFew (length begins) s
    last_state begins rest front step i s split is low replays =
        let long : length begins ≡ suc (length front) = omega (arith, ap length split, length-append front (step ∷ [])) in
        let whole : m ≡ front ++ step ∷ rest = is ∙ ap (λ (xs : List Step). xs ++ rest) split ∙ append_assoc front (step ∷ []) rest in
        let parts : entries_of i begins ≡ entries_of i front ++ cond (step.node == i) (entry_of step ∷ []) [] =
        ap (entries_of i) split ∙ flat_map-append (own_entry i) front (step ∷ []) ∙ ap (λ (es : List Entry). entries_of i front ++ es) (append-nil (own_entry i step)) in
        subst (λ (n : ℕ). StateIsFew n s) (sym long) (state_by front rest step i s (step.node == i) refl whole (omega (arith, long, low)) (ap (replay (openings i)) (sym parts) ∙ replays))

    next_state : (begins rest : List Step) (i : ℕ) (s : NodeState) → m ≡ begins ++ rest → length begins ≤ suc k → replay (openings i) (entries_of i begins) ≡ Some s → StateIsFew (length begins) s
    next_state [] rest i s is low replays = sound.states [] rest i s is (omega arith) replays
    next_state (b ∷ begins) rest i s is low replays =
        let l = last_of b begins in last_state (b ∷ begins) rest l.front l.last i s l.is is low replays

    next_sound : Sound (suc k)
    next_sound = record {
      states = next_state;
      steps = λ before after step d is low does. step_made before after step d is (omega (arith, low)) does;
    }

  first_state : (begins rest : List Step) (i : ℕ) (s : NodeState) → m ≡ begins ++ rest → length begins ≤ 0 → replay (openings i) (entries_of i begins) ≡ Some s → StateIsFew (length begins) s
  first_state [] rest i s is low replays =
      subst (StateIsFew 0) (same_Some (openings i) s replays) (record { stamp = omega (arith, (new i).unstamped); few = (new i).few })
  first_state (b ∷ begins) rest i s is low replays = absurd (omega (arith, low))

  all_sound : (k : ℕ) → Sound k
  all_sound zero = record {
    states = first_state;
    steps = λ before after step d is low does. absurd (omega (arith, low));
  }
  all_sound (suc k) = next_sound k (all_sound k)

  -- what a step got is few
  pub got_stays_few : (before after : List Step) (step : Step) → m ≡ before ++ step ∷ after → GotFew (length before) (got_frame step.event)
  got_stays_few before after step is =
      (got_few (length before) (all_sound (length before)) before after step (got_frame step.event) is (omega arith) refl).0

  -- and so is what a step sends, and its stamp
  pub sent_stays_few : (before after : List Step) (step : Step) (f : Frame) (d : Did) → m ≡ before ++ step ∷ after → did_after (openings step.node) (entries_of step.node before) (entry_of step) ≡ Some d → Contains d.sends f → BodyIsFew (length m) f.body × (step.stamp ≤ length m)
  sent_stays_few before after step f d is does there =
      let made = (all_sound (suc (length before))).steps before after step d is (omega arith) does in
      let long : suc (length before) ≤ length m = omega (arith, ap length is, length-append before (step ∷ after)) in
      let stamp = made.stamp in
      (body_weaken (suc (length before)) (length m) f.body long (made.did.sends f there), omega (arith, stamp, long))

pub records_stay_few : RecordsStayFew
records_stay_few openings journals m of local sent still new begins rest i s is replays =
    (all_sound openings m sent still new (length begins)).states begins rest i s is (omega arith) replays
