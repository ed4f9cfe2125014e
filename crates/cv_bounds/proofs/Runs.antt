-- In runs of several nodes each actor waits less than a duration, and no event is refused for a number.
use Rattle.std.proofs.Common.{◌≡◌, ℕ, zero, suc, ◌+◌, ◌<◌, ◌≤◌, ◌^◌, List, [], ◌∷◌, ◌++◌, length, slice_set, Option, Some, None, Contains, refl, sym, ap, subst, ◌∙◌, arith, length-append}
use Rattle.std.proofs.lemmas.List.{append-nil}
use Rattle.std.proofs.lemmas.List.Elements.{Contains-append_right}
use Rattle.cv_protocol.specs.declared.event.Entry.{Entry}
use Rattle.cv_protocol.specs.declared.event.Event.{Event}
use Rattle.cv_protocol.specs.declared.event.Event.TheVariants as event
use Rattle.cv_protocol.specs.declared.event.Step.{Step}
use Rattle.cv_protocol.specs.declared.frame.Frame.{Frame}
use Rattle.cv_protocol.specs.declared.refusal.StepRefusal.TheVariants as refusal
use Rattle.cv_protocol.specs.Journals.{FramesWereSent, IsRecordOf, did_after, entries_of, entry_of, got_frame, own_entry, replay}
use Rattle.cv_protocol.specs.NodeRow.{cause_of}
use Rattle.cv_protocol.specs.NodeState.{NodeState}
use Rattle.cv_merge.specs.Choice.{least_from}
use Rattle.cv_merge.specs.Lanes.{Ascends, Lane, NothingLeft, TakesLeast, entries_at, numbers, total}
use Rattle.cv_merge.specs.Laws.{IsSentIn}
use Rattle.cv_merge.proofs.Bridge.{cut_at, sent_before}
use Rattle.cv_merge.proofs.Parts.{rest_of}
use Rattle.cv_merge.proofs.Sorting.{own_is}
use Rattle.cv_merge.proofs.Steps.{Listed, listed_all, listed_more, listed_none}
use Rattle.cv_merge.proofs.Taking.{cut, nothing_left, takes_at}
use Rattle.cv_bounds.specs.Few.{AllStill, BodyIsFew, DueIsBounded, GotFew, StateIsFew}
use Rattle.cv_bounds.specs.Moments.{AllWaitBriefly, AreRuns, EndsTimely, MayCome, RunsAreTimely, RunsSpendNothing}
use Rattle.cv_bounds.proofs.Recording.{GotLow, body_weaken, got_stays_few, records_stay_few, sent_stays_few, stamp_low}
use Rattle.cv_bounds.proofs.Spending.{none_is_spent}
use Rattle.cv_bounds.proofs.Waiting.{AreQuiet, timely_after}

-- 1. Journals have a record

-- a record with so many steps
record Merged (journals : ℕ → List Entry) (count : ℕ) : Type 0 where
  steps : List Step
  is : IsRecordOf journals steps
  long : length steps ≡ count

nothing_total : (lanes : List Lane) → NothingLeft lanes → total lanes ≡ 0
nothing_total [] none = refl
nothing_total (l ∷ ls) none =
    let long : length l.entries ≡ 0 = ap length none.0 in
    let rest = nothing_total ls none.1 in
    omega (arith, long, rest)

merged_end : (journals : ℕ → List Entry) (lanes : List Lane) (m : List Step) → Listed journals lanes m → NothingLeft lanes → Merged journals (length m + total lanes)
merged_end journals lanes m k none = record {
  steps = m;
  is = listed_all journals lanes m k none;
  long = let none_left = nothing_total lanes none in omega (arith, none_left);
}

merged_next : (journals : ℕ → List Entry) (lanes : List Lane) (m : List Step) (r : Option (ℕ × ℕ)) → r ≡ least_from None 0 lanes → Listed journals lanes m → ((new : List Lane) (s : Step) → TakesLeast lanes s new → Merged journals (length (m ++ s ∷ []) + total new)) → Merged journals (length m + total lanes)
merged_next journals lanes m None is k later = merged_end journals lanes m k (nothing_left lanes is)
merged_next journals lanes m (Some x) is k later =
    let c = cut lanes x is in
    let s : Step = record { stamp = c.first.stamp; node = c.lane.node; event = c.first.event } in
    let took = takes_at lanes x c s (rest_of c.lane c.rest) k.rises c.has refl refl in
    let rest = later (slice_set lanes x.0 (rest_of c.lane c.rest)) s took in
    let long = rest.long in
    let fewer = took.fewer in
    record { steps = rest.steps; is = rest.is; long = omega (arith, long, fewer, length-append m (s ∷ [])) }

merged_by : (few : ℕ) (journals : ℕ → List Entry) (lanes : List Lane) (m : List Step) → total lanes ≤ few → Listed journals lanes m → Merged journals (length m + total lanes)
merged_by zero journals lanes m low k =
    merged_next journals lanes m (least_from None 0 lanes) refl k (λ new s took. let fewer = took.fewer in absurd (omega (arith, fewer, low)))
merged_by (suc few) journals lanes m low k =
    merged_next journals lanes m (least_from None 0 lanes) refl k (λ new s took. let fewer = took.fewer in merged_by few journals new (m ++ s ∷ []) (omega (arith, fewer, low)) (listed_more journals lanes new m s k took))

merged : (lanes : List Lane) → Ascends (numbers lanes) → Merged (entries_at lanes) (total lanes)
merged lanes rises =
    let k = merged_by (total lanes) (entries_at lanes) lanes [] (omega arith) (listed_none lanes rises) in
    let long = k.long in
    record { steps = k.steps; is = k.is; long = omega (arith, long) }

-- 2. Where an element stands

record Split {X : Type 0} (xs : List X) (x : X) : Type 0 where
  before : List X
  after : List X
  stands : xs ≡ before ++ x ∷ after

split_of : {X : Type 0} (xs : List X) (x : X) → Contains xs x → Split xs x
split_of [] x (k, low, is) = absurd (omega (arith, low))
split_of (y ∷ ys) x (zero, low, is) = record { before = []; after = ys; stands = ap (λ z. z ∷ ys) is }
split_of (y ∷ ys) x (suc k, low, is) =
    let r = split_of ys x (k, omega (arith, low), is) in
    record { before = y ∷ r.before; after = r.after; stands = ap (λ zs. y ∷ zs) r.stands }

-- a step of a record stands in the journal of its node
step_there : (m : List Step) (s : Step) → Contains m s → Contains (entries_of s.node m) (entry_of s)
step_there [] s (k, low, is) = absurd (omega (arith, low))
step_there (t ∷ m) s (zero, low, is) =
    subst (λ (x : Step). Contains (entries_of x.node (t ∷ m)) (entry_of x)) is (subst (λ (es : List Entry). Contains es (entry_of t)) (sym (own_is t m t.node refl)) (zero, omega arith, refl))
step_there (t ∷ m) s (suc k, low, is) =
    Contains-append_right (own_entry s.node t) (entries_of s.node m) (entry_of s) (step_there m s (k, omega (arith, low), is))

got_weaken : (n k : ℕ) (o : Option Frame) → n ≤ k → GotFew n o → GotFew k o
got_weaken n k None low few = tt
got_weaken n k (Some f) low few = body_weaken n k f.body low few

-- 3. Runs

module _ (openings : ℕ → NodeState) (lanes : List Lane) (runs : AreRuns openings lanes) (all : Merged (entries_at lanes) (total lanes)) where
  abbrev steps : List Step
  steps = all.steps

  sent : FramesWereSent openings steps
  sent = sent_before openings (entries_at lanes) steps runs.local runs.sent all.is

  still : AllStill steps
  still step c =
      runs.still step.node (entry_of step) (subst (λ (es : List Entry). Contains es (entry_of step)) (all.is.parts step.node) (step_there steps step c))

  got_at : (i : ℕ) (e : Entry) → Contains (entries_at lanes i) e → GotFew (total lanes) (got_frame e.event)
  got_at i e there =
      let at = split_of (entries_at lanes i) e there in
      let c = cut_at steps i at.before at.after e (all.is.parts i ∙ at.stands) in
      let got = got_stays_few openings steps sent still (λ j. (runs.starts j).new) c.before c.after c.step c.stands in
      let low : length c.before ≤ total lanes = (let long = all.long in omega (arith, long, ap length c.stands, length-append c.before (c.step ∷ c.after))) in
      subst (λ (x : Entry). GotFew (total lanes) (got_frame x.event)) c.entry (got_weaken (length c.before) (total lanes) (got_frame c.step.event) low got)

  quiet : (i : ℕ) → AreQuiet (total lanes) (entries_at lanes i)
  quiet i = record { still = runs.still i; got = got_at i }

  timely : (i : ℕ) (s : NodeState) → replay (openings i) (entries_at lanes i) ≡ Some s → EndsTimely (openings i) (entries_at lanes i) s
  timely i s is = timely_after (total lanes) (entries_at lanes i) (openings i) s (quiet i) (runs.starts i).brief is

  few_at : (i : ℕ) (s : NodeState) → replay (openings i) (entries_at lanes i) ≡ Some s → StateIsFew (total lanes) s
  few_at i s is =
      subst (λ (n : ℕ). StateIsFew n s) all.long (records_stay_few openings (entries_at lanes) steps all.is runs.local sent still (λ j. (runs.starts j).new) steps [] i s (sym (append-nil steps)) (ap (replay (openings i)) (all.is.parts i) ∙ is))

  -- a frame that was sent is few
  sent_few : (f : Frame) → IsSentIn openings (entries_at lanes) f → BodyIsFew (total lanes) f.body × (f.stamp ≤ total lanes)
  sent_few f k =
      let c = cut_at steps f.from k.before k.after k.entry (all.is.parts f.from ∙ k.stands) in
      let own : did_after (openings f.from) (entries_of f.from c.before) (entry_of c.step) ≡ Some k.sends.did = ap (λ (es : List Entry). did_after (openings f.from) es (entry_of c.step)) c.earlier ∙ ap (did_after (openings f.from) k.before) c.entry ∙ k.sends.does in
      let does = subst (λ (j : ℕ). did_after (openings j) (entries_of j c.before) (entry_of c.step) ≡ Some k.sends.did) (sym c.node) own in
      let few = sent_stays_few openings steps sent still (λ j. (runs.starts j).new) c.before c.after c.step f k.sends.did c.stands does k.sends.sent in
      let long = all.long in
      let stamp : c.step.stamp ≡ f.stamp = ap (λ (x : Entry). x.stamp) c.entry ∙ k.stamped in
      (subst (λ (n : ℕ). BodyIsFew n f.body) long few.0, omega (arith, few.1, stamp, long))

  got_by : (e : Event) (o : Option Frame) → got_frame e ≡ o → ((f : Frame) → got_frame e ≡ Some f → IsSentIn openings (entries_at lanes) f) → GotFew (total lanes) o × GotLow (total lanes) o
  got_by e None is by = (tt, tt)
  got_by e (Some f) is by = sent_few f (by f is)

  module _ (s : NodeState) (brief : AllWaitBriefly s) (low : s.now ≤ 2 ^ 61) where
    due_bounded : (e : Event) → DueIsBounded s e
    due_bounded (event.Fire a action) = λ l here. let short = (brief a l here).pause in omega (arith, short, low)
    due_bounded (event.Meet node attrs) = tt
    due_bounded (event.Deploy name net) = tt
    due_bounded (event.Tick now) = tt
    due_bounded (event.Peek a port) = tt
    due_bounded (event.Pass conn) = tt
    due_bounded (event.Send conn) = tt
    due_bounded (event.Rewind conn) = tt
    due_bounded (event.Freeze a to) = tt
    due_bounded (event.Resend a) = tt
    due_bounded (event.Withdraw a) = tt
    due_bounded (event.Hint a attempt node) = tt
    due_bounded (event.Destroy app) = tt
    due_bounded (event.Lose f) = tt
    due_bounded (event.Deliver f) = tt

  unspent : total lanes < 2 ^ 61 → (i : ℕ) (s : NodeState) → replay (openings i) (entries_at lanes i) ≡ Some s → s.now ≤ 2 ^ 61 → (e : Event) → MayCome openings lanes e → cause_of s e ≡ Some refusal.StampSpent → ⊥
  unspent few i s is low e may =
      let here = few_at i s is in
      let got = got_by e (got_frame e) refl may.sent in
      let stamp = stamp_low (total lanes) s e here.stamp got.1 in
      none_is_spent (total lanes) s e (omega (arith, few)) may.still got.0 here.few (omega (arith, stamp, few)) (due_bounded s (timely i s is).brief low e)

pub runs_are_timely : RunsAreTimely
runs_are_timely openings lanes runs = timely openings lanes runs (merged lanes runs.ascend)

pub runs_spend_nothing : RunsSpendNothing
runs_spend_nothing openings lanes runs = unspent openings lanes runs (merged lanes runs.ascend)
