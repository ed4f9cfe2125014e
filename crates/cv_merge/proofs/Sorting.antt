-- The record of local runs is sorted.
use Rattle.std.proofs.Common.{◌≡◌, ◌≢◌, inl, inr, ℕ, ◌<◌, ◌≤◌, Bool, true, false, ◌==◌, cond, List, [], ◌∷◌, ◌++◌, Option, Some, None, refl, ap, sym, ◌∙◌, subst, arith, IfSome}
use Rattle.std.specs.Prelude.{option_and_then, IsSome}
use Rattle.std.proofs.lemmas.Bool.{eqb-true, eq-eqb}
use Rattle.std.proofs.lemmas.Bool.Decides.{nat_tests}
use Rattle.cv_protocol.specs.declared.event.Entry.{Entry}
use Rattle.cv_protocol.specs.declared.event.Step.{Step}
use Rattle.cv_protocol.specs.NodeState.{NodeState}
use Rattle.cv_protocol.specs.NodeRow.{row, stamp_of}
use Rattle.cv_protocol.specs.Rows.{Did}
use Rattle.cv_protocol.specs.Laws.{Rises}
use Rattle.cv_protocol.specs.Journals.{did_if, did_at, next_of, replay, IsLocalRun, entry_of, entries_of, IsBefore, FirstIsAfter, NextIsLeast, IsRecordOf}
use Rattle.cv_protocol.proofs.Causes.{stamps_rise}
use Rattle.cv_merge.specs.Laws.{IsBeforeAll, IsSorted, AreLocalRuns}

-- 1. Stamps rise in a local run

abbrev pub AllLater : ℕ → List Entry → Type 0
AllLater t [] = Unit {0}
AllLater t (e ∷ es) = (t < e.stamp) × AllLater t es

abbrev pub Rising : List Entry → Type 0
Rising [] = Unit {0}
Rising (e ∷ es) = AllLater e.stamp es × Rising es

all_later_from : (t u : ℕ) (es : List Entry) → t ≤ u → AllLater u es → AllLater t es
all_later_from t u [] low h = record {}
all_later_from t u (e ∷ es) low h = (omega (arith, low, h.0), all_later_from t u es low h.1)

-- an entry that does something has the stamp of its row, and leaves the node with it
pub record Stamped (s : NodeState) (e : Entry) (next : NodeState) : Type 0 where
  pub is : e.stamp ≡ stamp_of s e.event
  pub left : next.stamp ≡ e.stamp
  pub above : s.stamp < e.stamp

risen : (s : NodeState) (e : Entry) (r : Option Did) (next : NodeState) → e.stamp ≡ stamp_of s e.event → IfSome r (Rises s e.event) → next_of r ≡ Some next → Stamped s e next
risen s e None next is h n = absurd (cc)
risen s e (Some d) next is h n =
    let same : d.next ≡ next = cc in
    let left : next.stamp ≡ stamp_of s e.event = ap (λ (t : NodeState). t.stamp) (sym same) ∙ h.0 in
    record { is = is; left = left ∙ sym is; above = omega (arith, h.1, h.0, is) }

stamped_if : (s : NodeState) (e : Entry) (b : Bool) (next : NodeState) → (e.stamp == stamp_of s e.event) ≡ b → next_of (did_if b (row s e.event)) ≡ Some next → Stamped s e next
stamped_if s e true next own n =
    risen s e (row s e.event) next (eqb-true e.stamp (stamp_of s e.event) own) (stamps_rise s e.event) n
stamped_if s e false next own n = absurd (cc)

pub stamped : (s : NodeState) (e : Entry) (next : NodeState) → next_of (did_at s e) ≡ Some next → Stamped s e next
stamped s e next n = stamped_if s e (e.stamp == stamp_of s e.event) next refl n

abbrev Runs : NodeState → List Entry → Type 0
Runs s es = (u : NodeState) → replay s es ≡ Some u → AllLater s.stamp es × Rising es

run_head : (s : NodeState) (e : Entry) (es : List Entry) (o : Option NodeState) (u : NodeState) → next_of (did_at s e) ≡ o → ((next : NodeState) → Runs next es) → option_and_then (λ next. replay next es) o ≡ Some u → AllLater s.stamp (e ∷ es) × Rising (e ∷ es)
run_head s e es None u is below h = absurd (cc)
run_head s e es (Some next) u is below h =
    let k = stamped s e next is in
    let later = below next u h in
    let here : AllLater e.stamp es = subst (λ (t : ℕ). AllLater t es) k.left later.0 in
    ((k.above, all_later_from s.stamp e.stamp es (omega (arith, k.above)) here), (here, later.1))

run_rises : (es : List Entry) (s : NodeState) → Runs s es
run_rises [] s u h = (record {}, record {})
run_rises (e ∷ es) s u h = run_head s e es (next_of (did_at s e)) u refl (λ next. run_rises es next) h

rising_of : (s : NodeState) (es : List Entry) (o : Option NodeState) → replay s es ≡ o → IsSome o → Rising es
rising_of s es None is some = absurd (cc)
rising_of s es (Some u) is some = (run_rises es s u is).1

pub local_run_rises : (s : NodeState) (es : List Entry) → IsLocalRun s es → Rising es
local_run_rises s es run = rising_of s es (replay s es) refl run

-- 2. A record with rising parts is sorted

abbrev AllAfter : Step → ℕ → List Entry → Type 0
AllAfter s i [] = Unit {0}
AllAfter s i (e ∷ es) = IsBefore s.stamp s.node e.stamp i × AllAfter s i es

before_later : (s : Step) (i : ℕ) (t : ℕ) (es : List Entry) → s.stamp ≤ t → AllLater t es → AllAfter s i es
before_later s i t [] low h = record {}
before_later s i t (e ∷ es) low h = (inl (omega (arith, low, h.0)), before_later s i t es low h.1)

at_most : (t n u i : ℕ) → IsBefore t n u i → t ≤ u
at_most t n u i (inl h) = omega (arith, h)
at_most t n u i (inr h) = omega (arith, h.0)

all_after : (s : Step) (i : ℕ) (es : List Entry) → Rising es → FirstIsAfter s i es → AllAfter s i es
all_after s i [] rises h = record {}
all_after s i (e ∷ es) rises h =
    (h, before_later s i e.stamp es (at_most s.stamp s.node e.stamp i h) rises.0)

-- the entries of a step's own node, and of another
pub own_is : (s : Step) (ss : List Step) (i : ℕ) → s.node ≡ i → entries_of i (s ∷ ss) ≡ entry_of s ∷ entries_of i ss
own_is s ss i own = ap (λ b. cond b (entry_of s ∷ []) [] ++ entries_of i ss) (eq-eqb s.node i own)

pub other_is : (s : Step) (ss : List Step) (i : ℕ) → (s.node == i) ≡ false → entries_of i (s ∷ ss) ≡ entries_of i ss
other_is s ss i other = ap (λ b. cond b (entry_of s ∷ []) [] ++ entries_of i ss) other

by_test : (s : Step) (i : ℕ) (b : Bool) (P : Type 0) → (s.node == i) ≡ b → (s.node ≡ i → P) → ((s.node == i) ≡ false → P) → P
by_test s i true P is own other = own (eqb-true s.node i is)
by_test s i false P is own other = other is

-- by whether the step is one of node i
pub by_owner : (s : Step) (i : ℕ) (P : Type 0) → (s.node ≡ i → P) → ((s.node == i) ≡ false → P) → P
by_owner s i P own other = by_test s i (s.node == i) P refl own other

parts_after : (s : Step) (ss : List Step) → ((i : ℕ) → AllAfter s i (entries_of i ss)) → IsBeforeAll s ss
parts_after s [] h = record {}
parts_after s (t ∷ ts) h =
    let head = subst (AllAfter s t.node) (own_is t ts t.node refl) (h t.node) in
    (head.0, parts_after s ts (λ i. by_owner t i (AllAfter s i (entries_of i ts)) (λ own. (subst (AllAfter s i) (own_is t ts i own) (h i)).1) (λ other. subst (AllAfter s i) (other_is t ts i other) (h i))))

rising_tail : (s : Step) (ss : List Step) → ((i : ℕ) → Rising (entries_of i (s ∷ ss))) → (i : ℕ) → Rising (entries_of i ss)
rising_tail s ss h i =
    by_owner s i (Rising (entries_of i ss)) (λ own. (subst Rising (own_is s ss i own) (h i)).1) (λ other. subst Rising (other_is s ss i other) (h i))

different : (m n : ℕ) → (m == n) ≡ false → n ≢ m
different m n other same = grind (arith, other, same, nat_tests)

head_before : (s : Step) (ss : List Step) → ((i : ℕ) → i ≢ s.node → FirstIsAfter s i (entries_of i ss)) → ((i : ℕ) → Rising (entries_of i (s ∷ ss))) → IsBeforeAll s ss
head_before s ss least rises =
    parts_after s ss (λ i.
    by_owner s i (AllAfter s i (entries_of i ss))
    (λ own. before_later s i s.stamp (entries_of i ss) (omega arith) (subst Rising (own_is s ss i own) (rises i)).0)
    (λ other. all_after s i (entries_of i ss) (rising_tail s ss rises i) (least i (different s.node i other))))

pub sorted : (m : List Step) → NextIsLeast m → ((i : ℕ) → Rising (entries_of i m)) → IsSorted m
sorted [] least rises = record {}
sorted (s ∷ ss) least rises =
    (head_before s ss least.0 rises, sorted ss least.1 (rising_tail s ss rises))

pub record_is_sorted : (openings : ℕ → NodeState) (journals : ℕ → List Entry) (m : List Step) → AreLocalRuns openings journals → IsRecordOf journals m → IsSorted m
record_is_sorted openings journals m runs is =
    sorted m is.next_is_least (λ i. subst Rising (sym (is.parts i)) (local_run_rises (openings i) (journals i) (runs i)))
