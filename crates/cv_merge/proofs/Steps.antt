-- Taking the earliest entry, and the record that grows by it.
use Rattle.std.proofs.Common.{◌≡◌, ◌≢◌, inl, ℕ, ◌<◌, Bool, true, false, ◌==◌, cond, if◌then◌else◌, List, [], ◌∷◌, ◌++◌, map, refl, ap, sym, ◌∙◌, subst, arith, append_assoc}
use Rattle.std.proofs.lemmas.List.{append-nil}
use Rattle.std.proofs.lemmas.List.Concat.{flat_map-append}
use Rattle.cv_protocol.specs.declared.event.Entry.{Entry}
use Rattle.cv_protocol.specs.declared.event.Journal.{Journal}
use Rattle.cv_protocol.specs.declared.event.Step.{Step}
use Rattle.cv_protocol.specs.Journals.{entry_of, own_entry, entries_of, FirstIsAfter, NextIsLeast, IsRecordOf}
use Rattle.cv_merge.specs.Lanes.{Lane, AllAbove, Ascends, numbers, entries_at, lanes_of, NothingLeft, TakesLeast}
use Rattle.cv_merge.proofs.Parts.{rest_of, parts, same_numbers, fewer, AllAfter, least_of}
use Rattle.cv_merge.proofs.Scan.{AllFrom, AllAboveStamp, FirstFrom, FirstAbove}

-- 1. Taking

later_first : (s : Step) (n : ℕ) (es : List Entry) → s.node < n → FirstFrom s.stamp es → FirstIsAfter s n es
later_first s n [] low h = record {}
later_first s n (e ∷ es) low h = grind (arith)

earlier_first : (s : Step) (n : ℕ) (es : List Entry) → FirstAbove s.stamp es → FirstIsAfter s n es
earlier_first s n [] h = record {}
earlier_first s n (e ∷ es) h = inl h

all_later : (s : Step) (ls : List Lane) → AllAbove s.node (numbers ls) → AllFrom s.stamp ls → AllAfter s ls
all_later s [] low h = record {}
all_later s (l ∷ ls) low h = (later_first s l.node l.entries low.0 h.0, all_later s ls low.1 h.1)

all_earlier : (s : Step) (ls : List Lane) → AllAboveStamp s.stamp ls → AllAfter s ls
all_earlier s [] h = record {}
all_earlier s (l ∷ ls) h = (earlier_first s l.node l.entries h.0, all_earlier s ls h.1)

-- those behind a lane have greater numbers
above_from : (before : List Lane) (l : Lane) (after : List Lane) → Ascends (numbers (before ++ l ∷ after)) → AllAbove l.node (numbers after)
above_from [] l after h = h.0
above_from (x ∷ before) l after h = above_from before l after h.1

pub takes : (before : List Lane) (l : Lane) (after : List Lane) (e : Entry) (es : List Entry) (s : Step) → l.entries ≡ e ∷ es → entry_of s ≡ e → s.node ≡ l.node → Ascends (numbers (before ++ l ∷ after)) → AllAboveStamp s.stamp before → AllFrom s.stamp after → TakesLeast (before ++ l ∷ after) s (before ++ rest_of l es ∷ after)
takes before l after e es s has is node rises earlier later = record {
  same_nodes = same_numbers before l after es;
  parts = λ i. parts before l after e es has rises i ∙ ap (λ (p : ℕ × Entry). cond (p.0 == i) (p.1 ∷ []) [] ++ entries_at (before ++ rest_of l es ∷ after) i) (ap (λ (n : ℕ). (n, e)) (sym node) ∙ ap (λ (x : Entry). (s.node, x)) (sym is));
  least = λ i other. least_of s before (rest_of l es) after (all_earlier s before earlier) (all_later s after (subst (λ (n : ℕ). AllAbove n (numbers after)) (sym node) (above_from before l after rises)) later) i (λ same. other (same ∙ sym node));
  fewer = fewer before l after e es has;
}

-- 2. The record so far, and what is left

-- each step is before what later steps and these entries have of every other node
abbrev pub LeastBefore : (ℕ → List Entry) → List Step → Type 0
LeastBefore left [] = Unit {0}
LeastBefore left (s ∷ ss) =
    ((i : ℕ) → i ≢ s.node → FirstIsAfter s i (entries_of i ss ++ left i)) × LeastBefore left ss

pub record Listed (journals : ℕ → List Entry) (lanes : List Lane) (m : List Step) : Type 0 where
  pub rises : Ascends (numbers lanes)
  pub parts : (i : ℕ) → entries_of i m ++ entries_at lanes i ≡ journals i
  pub least : LeastBefore (entries_at lanes) m

pub listed_none : (lanes : List Lane) → Ascends (numbers lanes) → Listed (entries_at lanes) lanes []
listed_none lanes rises = record { rises = rises; parts = λ i. refl; least = record {} }

-- the entries of node i of one step more
more_of : (i : ℕ) (ss : List Step) (s : Step) → entries_of i (ss ++ s ∷ []) ≡ entries_of i ss ++ own_entry i s
more_of i ss s =
    flat_map-append (own_entry i) ss (s ∷ []) ∙ ap (λ es. entries_of i ss ++ es) (append-nil (own_entry i s))

moved : (i : ℕ) (ss : List Step) (s : Step) (old new : List Entry) → old ≡ own_entry i s ++ new → entries_of i ss ++ old ≡ entries_of i (ss ++ s ∷ []) ++ new
moved i ss s old new is =
    ap (λ es. entries_of i ss ++ es) is ∙ sym (append_assoc (entries_of i ss) (own_entry i s) new) ∙ ap (λ es. es ++ new) (sym (more_of i ss s))

least_more : (old new : ℕ → List Entry) (m : List Step) (s : Step) → ((i : ℕ) → old i ≡ own_entry i s ++ new i) → ((i : ℕ) → i ≢ s.node → FirstIsAfter s i (new i)) → LeastBefore old m → LeastBefore new (m ++ s ∷ [])
least_more old new [] s own least h = (least, record {})
least_more old new (x ∷ m) s own least h =
    ((λ i other. subst (FirstIsAfter x i) (moved i m s (old i) (new i) (own i)) (h.0 i other)), least_more old new m s own least h.1)

pub listed_more : (journals : ℕ → List Entry) (old new : List Lane) (m : List Step) (s : Step) → Listed journals old m → TakesLeast old s new → Listed journals new (m ++ s ∷ [])
listed_more journals old new m s k t = record {
  rises = subst Ascends (sym t.same_nodes) k.rises;
  parts = λ i. sym (moved i m s (entries_at old i) (entries_at new i) (t.parts i)) ∙ k.parts i;
  least = least_more (entries_at old) (entries_at new) m s t.parts t.least k.least;
}

nothing_in : (own : Bool) (es rest : List Entry) → es ≡ [] → rest ≡ [] → (if own then es else rest) ≡ []
nothing_in true es rest e r = e
nothing_in false es rest e r = r

-- nothing is left
nothing_at : (lanes : List Lane) (i : ℕ) → NothingLeft lanes → entries_at lanes i ≡ []
nothing_at [] i h = refl
nothing_at (l ∷ ls) i h = nothing_in (l.node == i) l.entries (entries_at ls i) h.0 (nothing_at ls i h.1)

least_of_all : (left : ℕ → List Entry) (m : List Step) → ((i : ℕ) → left i ≡ []) → LeastBefore left m → NextIsLeast m
least_of_all left [] none h = record {}
least_of_all left (s ∷ ss) none h =
    ((λ i other. subst (FirstIsAfter s i) (ap (λ es. entries_of i ss ++ es) (none i) ∙ append-nil (entries_of i ss)) (h.0 i other)), least_of_all left ss none h.1)

pub listed_all : (journals : ℕ → List Entry) (lanes : List Lane) (m : List Step) → Listed journals lanes m → NothingLeft lanes → IsRecordOf journals m
listed_all journals lanes m k none = record {
  parts = λ i. sym (append-nil (entries_of i m)) ∙ ap (λ es. entries_of i m ++ es) (sym (nothing_at lanes i none)) ∙ k.parts i;
  next_is_least = least_of_all (entries_at lanes) m (λ i. nothing_at lanes i none) k.least;
}

-- 3. The journals

pub numbers_of_lanes : (js : List Journal) → numbers (lanes_of js) ≡ map (λ (j : Journal). j.spec.no) js
numbers_of_lanes [] = refl
numbers_of_lanes (j ∷ js) = ap (λ ns. j.spec.no ∷ ns) (numbers_of_lanes js)
