-- The entries of each node, where one journal of several loses its first.
use Rattle.std.proofs.Common.{◌≡◌, ◌≢◌, ℕ, suc, ◌+◌, ◌<◌, Bool, true, false, ◌==◌, cond, if◌then◌else◌, List, [], ◌∷◌, ◌++◌, length, refl, ap, subst, arith}
use Rattle.std.proofs.lemmas.Bool.{eqb-true}
use Rattle.std.proofs.lemmas.Bool.Decides.{nat_tests}
use Rattle.cv_protocol.specs.declared.event.Entry.{Entry}
use Rattle.cv_protocol.specs.declared.event.Step.{Step}
use Rattle.cv_protocol.specs.Journals.{FirstIsAfter}
use Rattle.cv_merge.specs.Lanes.{Lane, AllAbove, Ascends, numbers, entries_at, total}

-- 1. A lane in the midst of others

-- the lane without its first entry
abbrev pub rest_of : Lane → List Entry → Lane
rest_of l es = record l { entries = es }

-- of lanes with rising numbers, those before a lane have another number
above_cut : (n : ℕ) (before : List Lane) (l : Lane) (after : List Lane) → AllAbove n (numbers (before ++ l ∷ after)) → n < l.node
above_cut n [] l after h = h.0
above_cut n (x ∷ before) l after h = above_cut n before l after h.1

other_number : (m n : ℕ) → m < n → (n == m) ≡ false
other_number m n h = grind (arith, nat_tests)

taken_head : (x : Lane) (own : Bool) (i : ℕ) (e : Entry) (es : List Entry) → (own ≡ false) → x.entries ≡ cond own (e ∷ []) [] ++ x.entries
taken_head x own i e es none = rw none refl

-- by whether a lane is that of node i
by_node : (b : Bool) (P : Bool → Type 0) → (b ≡ true → P true) → (b ≡ false → P false) → P b
by_node true P own other = own refl
by_node false P own other = other refl

same_number : (m i n : ℕ) → (m == i) ≡ true → m < n → (n == i) ≡ false
same_number m i n h low = grind (arith, nat_tests)

abbrev Parts : List Lane → Lane → List Lane → Entry → List Entry → ℕ → Type 0
Parts before l after e es i =
    entries_at (before ++ l ∷ after) i ≡ cond (l.node == i) (e ∷ []) [] ++ entries_at (before ++ rest_of l es ∷ after) i

parts_here : (l : Lane) (after : List Lane) (e : Entry) (es : List Entry) (i : ℕ) → l.entries ≡ e ∷ es → Parts [] l after e es i
parts_here l after e es i is =
    by_node (l.node == i) (λ b. (if b then l.entries else entries_at after i) ≡ cond b (e ∷ []) [] ++ (if b then es else entries_at after i)) (λ _. is) (λ _. refl)

parts_later : (x : Lane) (before : List Lane) (l : Lane) (after : List Lane) (e : Entry) (es : List Entry) (i : ℕ) → x.node < l.node → Parts before l after e es i → Parts (x ∷ before) l after e es i
parts_later x before l after e es i low later =
    by_node (x.node == i) (λ b. (if b then x.entries else entries_at (before ++ l ∷ after) i) ≡ cond (l.node == i) (e ∷ []) [] ++ (if b then x.entries else entries_at (before ++ rest_of l es ∷ after) i)) (λ own. rw (same_number x.node i l.node own low) refl) (λ _. later)

-- the entries of each node, with the one that is taken
pub parts : (before : List Lane) (l : Lane) (after : List Lane) (e : Entry) (es : List Entry) → l.entries ≡ e ∷ es → Ascends (numbers (before ++ l ∷ after)) → (i : ℕ) → Parts before l after e es i
parts [] l after e es is rises i = parts_here l after e es i is
parts (x ∷ before) l after e es is rises i =
    parts_later x before l after e es i (above_cut x.node before l after rises.0) (parts before l after e es is rises.1 i)

-- 2. Numbers and lengths

pub same_numbers : (before : List Lane) (l : Lane) (after : List Lane) (es : List Entry) → numbers (before ++ rest_of l es ∷ after) ≡ numbers (before ++ l ∷ after)
same_numbers [] l after es = refl
same_numbers (x ∷ before) l after es = ap (λ ns. x.node ∷ ns) (same_numbers before l after es)

pub fewer : (before : List Lane) (l : Lane) (after : List Lane) (e : Entry) (es : List Entry) → l.entries ≡ e ∷ es → total (before ++ l ∷ after) ≡ total (before ++ rest_of l es ∷ after) + 1
fewer [] l after e es is = let long : length l.entries ≡ suc (length es) = ap length is in omega (arith, long)
fewer (x ∷ before) l after e es is = let h = fewer before l after e es is in omega (arith, h)

-- 3. The entry that is taken is before the first of every other node

-- the first entry of each of these lanes comes after the step
abbrev pub AllAfter : Step → List Lane → Type 0
AllAfter s [] = Unit {0}
AllAfter s (m ∷ ms) = FirstIsAfter s m.node m.entries × AllAfter s ms

after_head : (s : Step) (i : ℕ) (m : Lane) (rest : List Entry) → FirstIsAfter s m.node m.entries → FirstIsAfter s i rest → FirstIsAfter s i (if m.node == i then m.entries else rest)
after_head s i m rest here later =
    by_node (m.node == i) (λ b. FirstIsAfter s i (if b then m.entries else rest)) (λ own. subst (λ (k : ℕ). FirstIsAfter s k m.entries) (eqb-true m.node i own) here) (λ _. later)

after_at : (s : Step) (ms : List Lane) (i : ℕ) → AllAfter s ms → FirstIsAfter s i (entries_at ms i)
after_at s [] i h = record {}
after_at s (m ∷ ms) i h = after_head s i m (entries_at ms i) h.0 (after_at s ms i h.1)

not_own : (n i : ℕ) → i ≢ n → (n == i) ≡ false
not_own n i other = grind (other, arith, nat_tests)

pub least_of : (s : Step) (before : List Lane) (l : Lane) (after : List Lane) → AllAfter s before → AllAfter s after → (i : ℕ) → i ≢ l.node → FirstIsAfter s i (entries_at (before ++ l ∷ after) i)
least_of s [] l after b a i other =
    rw (not_own l.node i other) (after_at s after i a)
least_of s (x ∷ before) l after b a i other =
    after_head s i x (entries_at (before ++ l ∷ after) i) b.0 (least_of s before l after b.1 a i other)
