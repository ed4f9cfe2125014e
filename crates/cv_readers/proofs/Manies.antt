-- Items one behind another, and items with a mark between them.
use Rattle.std.proofs.Common.{◌≡◌, ℕ, zero, suc, ◌<◌, ◌≤◌, ◌||◌, inl, inr, Bool, true, false, cond, List, [], ◌∷◌, ◌++◌, length, Ok, Err, refl, ap, sym, ◌∙◌, subst, append_assoc, arith}
use Rattle.std.proofs.lemmas.List.{length-append}
use Rattle.std.specs.List.{AllByRecursion}
use Rattle.cv_lex.specs.declared.word.Word.{Word}
use Rattle.cv_lex.specs.declared.word.Placed.{Placed}
use Rattle.cv_readers.specs.Reading.{Miss, Read, Reader, first_is}
use Rattle.cv_readers.specs.Combining.{with_front, many}
use Rattle.cv_readers.specs.Slots.{Slot, Matches, IsWithin, all_slots}
use Rattle.cv_readers.proofs.Matching.{matches_append, matches_split, within_append, within_first, within_second, BeginsWith, leads_first, same_first, same_ends}
use Rattle.cv_readers.proofs.Above.{Above, InPart, above_first, above_split}
use Rattle.cv_readers.proofs.Promises.{never, never_first, missed, read_same, rest_same, not_both, miss_same, Taken, Reaches, Deeper, Stuck, Reads}
use Rattle.cv_readers.proofs.Repeats.{many_over, many_more, many_stops}

-- a word outside p that goes on with an item
abbrev pub idle : (Word → Bool) → (Word → Bool) → Word → Bool
idle p c w = cond (p w) false (c w)

abbrev pub either : (Word → Bool) → (Word → Bool) → Word → Bool
either p c w = p w || c w

-- what the items of a row promise: each begins with a word of p that does not go on with another item, and a word outside p goes on with an item where c says so
pub record Row {X : Type 0} (n : ℕ) (p : Word → Bool) (c : Word → Bool) (R : Reader X) (spell : X → List Slot) (Whole : X → Type 0) (cont : X → Word → Bool) : Type 0 where
  pub item : Reads n R spell Whole never cont
  pub starts : (x : X) → Whole x → BeginsWith p true (spell x)
  pub follows : (x y : X) → Whole x → Whole y → BeginsWith (cont x) false (spell y)
  pub same : (x : X) (w : Word) → Whole x → p w ≡ false → cont x w ≡ c w

-- ---- first words

idle_here : (p c : Word → Bool) (w : Word) (b : Bool) → p w ≡ b → (p w ≡ false → c w ≡ false) → cond b false (c w) ≡ false
idle_here p c w true e h = refl
idle_here p c w false e h = h e

idle_first : {X : Type 0} (n : ℕ) (p c : Word → Bool) (R : Reader X) (spell : X → List Slot) (Whole : X → Type 0) (cont : X → Word → Bool) → Row n p c R spell Whole cont → (x : X) → Whole x → (ws : List Placed) → first_is (cont x) ws ≡ false → first_is (idle p c) ws ≡ false
idle_first n p c R spell Whole cont row x f [] s = refl
idle_first n p c R spell Whole cont row x f (w ∷ ws) s = idle_here p c w.word (p w.word) refl (λ e. sym (row.same x w.word f e) ∙ s)

both_false : (a b : Bool) → a ≡ false → b ≡ false → (a || b) ≡ false
both_false true b e f = cc
both_false false b e f = f

first_false : (a b : Bool) → (a || b) ≡ false → a ≡ false
first_false true b e = cc
first_false false b e = refl

second_false : (a b : Bool) → (a || b) ≡ false → b ≡ false
second_false true b e = cc
second_false false b e = e

either_first : (p c : Word → Bool) (ws : List Placed) → first_is p ws ≡ false → first_is (idle p c) ws ≡ false → first_is (either p c) ws ≡ false
either_first p c [] e f = refl
either_first p c (w ∷ ws) e f = both_false (p w.word) (c w.word) e (ap (λ b. cond b false (c w.word)) (sym e) ∙ f)

either_p : (p c : Word → Bool) (ws : List Placed) → first_is (either p c) ws ≡ false → first_is p ws ≡ false
either_p p c [] e = refl
either_p p c (w ∷ ws) e = first_false (p w.word) (c w.word) e

either_cont : {X : Type 0} (n : ℕ) (p c : Word → Bool) (R : Reader X) (spell : X → List Slot) (Whole : X → Type 0) (cont : X → Word → Bool) → Row n p c R spell Whole cont → (x : X) → Whole x → (ws : List Placed) → first_is (either p c) ws ≡ false → first_is (cont x) ws ≡ false
either_cont n p c R spell Whole cont row x f [] e = refl
either_cont n p c R spell Whole cont row x f (w ∷ ws) e =
    row.same x w.word f (first_false (p w.word) (c w.word) e) ∙ second_false (p w.word) (c w.word) e

-- ---- the words get fewer

shorter : (p : Word → Bool) (b : Bool) (ss : List Slot) (front ws rest : List Placed) → BeginsWith p b ss → Matches ss front → ws ≡ front ++ rest → length rest < length ws
shorter p b [] front ws rest l m e = absurd l
shorter p b (s ∷ ss) [] ws rest l m e = absurd m
shorter p b (s ∷ ss) (w ∷ front) ws rest l m e = rw e (omega (arith, length-append front rest))

pub leads_append : (p : Word → Bool) (b : Bool) (ss ts : List Slot) → BeginsWith p b ss → BeginsWith p b (ss ++ ts)
leads_append p b [] ts l = absurd l
leads_append p b (s ∷ ss) ts l = l

-- ---- takes

add_taken : {X : Type 0} (n : ℕ) (spell : X → List Slot) (Whole : X → Type 0) (cont : X → Word → Bool) (ends : List X → Word → Bool) (keeps : (x : X) (xs : List X) → ends (x ∷ xs) ≡ ends xs) (ws mid : List Placed) (x : X) (xs : List X) (rest : List Placed) → Taken spell Whole cont n ws x mid → Taken (all_slots spell) (AllByRecursion Whole) ends n mid xs rest → Taken (all_slots spell) (AllByRecursion Whole) ends n ws (x ∷ xs) rest
add_taken n spell Whole cont ends keeps ws mid x xs rest t u = record {
  front = t.front ++ u.front;
  whole = t.whole ∙ ap (λ z. t.front ++ z) u.whole ∙ sym (append_assoc t.front u.front rest);
  fits = matches_append (spell x) (all_slots spell xs) t.front u.front t.fits u.fits;
  low = within_append n (spell x) (all_slots spell xs) t.low u.low;
  fine = (t.fine, u.fine);
  stops = ap (λ c. first_is c rest) (keeps x xs) ∙ u.stops;
}

abbrev TakesAt : {X : Type 0} (n : ℕ) (p c : Word → Bool) (R : Reader X) (spell : X → List Slot) (Whole : X → Type 0) → List Placed → Type 0
TakesAt {X} n p c R spell Whole ws = (xs : List X) (rest : List Placed) → first_is (idle p c) ws ≡ false → many p R ws ≡ Ok (xs, rest) → Taken (all_slots spell) (AllByRecursion Whole) (λ _. either p c) n ws xs rest

takes_more : {X : Type 0} (n : ℕ) (p c : Word → Bool) (R : Reader X) (spell : X → List Slot) (Whole : X → Type 0) (cont : X → Word → Bool) → Row n p c R spell Whole cont → (ws : List Placed) (x : X) (mid : List Placed) → Taken spell Whole cont n ws x mid → TakesAt n p c R spell Whole mid → (xs : List X) (rest : List Placed) (read : Read (List X)) → many p R mid ≡ read → with_front (x ∷ []) read ≡ Ok (xs, rest) → Taken (all_slots spell) (AllByRecursion Whole) (λ _. either p c) n ws xs rest
takes_more n p c R spell Whole cont row ws x mid t ih xs rest (Ok ys) e r =
    let same = read_same (x ∷ ys.0) xs ys.1 rest r in
    let left = rest_same (x ∷ ys.0) xs ys.1 rest r in
    let u = ih ys.0 ys.1 (idle_first n p c R spell Whole cont row x t.fine mid t.stops) e in
    let all = add_taken n spell Whole cont (λ _. either p c) (λ _ _. refl) ws mid x ys.0 ys.1 t u in
    subst (λ z. Taken (all_slots spell) (AllByRecursion Whole) (λ _. either p c) n ws xs z) left (subst (λ z. Taken (all_slots spell) (AllByRecursion Whole) (λ _. either p c) n ws z ys.1) same all)
takes_more n p c R spell Whole cont row ws x mid t ih xs rest (Err miss) e r = cc

takes_step : {X : Type 0} (n : ℕ) (p c : Word → Bool) (R : Reader X) (spell : X → List Slot) (Whole : X → Type 0) (cont : X → Word → Bool) → Row n p c R spell Whole cont → (ws : List Placed) → ((mid : List Placed) → length mid < length ws → TakesAt n p c R spell Whole mid) → (b : Bool) → first_is p ws ≡ b → (a : Read X) → R ws ≡ a → TakesAt n p c R spell Whole ws
takes_step n p c R spell Whole cont row ws ih false e a f xs rest s r =
    let done = sym (many_over p R ws e) ∙ r in
    let same = read_same [] xs ws rest done in
    let left = rest_same [] xs ws rest done in
    let none : Taken (all_slots spell) (AllByRecursion Whole) (λ _. either p c) n ws [] ws = record { front = []; whole = refl; fits = tt; low = tt; fine = tt; stops = either_first p c ws e s } in
    subst (λ z. Taken (all_slots spell) (AllByRecursion Whole) (λ _. either p c) n ws xs z) left (subst (λ z. Taken (all_slots spell) (AllByRecursion Whole) (λ _. either p c) n ws z ws) same none)
takes_step n p c R spell Whole cont row ws ih true e (Err miss) f xs rest s r =
    absurd (not_both (many p R ws) (xs, rest) miss r (many_stops p R ws miss e f))
takes_step n p c R spell Whole cont row ws ih true e (Ok q) f xs rest s r =
    let t = row.item.takes ws q.0 q.1 (never_first ws) f in
    let l = shorter p true (spell q.0) t.front ws q.1 (row.starts q.0 t.fine) t.fits t.whole in
    takes_more n p c R spell Whole cont row ws q.0 q.1 t (ih q.1 l) xs rest (many p R q.1) refl (sym (many_more p R ws q.0 q.1 e f l) ∙ r)

row_takes : {X : Type 0} (n : ℕ) (p c : Word → Bool) (R : Reader X) (spell : X → List Slot) (Whole : X → Type 0) (cont : X → Word → Bool) → Row n p c R spell Whole cont → (k : ℕ) (ws : List Placed) → length ws ≤ k → TakesAt n p c R spell Whole ws
row_takes n p c R spell Whole cont row zero ws l = takes_step n p c R spell Whole cont row ws (λ mid lt. absurd (omega arith)) (first_is p ws) refl (R ws) refl
row_takes n p c R spell Whole cont row (suc k) ws l = takes_step n p c R spell Whole cont row ws (λ mid lt. row_takes n p c R spell Whole cont row k mid (omega arith)) (first_is p ws) refl (R ws) refl

-- ---- again

-- what follows an item does not go on with it
pub follows_first : {X : Type 0} (n : ℕ) (p c : Word → Bool) (R : Reader X) (spell : X → List Slot) (Whole : X → Type 0) (cont : X → Word → Bool) → Row n p c R spell Whole cont → (x : X) → Whole x → (xs : List X) → AllByRecursion Whole xs → (front rest : List Placed) → Matches (all_slots spell xs) front → first_is (either p c) rest ≡ false → first_is (cont x) (front ++ rest) ≡ false
follows_first n p c R spell Whole cont row x f [] fs [] rest m s = either_cont n p c R spell Whole cont row x f rest s
follows_first n p c R spell Whole cont row x f [] fs (w ∷ front) rest m s = absurd m
follows_first n p c R spell Whole cont row x f (y ∷ ys) fs front rest m s =
    leads_first (cont x) false (all_slots spell (y ∷ ys)) front rest (leads_append (cont x) false (spell y) (all_slots spell ys) (row.follows x y f fs.0)) m

row_again : {X : Type 0} (n : ℕ) (p c : Word → Bool) (R : Reader X) (spell : X → List Slot) (Whole : X → Type 0) (cont : X → Word → Bool) → Row n p c R spell Whole cont → (xs : List X) (front rest : List Placed) → AllByRecursion Whole xs → IsWithin n (all_slots spell xs) → Matches (all_slots spell xs) front → first_is (either p c) rest ≡ false → many p R (front ++ rest) ≡ Ok (xs, rest)
row_again n p c R spell Whole cont row [] [] rest f low m s = many_over p R rest (either_p p c rest s)
row_again n p c R spell Whole cont row [] (w ∷ front) rest f low m s = absurd m
row_again n p c R spell Whole cont row (x ∷ xs) front rest f low m s =
    let cut = matches_split (spell x) (all_slots spell xs) front m in
    let here = row.item.again x cut.us (cut.vs ++ rest) f.0 (within_first n (spell x) (all_slots spell xs) low) cut.first (follows_first n p c R spell Whole cont row x f.0 xs f.1 cut.vs rest cut.second s) in
    let there = row_again n p c R spell Whole cont row xs cut.vs rest f.1 (within_second n (spell x) (all_slots spell xs) low) cut.second s in
    let starts = leads_first p true (spell x) cut.us (cut.vs ++ rest) (row.starts x f.0) cut.first in
    let l = shorter p true (spell x) cut.us (cut.us ++ (cut.vs ++ rest)) (cut.vs ++ rest) (row.starts x f.0) cut.first refl in
    ap (many p R) (ap (λ z. z ++ rest) cut.whole ∙ append_assoc cut.us cut.vs rest) ∙ many_more p R (cut.us ++ (cut.vs ++ rest)) x (cut.vs ++ rest) starts here l ∙ ap (with_front (x ∷ [])) there

-- ---- stuck

one_reach : {X : Type 0} (n : ℕ) (spell : X → List Slot) (Whole : X → Type 0) (front : List Placed) → Reaches spell Whole n front → Reaches (all_slots spell) (AllByRecursion Whole) n front
one_reach n spell Whole front r = record { tree = r.tree ∷ []; ss = r.ss; more = r.more ++ []; split = ap (λ z. z ++ []) r.split ∙ append_assoc r.ss r.more []; fits = r.fits; low = r.low; fine = (r.fine, tt) }

one_deeper : {X : Type 0} (n : ℕ) (spell : X → List Slot) (Whole : X → Type 0) (front bad : List Placed) → Deeper spell Whole n front bad → Deeper (all_slots spell) (AllByRecursion Whole) n front bad
one_deeper n spell Whole front bad d = record { w = d.w; rest = d.rest; whole = d.whole; tree = d.tree ∷ []; ss = d.ss; s = d.s; more = d.more ++ []; split = ap (λ z. z ++ []) d.split ∙ append_assoc d.ss (d.s ∷ d.more) []; fits = d.fits; here = d.here; low = d.low; level = d.level; fine = (d.fine, tt) }

add_reach : {X : Type 0} (n : ℕ) (spell : X → List Slot) (Whole : X → Type 0) (x : X) (front next : List Placed) → Matches (spell x) front → IsWithin n (spell x) → Whole x → Reaches (all_slots spell) (AllByRecursion Whole) n next → Reaches (all_slots spell) (AllByRecursion Whole) n (front ++ next)
add_reach n spell Whole x front next m low f r = record { tree = x ∷ r.tree; ss = spell x ++ r.ss; more = r.more; split = ap (λ z. spell x ++ z) r.split ∙ sym (append_assoc (spell x) r.ss r.more); fits = matches_append (spell x) r.ss front next m r.fits; low = within_append n (spell x) r.ss low r.low; fine = (f, r.fine) }

add_deeper : {X : Type 0} (n : ℕ) (spell : X → List Slot) (Whole : X → Type 0) (x : X) (front next bad : List Placed) → Matches (spell x) front → IsWithin n (spell x) → Whole x → Deeper (all_slots spell) (AllByRecursion Whole) n next bad → Deeper (all_slots spell) (AllByRecursion Whole) n (front ++ next) bad
add_deeper n spell Whole x front next bad m low f d = record { w = d.w; rest = d.rest; whole = d.whole; tree = x ∷ d.tree; ss = spell x ++ d.ss; s = d.s; more = d.more; split = ap (λ z. spell x ++ z) d.split ∙ sym (append_assoc (spell x) d.ss (d.s ∷ d.more)); fits = matches_append (spell x) d.ss front next m d.fits; here = d.here; low = within_append n (spell x) d.ss low d.low; level = d.level; fine = (f, d.fine) }

abbrev StuckAt : {X : Type 0} (n : ℕ) (p : Word → Bool) (R : Reader X) (spell : X → List Slot) (Whole : X → Type 0) → List Placed → Type 0
StuckAt n p R spell Whole ws = (miss : Miss) → many p R ws ≡ Err miss → Stuck (all_slots spell) (AllByRecursion Whole) n ws miss

front_err : {X : Type 0} (front : List X) (read : Read (List X)) (miss : Miss) → with_front front read ≡ Err miss → read ≡ Err miss
front_err front (Ok x) miss r = cc
front_err front (Err m) miss r = cc

stuck_step : {X : Type 0} (n : ℕ) (p c : Word → Bool) (R : Reader X) (spell : X → List Slot) (Whole : X → Type 0) (cont : X → Word → Bool) → Row n p c R spell Whole cont → (ws : List Placed) → ((mid : List Placed) → length mid < length ws → StuckAt n p R spell Whole mid) → (b : Bool) → first_is p ws ≡ b → (a : Read X) → R ws ≡ a → StuckAt n p R spell Whole ws
stuck_step n p c R spell Whole cont row ws ih false e a f miss r =
    absurd (not_both (many p R ws) ([], ws) miss (many_over p R ws e) r)
stuck_step n p c R spell Whole cont row ws ih true e (Err m) f miss r =
    let same = miss_same (many p R ws) m miss (many_stops p R ws m e f) r in
    let t = row.item.stuck ws miss (f ∙ ap (λ z. Err z) same) in
    record { front = t.front; bad = t.bad; whole = t.whole; left = t.left; reach = one_reach n spell Whole t.front t.reach; deeper = λ d. one_deeper n spell Whole t.front t.bad (t.deeper d) }
stuck_step n p c R spell Whole cont row ws ih true e (Ok q) f miss r =
    let t = row.item.takes ws q.0 q.1 (never_first ws) f in
    let l = shorter p true (spell q.0) t.front ws q.1 (row.starts q.0 t.fine) t.fits t.whole in
    let u = ih q.1 l miss (front_err (q.0 ∷ []) (many p R q.1) miss (sym (many_more p R ws q.0 q.1 e f l) ∙ r)) in
    record {
      front = t.front ++ u.front;
      bad = u.bad;
      whole = t.whole ∙ ap (λ z. t.front ++ z) u.whole ∙ sym (append_assoc t.front u.front u.bad);
      left = u.left;
      reach = add_reach n spell Whole q.0 t.front u.front t.fits t.low t.fine u.reach;
      deeper = λ d. add_deeper n spell Whole q.0 t.front u.front u.bad t.fits t.low t.fine (u.deeper d);
    }

row_stuck : {X : Type 0} (n : ℕ) (p c : Word → Bool) (R : Reader X) (spell : X → List Slot) (Whole : X → Type 0) (cont : X → Word → Bool) → Row n p c R spell Whole cont → (k : ℕ) (ws : List Placed) → length ws ≤ k → StuckAt n p R spell Whole ws
row_stuck n p c R spell Whole cont row zero ws l = stuck_step n p c R spell Whole cont row ws (λ mid lt. absurd (omega arith)) (first_is p ws) refl (R ws) refl
row_stuck n p c R spell Whole cont row (suc k) ws l = stuck_step n p c R spell Whole cont row ws (λ mid lt. row_stuck n p c R spell Whole cont row k mid (omega arith)) (first_is p ws) refl (R ws) refl

-- ---- local

abbrev LocalAt : {X : Type 0} (p : Word → Bool) (R : Reader X) → Bool → List Placed → Placed → List Placed → List Placed → Type 0
LocalAt p R k front w rest more = many p R (front ++ w ∷ rest) ≡ Err (missed k (suc (length rest))) → many p R (front ++ w ∷ more) ≡ Err (missed k (suc (length more)))

local_step : {X : Type 0} (n : ℕ) (p c : Word → Bool) (R : Reader X) (spell : X → List Slot) (Whole : X → Type 0) (cont : X → Word → Bool) → Row n p c R spell Whole cont → (k : Bool) (front : List Placed) (w : Placed) (rest more : List Placed) → ((next : List Placed) → length (next ++ w ∷ rest) < length (front ++ w ∷ rest) → LocalAt p R k next w rest more) → (b : Bool) → first_is p (front ++ w ∷ rest) ≡ b → (a : Read X) → R (front ++ w ∷ rest) ≡ a → LocalAt p R k front w rest more
local_step n p c R spell Whole cont row k front w rest more ih false e a f r =
    absurd (not_both (many p R (front ++ w ∷ rest)) ([], front ++ w ∷ rest) (missed k (suc (length rest))) (many_over p R (front ++ w ∷ rest) e) r)
local_step n p c R spell Whole cont row k front w rest more ih true e (Err m) f r =
    let same = miss_same (many p R (front ++ w ∷ rest)) m (missed k (suc (length rest))) (many_stops p R (front ++ w ∷ rest) m e f) r in
    many_stops p R (front ++ w ∷ more) (missed k (suc (length more))) (sym (same_first p front w rest more) ∙ e) (row.item.local k front w rest more (f ∙ ap (λ z. Err z) same))
local_step n p c R spell Whole cont row k front w rest more ih true e (Ok q) f r =
    let ws = front ++ w ∷ rest in
    let t = row.item.takes ws q.0 q.1 (never_first ws) f in
    let l = shorter p true (spell q.0) t.front ws q.1 (row.starts q.0 t.fine) t.fits t.whole in
    let behind = front_err (q.0 ∷ []) (many p R q.1) (missed k (suc (length rest))) (sym (many_more p R ws q.0 q.1 e f l) ∙ r) in
    let u = row_stuck n p c R spell Whole cont row (length q.1) q.1 (omega arith) (missed k (suc (length rest))) behind in
    let whole = t.whole ∙ ap (λ z. t.front ++ z) u.whole ∙ sym (append_assoc t.front u.front u.bad) in
    let ends = same_ends front u.bad (t.front ++ u.front) w rest whole u.left in
    let mid = u.whole ∙ ap (λ z. u.front ++ z) ends.1 in
    let small : length (u.front ++ w ∷ rest) < length ws = subst (λ z. length z < length ws) mid l in
    let there = ih u.front small (ap (many p R) (sym mid) ∙ behind) in
    let stops = sym (same_first (cont q.0) u.front w rest more) ∙ ap (first_is (cont q.0)) (sym mid) ∙ t.stops in
    let here = row.item.again q.0 t.front (u.front ++ w ∷ more) t.fine t.low t.fits stops in
    let starts = leads_first p true (spell q.0) t.front (u.front ++ w ∷ more) (row.starts q.0 t.fine) t.fits in
    let less = shorter p true (spell q.0) t.front (t.front ++ (u.front ++ w ∷ more)) (u.front ++ w ∷ more) (row.starts q.0 t.fine) t.fits refl in
    ap (many p R) (ap (λ z. z ++ w ∷ more) ends.0 ∙ append_assoc t.front u.front (w ∷ more)) ∙ many_more p R (t.front ++ (u.front ++ w ∷ more)) q.0 (u.front ++ w ∷ more) starts here less ∙ ap (with_front (q.0 ∷ [])) there

row_local : {X : Type 0} (n : ℕ) (p c : Word → Bool) (R : Reader X) (spell : X → List Slot) (Whole : X → Type 0) (cont : X → Word → Bool) → Row n p c R spell Whole cont → (b : Bool) (w : Placed) (rest more : List Placed) (k : ℕ) (front : List Placed) → length (front ++ w ∷ rest) ≤ k → LocalAt p R b front w rest more
row_local n p c R spell Whole cont row b w rest more zero front l = local_step n p c R spell Whole cont row b front w rest more (λ next lt. absurd (omega arith)) (first_is p (front ++ w ∷ rest)) refl (R (front ++ w ∷ rest)) refl
row_local n p c R spell Whole cont row b w rest more (suc k) front l = local_step n p c R spell Whole cont row b front w rest more (λ next lt. row_local n p c R spell Whole cont row b w rest more k next (omega arith)) (first_is p (front ++ w ∷ rest)) refl (R (front ++ w ∷ rest)) refl

-- ---- deep

-- an item that goes on over n levels does not go on with the one before
above_follows : {X : Type 0} (n : ℕ) (p c : Word → Bool) (R : Reader X) (spell : X → List Slot) (Whole : X → Type 0) (cont : X → Word → Bool) → Row n p c R spell Whole cont → (x : X) → Whole x → (xs : List X) → AllByRecursion Whole xs → (front : List Placed) (w : Placed) (rest : List Placed) → Above n (all_slots spell xs) front w → first_is (cont x) (front ++ w ∷ rest) ≡ false
above_follows n p c R spell Whole cont row x f [] fs front w rest a = absurd a
above_follows n p c R spell Whole cont row x f (y ∷ ys) fs front w rest a =
    above_first (cont x) false n (all_slots spell (y ∷ ys)) front w rest (leads_append (cont x) false (spell y) (all_slots spell ys) (row.follows x y f fs.0)) a

abbrev DeepAt : {X : Type 0} (n : ℕ) (p : Word → Bool) (R : Reader X) (spell : X → List Slot) → List X → Type 0
DeepAt n p R spell xs = (front : List Placed) (w : Placed) (rest : List Placed) → Above n (all_slots spell xs) front w → many p R (front ++ w ∷ rest) ≡ Err (missed true (suc (length rest)))

deep_step : {X : Type 0} (n : ℕ) (p c : Word → Bool) (R : Reader X) (spell : X → List Slot) (Whole : X → Type 0) (cont : X → Word → Bool) → Row n p c R spell Whole cont → (x : X) → Whole x → (xs : List X) → AllByRecursion Whole xs → DeepAt n p R spell xs → (front : List Placed) (w : Placed) (rest : List Placed) → InPart n (spell x) (all_slots spell xs) front w → many p R (front ++ w ∷ rest) ≡ Err (missed true (suc (length rest)))
deep_step n p c R spell Whole cont row x f xs fs ih front w rest (inl u) =
    many_stops p R (front ++ w ∷ rest) (missed true (suc (length rest))) (above_first p true n (spell x) front w rest (row.starts x f) u) (row.item.deep x front w rest f u)
deep_step n p c R spell Whole cont row x f xs fs ih front w rest (inr b) =
    let here = row.item.again x b.us (b.vs ++ w ∷ rest) f b.low b.first (above_follows n p c R spell Whole cont row x f xs fs b.vs w rest b.above) in
    let starts = leads_first p true (spell x) b.us (b.vs ++ w ∷ rest) (row.starts x f) b.first in
    let l = shorter p true (spell x) b.us (b.us ++ (b.vs ++ w ∷ rest)) (b.vs ++ w ∷ rest) (row.starts x f) b.first refl in
    ap (many p R) (ap (λ z. z ++ w ∷ rest) b.whole ∙ append_assoc b.us b.vs (w ∷ rest)) ∙ many_more p R (b.us ++ (b.vs ++ w ∷ rest)) x (b.vs ++ w ∷ rest) starts here l ∙ ap (with_front (x ∷ [])) (ih b.vs w rest b.above)

row_deep : {X : Type 0} (n : ℕ) (p c : Word → Bool) (R : Reader X) (spell : X → List Slot) (Whole : X → Type 0) (cont : X → Word → Bool) → Row n p c R spell Whole cont → (xs : List X) → AllByRecursion Whole xs → DeepAt n p R spell xs
row_deep n p c R spell Whole cont row [] f front w rest a = absurd a
row_deep n p c R spell Whole cont row (x ∷ xs) f front w rest a =
    deep_step n p c R spell Whole cont row x f.0 xs f.1 (row_deep n p c R spell Whole cont row xs f.1) front w rest (above_split n (spell x) (all_slots spell xs) front w a)

-- ---- items one behind another

pub many_reads : {X : Type 0} (n : ℕ) (p c : Word → Bool) (R : Reader X) (spell : X → List Slot) (Whole : X → Type 0) (cont : X → Word → Bool) → Row n p c R spell Whole cont → Reads n (many p R) (all_slots spell) (AllByRecursion Whole) (idle p c) (λ _. either p c)
many_reads n p c R spell Whole cont row = record {
  takes = λ ws xs rest s r. row_takes n p c R spell Whole cont row (length ws) ws (omega arith) xs rest s r;
  again = row_again n p c R spell Whole cont row;
  stuck = λ ws miss r. row_stuck n p c R spell Whole cont row (length ws) ws (omega arith) miss r;
  local = λ k front w rest more r. row_local n p c R spell Whole cont row k w rest more (length (front ++ w ∷ rest)) front (omega arith) r;
  deep = λ xs front w rest f a. row_deep n p c R spell Whole cont row xs f front w rest a;
}
