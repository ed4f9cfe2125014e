-- Readers behind marks, between marks and up to a mark that closes.
use Rattle.std.proofs.Common.{◌≡◌, ℕ, zero, suc, ◌-◌, ◌||◌, inl, inr, Bool, true, false, cond, List, [], ◌∷◌, ◌++◌, length, Ok, Err, refl, ap, sym, ◌∙◌, subst, arith}
use Rattle.std.proofs.lemmas.Bool.{ne_eqb}
use Rattle.std.specs.List.{AllByRecursion}
use Rattle.cv_lex.specs.declared.word.Mark.{Mark}
use Rattle.cv_lex.specs.declared.word.Mark.TheVariants as marks
use Rattle.cv_lex.specs.declared.word.Word.{Word}
use Rattle.cv_lex.specs.declared.word.Word.TheVariants as words
use Rattle.cv_lex.specs.declared.word.Placed.{Placed}
use Rattle.cv_readers.specs.Reading.{Read, Reader, ◌>>=◌, first_is, behind, is_mark, mark_at, open_at, when, found_word}
use Rattle.cv_readers.specs.Combining.{mapped, with_front, closed, after, many, sep, listed}
use Rattle.cv_readers.specs.Slots.{Slot, Matches, mark, opening, raise, all_slots, sep_slots, listed_slots, SomeAll}
use Rattle.cv_readers.proofs.Matching.{BeginsWith, leads_first}
use Rattle.cv_readers.proofs.Above.{Above}
use Rattle.cv_readers.proofs.Promises.{never, never_first, missed, no_longer, stuck_first, not_both, Stuck, Reads, word_reads}
use Rattle.cv_readers.proofs.Chains.{chain, then_reads, both_slots, BothWhole}
use Rattle.cv_readers.proofs.Changes.{Image, map_reads, recast, rewhole, earlier, raised}
use Rattle.cv_readers.proofs.Choices.{Either, pick, pick_reads, deep_first}
use Rattle.cv_readers.proofs.Manies.{idle, either, Row, follows_first, leads_append, many_reads}
use Rattle.cv_readers.proofs.Marks.{mark_self, mark_is, mark_reads, when_some}
use Rattle.cv_readers.proofs.Repeats.{after_mark}

-- a reader that nothing in front forbids
pub plain : {X : Type 0} (n : ℕ) (R : Reader X) (spell : X → List Slot) (Whole : X → Type 0) (start : Word → Bool) (cont : X → Word → Bool) → Reads n R spell Whole never cont → Reads n R spell Whole start cont
plain n R spell Whole start cont reads = earlier n R spell Whole never start cont (λ ws s. never_first ws) reads

-- ---- behind a word

-- a reader behind one whose trees nothing goes on with
pub word_then : {X Y : Type 0} (n : ℕ) (A : Reader X) (B : X → Reader Y) (spellA : X → List Slot) (WholeA : X → Type 0) (spellB : Y → List Slot) (WholeB : X → Y → Type 0) (cont : Y → Word → Bool) (get : Y → X) → Reads n A spellA WholeA never (λ _. never) → ((x : X) → WholeA x → Reads n (B x) spellB (WholeB x) never cont) → ((x : X) (y : Y) → WholeB x y → get y ≡ x) → ((x : X) → WholeA x → (y : Y) × WholeB x y) → Reads n (chain A B) (both_slots spellA spellB get) (BothWhole WholeA WholeB get) never cont
word_then n A B spellA WholeA spellB WholeB cont get a b got some =
    then_reads n A B spellA WholeA (λ _. never) spellB WholeB cont get (record { first = a; second = b; got = got; some = some; apart = λ x y front rest e f m s. never_first (front ++ rest) })

pub after_reads : {X : Type 0} (n : ℕ) (m : Mark) (R : Reader X) (spell : X → List Slot) (Whole : X → Type 0) (cont : X → Word → Bool) → (x : X) → Whole x → Reads n R spell Whole never cont → Reads n (after m R) (λ x. mark m ∷ spell x) Whole never cont
after_reads n m R spell Whole cont x f reads =
    rewhole n (chain (mark_at m) (λ _. R)) (after m R) (λ x. mark m ∷ spell x) (λ y. Unit {0} × Whole y) Whole never cont (λ ws. refl) (λ y p. p.1) (λ y p. (tt, p))
    (word_then n (mark_at m) (λ _. R) (λ u. mark m ∷ []) (λ u. Unit {0}) spell (λ _ y. Whole y) cont (λ y. tt) (mark_reads n m) (λ u p. reads) (λ u y p. refl) (λ u p. (x, f)))

-- ---- up to a mark

pub closed_reads : {X : Type 0} (n : ℕ) (close : Mark) (R : Reader X) (spell : X → List Slot) (Whole : X → Type 0) (cont : X → Word → Bool) → ((x : X) → Whole x → cont x (words.Mark close) ≡ false) → Reads n R spell Whole never cont → Reads n (λ ws. closed close (R ws)) (λ x. spell x ++ mark close ∷ []) Whole never (λ _. never)
closed_reads {X} n close R spell Whole cont ends reads =
    let B : X → Reader X = λ x ws. mapped (λ (u : Unit {0}). x) (mark_at close ws) in
    let Put : X → X → Type 0 = λ x. Image (λ (u : Unit {0}). x) (λ u. Unit {0}) in
    rewhole n (chain R B) (λ ws. closed close (R ws)) (λ x. spell x ++ mark close ∷ []) (BothWhole Whole Put (λ y. y)) Whole never (λ _. never) (λ ws. refl) (λ y p. p.0) (λ y p. (p, record { from = tt; fine = tt; same = refl }))
    (then_reads n R B spell Whole cont (λ y. mark close ∷ []) Put (λ _. never) (λ y. y) (record {
      first = reads;
      second = λ x f. plain n (B x) (λ y. mark close ∷ []) (Put x) (cont x) (λ _. never) (map_reads n (mark_at close) (λ (u : Unit {0}). x) (λ u. mark close ∷ []) (λ y. mark close ∷ []) (λ u. Unit {0}) never (λ u. never) (λ _. never) (λ u. refl) (λ u. refl) (mark_reads n close));
      got = λ x y p. sym p.same;
      some = λ x f. (x, record { from = tt; fine = tt; same = refl });
      apart = λ x y front rest f p m s. leads_first (cont x) false (mark close ∷ []) front rest (ends x f) m;
    }))

-- ---- between marks

idle_by : (a b : Bool) → b ≡ false → cond a false b ≡ false
idle_by true b e = refl
idle_by false b e = e

-- what goes on with no item does not stand first
idle_less : (p c : Word → Bool) (ws : List Placed) → first_is c ws ≡ false → first_is (idle p c) ws ≡ false
idle_less p c [] e = refl
idle_less p c (w ∷ ws) e = idle_by (p w.word) (c w.word) e

first_or : {X : Type 0} → X → List X → X
first_or eg [] = eg
first_or eg (x ∷ xs) = x

-- the words behind the first item
abbrev behind_slots : {X : Type 0} → (X → List Slot) → List X → List Slot
behind_slots spell [] = []
behind_slots spell (x ∷ xs) = all_slots spell xs

abbrev put_first : {X : Type 0} → X → List X → List X
put_first x xs = x ∷ xs

sep_apart : {X : Type 0} (n : ℕ) (p c : Word → Bool) (R : Reader X) (spell : X → List Slot) (Whole : X → Type 0) (cont : X → Word → Bool) → Row n p c R spell Whole cont → (x : X) → Whole x → (ys : List X) (front rest : List Placed) → Image (put_first x) (AllByRecursion Whole) ys → Matches (behind_slots spell ys) front → first_is (either p c) rest ≡ false → first_is (cont x) (front ++ rest) ≡ false
sep_apart n p c R spell Whole cont row x f ys front rest i m s =
    follows_first n p c R spell Whole cont row x f i.from i.fine front rest (subst (λ zs. Matches (behind_slots spell zs) front) (sym i.same) m) s

sep_to : {X : Type 0} (eg : X) (Whole : X → Type 0) (ys : List X) → BothWhole Whole (λ x. Image (put_first x) (AllByRecursion Whole)) (first_or eg) ys → SomeAll Whole ys
unfolding first_or
sep_to eg Whole [] p = let no : put_first eg p.1.from ≡ [] = p.1.same in cc
sep_to eg Whole (y ∷ ys) p = (p.0, let same : p.1.from ≡ ys = (let both : put_first y p.1.from ≡ y ∷ ys = p.1.same in cc) in subst (AllByRecursion Whole) same p.1.fine)

sep_from : {X : Type 0} (eg : X) (Whole : X → Type 0) (ys : List X) → SomeAll Whole ys → BothWhole Whole (λ x. Image (put_first x) (AllByRecursion Whole)) (first_or eg) ys
unfolding first_or
sep_from eg Whole [] p = absurd p
sep_from eg Whole (y ∷ ys) p = (p.0, record { from = ys; fine = p.1; same = refl })

sep_words : {X : Type 0} (eg : X) (m : Mark) (spell : X → List Slot) (Whole : X → Type 0) (ys : List X) → BothWhole Whole (λ x. Image (put_first x) (AllByRecursion Whole)) (first_or eg) ys → both_slots spell (behind_slots (λ y. mark m ∷ spell y)) (first_or eg) ys ≡ sep_slots m spell ys
unfolding first_or
sep_words eg m spell Whole [] p = let no : put_first eg p.1.from ≡ [] = p.1.same in cc
sep_words eg m spell Whole (y ∷ ys) p = refl

sep_got : {X : Type 0} (eg : X) (Whole : X → Type 0) (x : X) (ys : List X) → Image (put_first x) (AllByRecursion Whole) ys → first_or eg ys ≡ x
unfolding first_or
sep_got eg Whole x ys i = ap (first_or eg) (sym i.same)

pub sep_reads : {X : Type 0} (n : ℕ) (m : Mark) (R : Reader X) (spell : X → List Slot) (Whole : X → Type 0) (c : Word → Bool) → (eg : X) → Whole eg → c (words.Mark m) ≡ false → Reads n R spell Whole never (λ _. c) → Reads n (sep m R) (sep_slots m spell) (SomeAll Whole) never (λ _. either (is_mark m) c)
unfolding sep
sep_reads {X} n m R spell Whole c eg fine ends reads =
    let led : X → List Slot = λ x. mark m ∷ spell x in
    let row : Row n (is_mark m) c (after m R) led Whole (λ _. c) = record {
      item = after_reads n m R spell Whole (λ _. c) eg fine reads;
      starts = λ x f. mark_self m;
      follows = λ x y f g. ends;
      same = λ x w f e. refl;
    } in
    let more = earlier n (many (is_mark m) (after m R)) (all_slots led) (AllByRecursion Whole) (idle (is_mark m) c) c (λ _. either (is_mark m) c) (idle_less (is_mark m) c) (many_reads n (is_mark m) c (after m R) led Whole (λ _. c) row) in
    let B : X → Reader (List X) = λ x ws. with_front (x ∷ []) (many (is_mark m) (after m R) ws) in
    let Put : X → List X → Type 0 = λ x. Image (put_first x) (AllByRecursion Whole) in
    recast n (chain R B) (sep m R) (both_slots spell (behind_slots led) (first_or eg)) (sep_slots m spell) (BothWhole Whole Put (first_or eg)) (SomeAll Whole) never (λ _. either (is_mark m) c) (λ _. either (is_mark m) c) (λ ws. refl) (sep_words eg m spell Whole) (λ ys p. refl) (sep_to eg Whole) (sep_from eg Whole)
    (then_reads n R B spell Whole (λ _. c) (behind_slots led) Put (λ _. either (is_mark m) c) (first_or eg) (record {
      first = reads;
      second = λ x f. map_reads n (many (is_mark m) (after m R)) (put_first x) (all_slots led) (behind_slots led) (AllByRecursion Whole) c (λ _. either (is_mark m) c) (λ _. either (is_mark m) c) (λ xs. refl) (λ xs. refl) more;
      got = sep_got eg Whole;
      some = λ x f. (x ∷ [], record { from = []; fine = tt; same = refl });
      apart = λ x ys front rest f i u s. sep_apart n (is_mark m) c (after m R) led Whole (λ _. c) row x f ys front rest i u s;
    }))

-- ---- a mark that decides

same_cond : {X : Type 0} (b : Bool) (a c r : Read X) → (b ≡ true → a ≡ c) → cond b a r ≡ cond b c r
same_cond true a c r same = same refl
same_cond false a c r same = refl

-- equal readers where the test holds
pub same_pick : {X : Type 0} (p : Word → Bool) (A C B : Reader X) → ((ws : List Placed) → first_is p ws ≡ true → A ws ≡ C ws) → (ws : List Placed) → pick p A B ws ≡ pick p C B ws
same_pick p A C B same ws = same_cond (first_is p ws) (A ws) (C ws) (B ws) (same ws)

mark_first : (m : Mark) (ws : List Placed) → first_is (is_mark m) ws ≡ true → mark_at m ws ≡ Ok (tt, behind ws)
mark_first m [] e = cc
mark_first m (w ∷ ws) e = ap (λ b. found_word (when b tt) w ws) e

-- ---- up to a mark that closes, with commas between the items

-- no item
abbrev none_of : {X : Type 0} → Unit {0} → List X
none_of u = []

listed_one : {X : Type 0} (close : Mark) (spell : X → List Slot) (xs : List X) → Image none_of (λ u. Unit {0}) xs → BeginsWith (is_mark close) true (listed_slots close spell xs)
listed_one close spell xs i = subst (λ ys. BeginsWith (is_mark close) true (listed_slots close spell ys)) i.same (mark_self close)

listed_two : {X : Type 0} (close : Mark) (spell : X → List Slot) (Whole : X → Type 0) → ((x : X) → Whole x → BeginsWith (is_mark close) false (spell x)) → (xs : List X) → SomeAll Whole xs → BeginsWith (is_mark close) false (listed_slots close spell xs)
listed_two close spell Whole avoids [] f = absurd f
listed_two close spell Whole avoids (x ∷ xs) f =
    leads_append (is_mark close) false (sep_slots marks.Comma spell (x ∷ xs)) (mark close ∷ []) (leads_append (is_mark close) false (spell x) (all_slots (λ y. mark marks.Comma ∷ spell y) xs) (avoids x f.0))

listed_to : {X : Type 0} (Whole : X → Type 0) (xs : List X) → Either (Image none_of (λ u. Unit {0})) (SomeAll Whole) xs → AllByRecursion Whole xs
listed_to Whole [] f = tt
listed_to Whole (x ∷ xs) (inl i) = let no : [] ≡ x ∷ xs = i.same in cc
listed_to Whole (x ∷ xs) (inr f) = f

listed_from : {X : Type 0} (Whole : X → Type 0) (xs : List X) → AllByRecursion Whole xs → Either (Image none_of (λ u. Unit {0})) (SomeAll Whole) xs
listed_from Whole [] f = inl (record { from = tt; fine = tt; same = refl })
listed_from Whole (x ∷ xs) f = inr f

pub listed_reads : {X : Type 0} (n : ℕ) (close : Mark) (R : Reader X) (spell : X → List Slot) (Whole : X → Type 0) → (eg : X) → Whole eg → is_mark marks.Comma (words.Mark close) ≡ false → ((x : X) → Whole x → BeginsWith (is_mark close) false (spell x)) → Reads n R spell Whole never (λ _. never) → Reads n (listed close R) (listed_slots close spell) (AllByRecursion Whole) never (λ _. never)
unfolding listed
listed_reads {X} n close R spell Whole eg fine comma avoids reads =
    let A : Reader (List X) = λ ws. Ok ([], behind ws) in
    let C : Reader (List X) = λ ws. mapped none_of (mark_at close ws) in
    let B : Reader (List X) = λ ws. closed close (sep marks.Comma R ws) in
    let some = closed_reads n close (sep marks.Comma R) (sep_slots marks.Comma spell) (SomeAll Whole) (λ _. either (is_mark marks.Comma) never) (λ xs f. ap (λ b. b || false) comma) (sep_reads n marks.Comma R spell Whole never eg fine refl reads) in
    let none = map_reads n (mark_at close) none_of (λ u. mark close ∷ []) (listed_slots close spell) (λ u. Unit {0}) never (λ u. never) (λ _. never) (λ u. refl) (λ u. refl) (mark_reads n close) in
    rewhole n (pick (is_mark close) C B) (listed close R) (listed_slots close spell) (Either (Image none_of (λ u. Unit {0})) (SomeAll Whole)) (AllByRecursion Whole) never (λ _. never)
    (same_pick (is_mark close) A C B (λ ws e. sym (ap (mapped none_of) (mark_first close ws e)))) (listed_to Whole) (listed_from Whole)
    (pick_reads n (is_mark close) C B (listed_slots close spell) (Image none_of (λ u. Unit {0})) (SomeAll Whole) (λ _. never) none some (listed_one close spell) (listed_two close spell Whole avoids))

-- what stands behind a mark that was seen
pub skip_same : {X : Type 0} (m : Mark) (R B : Reader X) (ws : List Placed) → pick (is_mark m) (λ ts. R (behind ts)) B ws ≡ pick (is_mark m) (after m R) B ws
skip_same m R B ws = same_pick (is_mark m) (λ ts. R (behind ts)) (after m R) B (λ ts e. sym (after_mark m R ts e)) ws

-- ---- inside a level

open_some : (m : Mark) (k : ℕ) (ws : List Placed) → open_at m (suc k) ws ≡ mark_at m ws
open_some m k ws = rw (ne_eqb (suc k) 0 (λ e. omega arith)) refl

opening_reads : (k : ℕ) (m : Mark) → Reads (suc k) (mark_at m) (λ u. opening m ∷ []) (λ u. Unit {0}) never (λ u. never)
opening_reads k m =
    word_reads (suc k) (λ w. when (is_mark m w.word) tt) (λ u. opening m) (λ u. omega arith)
    (λ w u e. (mark_is m w.word ((when_some (is_mark m w.word) tt u e).0), tt))
    (λ w u f. ap (λ z. when (is_mark m z) tt) (sym f.0) ∙ ap (λ b. when b tt) (mark_self m)) tt

abbrev pub inside : {X : Type 0} → Mark → ℕ → (ℕ → Reader X) → Reader X
inside m n R ws = open_at m n ws >>= λ r. R (n - 1) r.1

abbrev pub inside_slots : {X : Type 0} → Mark → (X → List Slot) → X → List Slot
inside_slots m spell x = opening m ∷ raise (spell x)

-- where no level is left, either the mark is one too many or it is missing
shut_cases : (m : Mark) (ws : List Placed) (b : Bool) → first_is (is_mark m) ws ≡ b → open_at m 0 ws ≡ Err (missed b (length ws))
shut_cases m ws true e = rw e refl
shut_cases m [] false e = refl
shut_cases m (w ∷ ws) false e = rw e refl

shut_err : {X : Type 0} (m : Mark) (R : ℕ → Reader X) (ws : List Placed) → inside m 0 R ws ≡ Err (missed (first_is (is_mark m) ws) (length ws))
shut_err m R ws = ap (λ z. z >>= λ r. R (0 - 1) r.1) (shut_cases m ws (first_is (is_mark m) ws) refl)

shut_stuck : {X : Type 0} (m : Mark) (spell : X → List Slot) (Whole : X → Type 0) (eg : X) → Whole eg → (ws : List Placed) (b : Bool) → first_is (is_mark m) ws ≡ b → Stuck (inside_slots m spell) Whole 0 ws (missed b (length ws))
shut_stuck m spell Whole eg fine [] true e = cc
shut_stuck m spell Whole eg fine (w ∷ ws) true e =
    deep_first (inside_slots m spell) Whole w ws (record { tree = eg; s = opening m; more = raise (spell eg); split = refl; here = (mark_is m w.word e, tt); level = refl; fine = fine })
shut_stuck m spell Whole eg fine ws false e = stuck_first (inside_slots m spell) Whole 0 eg fine ws (missed false (length ws)) refl

shut_local : (m : Mark) (k : Bool) (front : List Placed) (w : Placed) (rest more : List Placed) → missed (first_is (is_mark m) (front ++ w ∷ rest)) (length (front ++ w ∷ rest)) ≡ missed k (suc (length rest)) → missed (first_is (is_mark m) (front ++ w ∷ more)) (length (front ++ w ∷ more)) ≡ missed k (suc (length more))
shut_local m k [] w rest more e = ap (λ z. missed z.deep (suc (length more))) e
shut_local m k (v ∷ front) w rest more e = absurd (no_longer v w front rest (ap (λ z. z.left) e))

shut_deep : {X : Type 0} (m : Mark) (R : ℕ → Reader X) (ss : List Slot) (front : List Placed) (w : Placed) (rest : List Placed) → Above 0 (opening m ∷ ss) front w → inside m 0 R (front ++ w ∷ rest) ≡ Err (missed true (suc (length rest)))
shut_deep m R ss [] w rest a = shut_err m R (w ∷ rest) ∙ ap (λ b. Err (missed b (suc (length rest)))) (ap (is_mark m) (sym a.0.0) ∙ mark_self m)
shut_deep m R ss (v ∷ front) w rest a = absurd (omega (arith, a.1))

shut_reads : {X : Type 0} (m : Mark) (R : ℕ → Reader X) (spell : X → List Slot) (Whole : X → Type 0) (cont : X → Word → Bool) → (eg : X) → Whole eg → Reads 0 (inside m 0 R) (inside_slots m spell) Whole never cont
shut_reads m R spell Whole cont eg fine = record {
  takes = λ ws x rest s r. absurd (not_both (inside m 0 R ws) (x, rest) (missed (first_is (is_mark m) ws) (length ws)) r (shut_err m R ws));
  again = λ x front rest f low u s. absurd (omega (arith, low.0));
  stuck = λ ws miss r. subst (Stuck (inside_slots m spell) Whole 0 ws) (let same : missed (first_is (is_mark m) ws) (length ws) ≡ miss = (let e = shut_err m R ws in cc) in same) (shut_stuck m spell Whole eg fine ws (first_is (is_mark m) ws) refl);
  local = λ k front w rest more r. shut_err m R (front ++ w ∷ more) ∙ ap (λ z. Err z) (shut_local m k front w rest more (let e = shut_err m R (front ++ w ∷ rest) in cc));
  deep = λ x front w rest f a. shut_deep m R (raise (spell x)) front w rest a;
}

-- a mark that opens a level, and what stands inside
pub opened_reads : {X : Type 0} (k : ℕ) (m : Mark) (R : Reader X) (spell : X → List Slot) (Whole : X → Type 0) (cont : X → Word → Bool) → (eg : X) → Whole eg → Reads k R spell Whole never cont → Reads (suc k) (after m R) (inside_slots m spell) Whole never cont
opened_reads k m R spell Whole cont eg fine reads =
    let B = λ (u : Unit {0}). R in
    rewhole (suc k) (chain (mark_at m) B) (after m R) (inside_slots m spell) (λ y. Unit {0} × Whole y) Whole never cont (λ ws. refl) (λ y p. p.1) (λ y p. (tt, p))
    (word_then (suc k) (mark_at m) B (λ u. opening m ∷ []) (λ u. Unit {0}) (λ x. raise (spell x)) (λ _ y. Whole y) cont (λ y. tt) (opening_reads k m) (λ u p. raised k R spell Whole never cont reads) (λ u y p. refl) (λ u p. (eg, fine)))

pub inside_reads : {X : Type 0} (n : ℕ) (m : Mark) (R : ℕ → Reader X) (spell : X → List Slot) (Whole : X → Type 0) (cont : X → Word → Bool) → (eg : X) → Whole eg → ((k : ℕ) → Reads k (R k) spell Whole never cont) → Reads n (inside m n R) (inside_slots m spell) Whole never cont
inside_reads zero m R spell Whole cont eg fine reads = shut_reads m R spell Whole cont eg fine
inside_reads (suc k) m R spell Whole cont eg fine reads =
    let one : suc k - 1 ≡ k = omega arith in
    rewhole (suc k) (after m (R k)) (inside m (suc k) R) (inside_slots m spell) Whole Whole never cont
    (λ ws. ap (λ z. z >>= λ r. R (suc k - 1) r.1) (open_some m k ws) ∙ ap (λ j. mark_at m ws >>= λ r. R j r.1) one) (λ y p. p) (λ y p. p)
    (opened_reads k m (R k) spell Whole cont eg fine (reads k))

closed_behind : {X : Type 0} (close : Mark) (R : Reader X) (a : Read (Unit {0})) → closed close (a >>= λ r. R r.1) ≡ (a >>= λ r. closed close (R r.1))
closed_behind close R (Ok p) = refl
closed_behind close R (Err miss) = refl

-- a mark that closes may as well be read with what stands behind the first mark
pub closed_after : {X : Type 0} (m close : Mark) (R : Reader X) (ws : List Placed) → closed close (after m R ws) ≡ after m (λ ts. closed close (R ts)) ws
closed_after m close R ws = closed_behind close R (mark_at m ws)

-- ---- two parts of one tree

-- `join` makes a tree of two parts, which `one` and `two` tell
pub record Parts {X Y Z : Type 0} (join : X → Y → Z) (one : Z → X) (two : Z → Y) (Made : Z → Type 0) : Type 0 where
  pub ones : (x : X) (y : Y) → one (join x y) ≡ x
  pub twos : (x : X) (y : Y) → two (join x y) ≡ y
  pub made : (x : X) (y : Y) → Made (join x y)
  pub back : (z : Z) → Made z → join (one z) (two z) ≡ z

abbrev pub parts_slots : {X Y Z : Type 0} → (X → List Slot) → (Y → List Slot) → (Z → X) → (Z → Y) → Z → List Slot
parts_slots spellX spellY one two z = spellX (one z) ++ spellY (two z)

abbrev pub PartsWhole : {X Y Z : Type 0} → (X → Type 0) → (Y → Type 0) → (Z → X) → (Z → Y) → (Z → Type 0) → Z → Type 0
PartsWhole WholeX WholeY one two Made z = Made z × WholeX (one z) × WholeY (two z)

parts_to : {X Y Z : Type 0} (join : X → Y → Z) (one : Z → X) (two : Z → Y) (Made : Z → Type 0) (WholeX : X → Type 0) (WholeY : Y → Type 0) → Parts join one two Made → (z : Z) → BothWhole WholeX (λ x. Image (join x) WholeY) one z → PartsWhole WholeX WholeY one two Made z
parts_to join one two Made WholeX WholeY p z f =
    (subst Made f.1.same (p.made (one z) f.1.from), f.0, subst WholeY (sym (p.twos (one z) f.1.from) ∙ ap two f.1.same) f.1.fine)

parts_from : {X Y Z : Type 0} (join : X → Y → Z) (one : Z → X) (two : Z → Y) (Made : Z → Type 0) (WholeX : X → Type 0) (WholeY : Y → Type 0) → Parts join one two Made → (z : Z) → PartsWhole WholeX WholeY one two Made z → BothWhole WholeX (λ x. Image (join x) WholeY) one z
parts_from join one two Made WholeX WholeY p z f = (f.1, record { from = two z; fine = f.2; same = p.back z f.0 })

pub parts_reads : {X Y Z : Type 0} (n : ℕ) (A : Reader X) (B : Reader Y) (join : X → Y → Z) (one : Z → X) (two : Z → Y) (Made : Z → Type 0) (spellX : X → List Slot) (spellY : Y → List Slot) (WholeX : X → Type 0) (WholeY : Y → Type 0) (contX : X → Word → Bool) (contY : Y → Word → Bool) → Parts join one two Made → (eg : Y) → WholeY eg → ((x : X) (y : Y) (front rest : List Placed) → WholeX x → WholeY y → Matches (spellY y) front → first_is (contX x) (front ++ rest) ≡ false) → Reads n A spellX WholeX never contX → Reads n B spellY WholeY never contY → Reads n (chain A (λ x ws. mapped (join x) (B ws))) (parts_slots spellX spellY one two) (PartsWhole WholeX WholeY one two Made) never (λ z. contY (two z))
parts_reads {X} {Y} {Z} n A B join one two Made spellX spellY WholeX WholeY contX contY p eg fine apart a b =
    let C : X → Reader Z = λ x ws. mapped (join x) (B ws) in
    let Put : X → Z → Type 0 = λ x. Image (join x) WholeY in
    let words : Z → List Slot = λ z. spellY (two z) in
    let goes : Z → Word → Bool = λ z. contY (two z) in
    rewhole n (chain A C) (chain A C) (parts_slots spellX spellY one two) (BothWhole WholeX Put one) (PartsWhole WholeX WholeY one two Made) never goes (λ ws. refl) (parts_to join one two Made WholeX WholeY p) (parts_from join one two Made WholeX WholeY p)
    (then_reads n A C spellX WholeX contX words Put goes one (record {
      first = a;
      second = λ x f. plain n (C x) words (Put x) (contX x) goes (map_reads n B (join x) spellY words WholeY never contY goes (λ y. ap spellY (p.twos x y)) (λ y. ap contY (p.twos x y)) b);
      got = λ x z i. ap one (sym i.same) ∙ p.ones x i.from;
      some = λ x f. (join x eg, record { from = eg; fine = fine; same = refl });
      apart = λ x z front rest f i m s. apart x i.from front rest f i.fine (subst (λ ss. Matches ss front) (ap words (sym i.same) ∙ ap spellY (p.twos x i.from)) m);
    }))

-- nothing goes on with the first part
pub quiet : {X Y : Type 0} (spellY : Y → List Slot) (WholeX : X → Type 0) (WholeY : Y → Type 0) (x : X) (y : Y) (front rest : List Placed) → WholeX x → WholeY y → Matches (spellY y) front → first_is never (front ++ rest) ≡ false
quiet spellY WholeX WholeY x y front rest f g m = never_first (front ++ rest)
