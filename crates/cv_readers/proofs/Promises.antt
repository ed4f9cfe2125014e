-- What a reader promises about the words of the trees that it reads, and the readers of one word.
use Rattle.std.proofs.Common.{◌≡◌, ℕ, suc, ◌≤◌, Bool, true, false, Option, Some, None, List, [], ◌∷◌, ◌++◌, length, Ok, Err, refl, ap, ◌∙◌, arith}
use Rattle.std.proofs.lemmas.List.{length-append}
use Rattle.cv_lex.specs.declared.word.Word.{Word}
use Rattle.cv_lex.specs.declared.word.Placed.{Placed}
use Rattle.cv_readers.specs.Reading.{Miss, Read, Reader, first_is, word_at, found_word}
use Rattle.cv_readers.specs.Slots.{Slot, IsExpected, Matches, IsWithin}
use Rattle.cv_readers.proofs.Above.{Above, not_above}

-- no word
abbrev pub never : Word → Bool
never w = false

pub never_first : (ws : List Placed) → first_is never ws ≡ false
never_first [] = refl
never_first (w ∷ ws) = refl

-- a stop with so many words left
abbrev pub missed : Bool → ℕ → Miss
missed deep left = record { deep = deep; left = left }

-- x stands in front, within n levels, and what follows does not go on with it
pub record Taken {X : Type 0} (spell : X → List Slot) (Whole : X → Type 0) (cont : X → Word → Bool) (n : ℕ) (ws : List Placed) (x : X) (rest : List Placed) : Type 0 where
  pub front : List Placed
  pub whole : ws ≡ front ++ rest
  pub fits : Matches (spell x) front
  pub low : IsWithin n (spell x)
  pub fine : Whole x
  pub stops : first_is (cont x) rest ≡ false

-- a tree begins with these words, within n levels as far as they go
pub record Reaches {X : Type 0} (spell : X → List Slot) (Whole : X → Type 0) (n : ℕ) (front : List Placed) : Type 0 where
  pub tree : X
  pub ss : List Slot
  pub more : List Slot
  pub split : spell tree ≡ ss ++ more
  pub fits : Matches ss front
  pub low : IsWithin n ss
  pub fine : Whole tree

-- a tree begins with these words and one more, which opens a level too many
pub record Deeper {X : Type 0} (spell : X → List Slot) (Whole : X → Type 0) (n : ℕ) (front bad : List Placed) : Type 0 where
  pub w : Placed
  pub rest : List Placed
  pub whole : bad ≡ w ∷ rest
  pub tree : X
  pub ss : List Slot
  pub s : Slot
  pub more : List Slot
  pub split : spell tree ≡ ss ++ s ∷ more
  pub fits : Matches ss front
  pub here : IsExpected s w
  pub low : IsWithin n ss
  pub level : s.level ≡ suc n
  pub fine : Whole tree

-- the words in front of the stop begin a tree
pub record Stuck {X : Type 0} (spell : X → List Slot) (Whole : X → Type 0) (n : ℕ) (ws : List Placed) (miss : Miss) : Type 0 where
  pub front : List Placed
  pub bad : List Placed
  pub whole : ws ≡ front ++ bad
  pub left : length bad ≡ miss.left
  pub reach : Reaches spell Whole n front
  pub deeper : miss.deep ≡ true → Deeper spell Whole n front bad

-- a reader reads exactly the words of its trees, stops at the first word with which no tree begins, and at the first one of a tree that is over n levels; `start` are words that cannot stand first, `cont` those that go on with a tree
pub record Reads {X : Type 0} (n : ℕ) (R : Reader X) (spell : X → List Slot) (Whole : X → Type 0) (start : Word → Bool) (cont : X → Word → Bool) : Type 0 where
  pub takes : (ws : List Placed) (x : X) (rest : List Placed) → first_is start ws ≡ false → R ws ≡ Ok (x, rest) → Taken spell Whole cont n ws x rest
  pub again : (x : X) (front rest : List Placed) → Whole x → IsWithin n (spell x) → Matches (spell x) front → first_is (cont x) rest ≡ false → R (front ++ rest) ≡ Ok (x, rest)
  pub stuck : (ws : List Placed) (miss : Miss) → R ws ≡ Err miss → Stuck spell Whole n ws miss
  pub local : (k : Bool) (front : List Placed) (w : Placed) (rest more : List Placed) → R (front ++ w ∷ rest) ≡ Err (missed k (suc (length rest))) → R (front ++ w ∷ more) ≡ Err (missed k (suc (length more)))
  pub deep : (x : X) (front : List Placed) (w : Placed) (rest : List Placed) → Whole x → Above n (spell x) front w → R (front ++ w ∷ rest) ≡ Err (missed true (suc (length rest)))

-- what was read, and the words behind it, are told by the answer
abbrev ok : {X : Type 0} → X × List Placed → Read X
ok p = Ok p

ok_same : {X : Type 0} (p q : X × List Placed) → ok p ≡ ok q → p ≡ q
ok_same p q e = cc

pub read_same : {X : Type 0} (x y : X) (ws rest : List Placed) → ok (x, ws) ≡ Ok (y, rest) → x ≡ y
read_same x y ws rest e = ap (λ q. q.0) (ok_same (x, ws) (y, rest) e)

pub rest_same : {X : Type 0} (x y : X) (ws rest : List Placed) → ok (x, ws) ≡ Ok (y, rest) → ws ≡ rest
rest_same x y ws rest e = ap (λ q. q.1) (ok_same (x, ws) (y, rest) e)

-- no reading is both
pub not_both : {X : Type 0} (a : Read X) (p : X × List Placed) (miss : Miss) → a ≡ Ok p → a ≡ Err miss → ⊥
not_both a p miss e f = cc

pub miss_same : {X : Type 0} (a : Read X) (m miss : Miss) → a ≡ Err m → a ≡ Err miss → m ≡ miss
miss_same a m miss e f = cc

-- ---- one word

none_low : (n : ℕ) (s : Slot) → s.level ≤ n → IsWithin n (s ∷ [])
none_low n s e = (e, tt)

taken_word : {X : Type 0} (what : Placed → Option X) (slot : X → Slot) (Whole : X → Type 0) (n : ℕ) (flat : (x : X) → (slot x).level ≤ n) (good : (w : Placed) (x : X) → what w ≡ Some x → IsExpected (slot x) w × Whole x) (w : Placed) (ws : List Placed) (x : X) (rest : List Placed) (o : Option X) → what w ≡ o → found_word o w ws ≡ Ok (x, rest) → Taken (λ y. slot y ∷ []) Whole (λ _. never) n (w ∷ ws) x rest
taken_word what slot Whole n flat good w ws x rest (Some y) e r =
    let same = read_same y x ws rest r in
    let left = rest_same y x ws rest r in
    let g = good w x (e ∙ ap (λ z. Some z) same) in
    record {
      front = w ∷ [];
      whole = ap (λ t. w ∷ t) left;
      fits = (g.0, tt);
      low = none_low n (slot x) (flat x);
      fine = g.1;
      stops = never_first rest;
    }
taken_word what slot Whole n flat good w ws x rest None e r = cc

again_word : {X : Type 0} (what : Placed → Option X) (slot : X → Slot) (Whole : X → Type 0) (back : (w : Placed) (x : X) → Whole x → IsExpected (slot x) w → what w ≡ Some x) (x : X) (front rest : List Placed) → Whole x → Matches (slot x ∷ []) front → word_at what (front ++ rest) ≡ Ok (x, rest)
again_word what slot Whole back x [] rest f m = absurd m
again_word what slot Whole back x (w ∷ []) rest f m = rw (back w x f m.0) refl
again_word what slot Whole back x (w ∷ v ∷ front) rest f m = absurd m.1

pub none_reached : {X : Type 0} (spell : X → List Slot) (Whole : X → Type 0) (n : ℕ) (x : X) → Whole x → Reaches spell Whole n []
none_reached spell Whole n x f = record { tree = x; ss = []; more = spell x; split = refl; fits = tt; low = tt; fine = f }

-- a stop at the first word that cannot stand there
pub stuck_first : {X : Type 0} (spell : X → List Slot) (Whole : X → Type 0) (n : ℕ) (x : X) → Whole x → (ws : List Placed) (miss : Miss) → missed false (length ws) ≡ miss → Stuck spell Whole n ws miss
stuck_first spell Whole n x f ws miss e = record {
  front = [];
  bad = ws;
  whole = refl;
  left = ap (λ m. m.left) e;
  reach = none_reached spell Whole n x f;
  deeper = λ d. let no : false ≡ true = ap (λ m. m.deep) e ∙ d in cc;
}

stuck_word : {X : Type 0} (slot : X → Slot) (Whole : X → Type 0) (n : ℕ) (x : X) → Whole x → (w : Placed) (ws : List Placed) (miss : Miss) (o : Option X) → found_word o w ws ≡ Err miss → Stuck (λ y. slot y ∷ []) Whole n (w ∷ ws) miss
stuck_word slot Whole n x f w ws miss (Some y) r = cc
stuck_word slot Whole n x f w ws miss None r = stuck_first (λ y. slot y ∷ []) Whole n x f (w ∷ ws) miss cc

local_here : {X : Type 0} (w : Placed) (rest more : List Placed) (k : Bool) (o : Option X) → found_word o w rest ≡ Err (missed k (suc (length rest))) → found_word o w more ≡ Err (missed k (suc (length more)))
local_here w rest more k (Some x) r = cc
local_here w rest more k None r =
    let same : missed false (length (w ∷ rest)) ≡ missed k (suc (length rest)) = cc in
    ap (λ m. Err (missed m.deep (suc (length more)))) same

-- a stop is not behind its own words
pub no_longer : (v w : Placed) (front rest : List Placed) → length (v ∷ (front ++ w ∷ rest)) ≡ suc (length rest) → ⊥
no_longer v w front rest e = omega (arith, length-append front (w ∷ rest))

local_there : {X : Type 0} (v w : Placed) (front rest more : List Placed) (k : Bool) (o : Option X) → found_word o v (front ++ w ∷ rest) ≡ Err (missed k (suc (length rest))) → found_word o v (front ++ w ∷ more) ≡ Err (missed k (suc (length more)))
local_there v w front rest more k (Some x) r = cc
local_there v w front rest more k None r =
    let same : missed false (length (v ∷ (front ++ w ∷ rest))) ≡ missed k (suc (length rest)) = cc in
    absurd (no_longer v w front rest (ap (λ m. m.left) same))

word_takes : {X : Type 0} (n : ℕ) (what : Placed → Option X) (slot : X → Slot) (Whole : X → Type 0) → ((x : X) → (slot x).level ≤ n) → ((w : Placed) (x : X) → what w ≡ Some x → IsExpected (slot x) w × Whole x) → (ws : List Placed) (x : X) (rest : List Placed) → first_is never ws ≡ false → word_at what ws ≡ Ok (x, rest) → Taken (λ y. slot y ∷ []) Whole (λ _. never) n ws x rest
word_takes n what slot Whole flat good [] x rest s r = cc
word_takes n what slot Whole flat good (w ∷ ws) x rest s r = taken_word what slot Whole n flat good w ws x rest (what w) refl r

word_stuck : {X : Type 0} (n : ℕ) (what : Placed → Option X) (slot : X → Slot) (Whole : X → Type 0) (eg : X) → Whole eg → (ws : List Placed) (miss : Miss) → word_at what ws ≡ Err miss → Stuck (λ y. slot y ∷ []) Whole n ws miss
word_stuck n what slot Whole eg f [] miss r = stuck_first (λ y. slot y ∷ []) Whole n eg f [] miss cc
word_stuck n what slot Whole eg f (w ∷ ws) miss r = stuck_word slot Whole n eg f w ws miss (what w) r

word_local : {X : Type 0} (what : Placed → Option X) (k : Bool) (front : List Placed) (w : Placed) (rest more : List Placed) → word_at what (front ++ w ∷ rest) ≡ Err (missed k (suc (length rest))) → word_at what (front ++ w ∷ more) ≡ Err (missed k (suc (length more)))
word_local what k [] w rest more r = local_here w rest more k (what w) r
word_local what k (v ∷ front) w rest more r = local_there v w front rest more k (what v) r

-- a reader of one word, where not every value is read
pub some_word_reads : {X : Type 0} (n : ℕ) (what : Placed → Option X) (slot : X → Slot) (Whole : X → Type 0) → ((x : X) → (slot x).level ≤ n) → ((w : Placed) (x : X) → what w ≡ Some x → IsExpected (slot x) w × Whole x) → ((w : Placed) (x : X) → Whole x → IsExpected (slot x) w → what w ≡ Some x) → (eg : X) → Whole eg → Reads n (word_at what) (λ x. slot x ∷ []) Whole never (λ _. never)
some_word_reads n what slot Whole flat good back eg f = record {
  takes = word_takes n what slot Whole flat good;
  again = λ x front rest g low m s. again_word what slot Whole back x front rest g m;
  stuck = word_stuck n what slot Whole eg f;
  local = word_local what;
  deep = λ x front w rest g a. absurd (not_above n (slot x ∷ []) front w (none_low n (slot x) (flat x)) a);
}

pub word_reads : {X : Type 0} (n : ℕ) (what : Placed → Option X) (slot : X → Slot) → ((x : X) → (slot x).level ≤ n) → ((w : Placed) (x : X) → what w ≡ Some x → IsExpected (slot x) w) → ((w : Placed) (x : X) → IsExpected (slot x) w → what w ≡ Some x) → X → Reads n (word_at what) (λ x. slot x ∷ []) (λ _. Unit {0}) never (λ _. never)
word_reads n what slot flat good back eg = some_word_reads n what slot (λ _. Unit {0}) flat (λ w x e. (good w x e, tt)) (λ w x f m. back w x m) eg tt
