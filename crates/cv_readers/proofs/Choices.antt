-- One of two readers, by the first word.
use Rattle.std.proofs.Common.{◌≡◌, ℕ, suc, ◌⊎◌, inl, inr, Bool, true, false, cond, List, [], ◌∷◌, ◌++◌, length, Ok, Err, refl, ap, sym, ◌∙◌, subst, append-nil, arith}
use Rattle.cv_lex.specs.declared.word.Word.{Word}
use Rattle.cv_lex.specs.declared.word.Placed.{Placed}
use Rattle.cv_readers.specs.Reading.{Miss, Reader, first_is, too_deep}
use Rattle.cv_readers.specs.Slots.{Slot, IsExpected, Matches, IsWithin}
use Rattle.cv_readers.proofs.Matching.{BeginsWith, leads_first, same_first}
use Rattle.cv_readers.proofs.Above.{Above, above_first, above_whole}
use Rattle.cv_readers.proofs.Promises.{never, missed, none_reached, no_longer, Taken, Stuck, Reads}
use Rattle.cv_readers.proofs.Changes.{recast_stuck}

abbrev pub pick : {X : Type 0} → (Word → Bool) → Reader X → Reader X → Reader X
pick p A B ws = cond (first_is p ws) (A ws) (B ws)

abbrev pub Either : {X : Type 0} → (X → Type 0) → (X → Type 0) → X → Type 0
Either P Q x = P x ⊎ Q x

taken : {X : Type 0} (n : ℕ) (p : Word → Bool) (A B : Reader X) (spell : X → List Slot) (WholeA WholeB : X → Type 0) (cont : X → Word → Bool) → Reads n A spell WholeA never cont → Reads n B spell WholeB never cont → (ws : List Placed) (x : X) (rest : List Placed) (b : Bool) → first_is never ws ≡ false → cond b (A ws) (B ws) ≡ Ok (x, rest) → Taken spell (Either WholeA WholeB) cont n ws x rest
taken n p A B spell WholeA WholeB cont a b ws x rest true s r =
    let t = a.takes ws x rest s r in
    record { front = t.front; whole = t.whole; fits = t.fits; low = t.low; fine = inl t.fine; stops = t.stops }
taken n p A B spell WholeA WholeB cont a b ws x rest false s r =
    let t = b.takes ws x rest s r in
    record { front = t.front; whole = t.whole; fits = t.fits; low = t.low; fine = inr t.fine; stops = t.stops }

stuck : {X : Type 0} (n : ℕ) (p : Word → Bool) (A B : Reader X) (spell : X → List Slot) (WholeA WholeB : X → Type 0) (cont : X → Word → Bool) → Reads n A spell WholeA never cont → Reads n B spell WholeB never cont → (ws : List Placed) (miss : Miss) (b : Bool) → cond b (A ws) (B ws) ≡ Err miss → Stuck spell (Either WholeA WholeB) n ws miss
stuck n p A B spell WholeA WholeB cont a b ws miss true r = recast_stuck n spell spell WholeA (Either WholeA WholeB) (λ x f. refl) (λ x f. inl f) ws miss (a.stuck ws miss r)
stuck n p A B spell WholeA WholeB cont a b ws miss false r = recast_stuck n spell spell WholeB (Either WholeA WholeB) (λ x f. refl) (λ x f. inr f) ws miss (b.stuck ws miss r)

local : {X : Type 0} (n : ℕ) (A B : Reader X) (spell : X → List Slot) (WholeA WholeB : X → Type 0) (cont : X → Word → Bool) → Reads n A spell WholeA never cont → Reads n B spell WholeB never cont → (k : Bool) (front : List Placed) (w : Placed) (rest more : List Placed) (b : Bool) → cond b (A (front ++ w ∷ rest)) (B (front ++ w ∷ rest)) ≡ Err (missed k (suc (length rest))) → cond b (A (front ++ w ∷ more)) (B (front ++ w ∷ more)) ≡ Err (missed k (suc (length more)))
local n A B spell WholeA WholeB cont a b k front w rest more true r = a.local k front w rest more r
local n A B spell WholeA WholeB cont a b k front w rest more false r = b.local k front w rest more r

again : {X : Type 0} (n : ℕ) (p : Word → Bool) (A B : Reader X) (spell : X → List Slot) (WholeA WholeB : X → Type 0) (cont : X → Word → Bool) → Reads n A spell WholeA never cont → Reads n B spell WholeB never cont → ((x : X) → WholeA x → BeginsWith p true (spell x)) → ((x : X) (front rest : List Placed) → WholeB x → Matches (spell x) front → first_is (cont x) rest ≡ false → first_is p (front ++ rest) ≡ false) → (x : X) (front rest : List Placed) → Either WholeA WholeB x → IsWithin n (spell x) → Matches (spell x) front → first_is (cont x) rest ≡ false → pick p A B (front ++ rest) ≡ Ok (x, rest)
again n p A B spell WholeA WholeB cont a b begins avoids x front rest (inl f) low m s =
    ap (λ c. cond c (A (front ++ rest)) (B (front ++ rest))) (leads_first p true (spell x) front rest (begins x f) m) ∙ a.again x front rest f low m s
again n p A B spell WholeA WholeB cont a b begins avoids x front rest (inr f) low m s =
    ap (λ c. cond c (A (front ++ rest)) (B (front ++ rest))) (avoids x front rest f m s) ∙ b.again x front rest f low m s

deep : {X : Type 0} (n : ℕ) (p : Word → Bool) (A B : Reader X) (spell : X → List Slot) (WholeA WholeB : X → Type 0) (cont : X → Word → Bool) → Reads n A spell WholeA never cont → Reads n B spell WholeB never cont → ((x : X) → WholeA x → BeginsWith p true (spell x)) → ((x : X) (front rest : List Placed) → WholeB x → Matches (spell x) front → first_is (cont x) rest ≡ false → first_is p (front ++ rest) ≡ false) → (x : X) (front : List Placed) (w : Placed) (rest : List Placed) → Either WholeA WholeB x → Above n (spell x) front w → pick p A B (front ++ w ∷ rest) ≡ Err (missed true (suc (length rest)))
deep n p A B spell WholeA WholeB cont a b begins avoids x front w rest (inl f) u =
    ap (λ c. cond c (A (front ++ w ∷ rest)) (B (front ++ w ∷ rest))) (above_first p true n (spell x) front w rest (begins x f) u) ∙ a.deep x front w rest f u
deep n p A B spell WholeA WholeB cont a b begins avoids x front w rest (inr f) u =
    let all = above_whole n (spell x) front w u in
    let other = same_first p front w rest all.0 ∙ ap (first_is p) (sym (append-nil (front ++ w ∷ all.0))) ∙ avoids x (front ++ w ∷ all.0) [] f all.1 refl in
    ap (λ c. cond c (A (front ++ w ∷ rest)) (B (front ++ w ∷ rest))) other ∙ b.deep x front w rest f u

-- the second reader may read no word at all
pub choice_reads : {X : Type 0} (n : ℕ) (p : Word → Bool) (A B : Reader X) (spell : X → List Slot) (WholeA WholeB : X → Type 0) (cont : X → Word → Bool) → Reads n A spell WholeA never cont → Reads n B spell WholeB never cont → ((x : X) → WholeA x → BeginsWith p true (spell x)) → ((x : X) (front rest : List Placed) → WholeB x → Matches (spell x) front → first_is (cont x) rest ≡ false → first_is p (front ++ rest) ≡ false) → Reads n (pick p A B) spell (Either WholeA WholeB) never cont
choice_reads n p A B spell WholeA WholeB cont a b begins avoids = record {
  takes = λ ws x rest s r. taken n p A B spell WholeA WholeB cont a b ws x rest (first_is p ws) s r;
  again = again n p A B spell WholeA WholeB cont a b begins avoids;
  stuck = λ ws miss r. stuck n p A B spell WholeA WholeB cont a b ws miss (first_is p ws) r;
  local = λ k front w rest more r.
      let same = same_first p front w rest more in
      ap (λ c. cond c (A (front ++ w ∷ more)) (B (front ++ w ∷ more))) (sym same) ∙ local n A B spell WholeA WholeB cont a b k front w rest more (first_is p (front ++ w ∷ rest)) r;
  deep = deep n p A B spell WholeA WholeB cont a b begins avoids;
}

pub pick_reads : {X : Type 0} (n : ℕ) (p : Word → Bool) (A B : Reader X) (spell : X → List Slot) (WholeA WholeB : X → Type 0) (cont : X → Word → Bool) → Reads n A spell WholeA never cont → Reads n B spell WholeB never cont → ((x : X) → WholeA x → BeginsWith p true (spell x)) → ((x : X) → WholeB x → BeginsWith p false (spell x)) → Reads n (pick p A B) spell (Either WholeA WholeB) never cont
pick_reads n p A B spell WholeA WholeB cont a b begins avoids =
    choice_reads n p A B spell WholeA WholeB cont a b begins (λ x front rest f m s. leads_first p false (spell x) front rest (avoids x f) m)

-- ---- where no level is left

-- a tree that begins with this word, which opens a level
pub record Begun {X : Type 0} (spell : X → List Slot) (Whole : X → Type 0) (w : Placed) : Type 0 where
  pub tree : X
  pub s : Slot
  pub more : List Slot
  pub split : spell tree ≡ s ∷ more
  pub here : IsExpected s w
  pub level : s.level ≡ 1
  pub fine : Whole tree

-- the first word opens a level
abbrev pub Opens : List Slot → Type 0
Opens [] = ⊥
Opens (s ∷ ss) = s.level ≡ 1

pub not_low : (ss : List Slot) → Opens ss → IsWithin 0 ss → ⊥
not_low [] o l = o
not_low (s ∷ ss) o l = omega (arith, o, l.0)

-- a stop at a first word that opens a level too many
pub deep_first : {X : Type 0} (spell : X → List Slot) (Whole : X → Type 0) (w : Placed) (ws : List Placed) → Begun spell Whole w → Stuck spell Whole 0 (w ∷ ws) (missed true (length (w ∷ ws)))
deep_first spell Whole w ws b = record {
  front = [];
  bad = w ∷ ws;
  whole = refl;
  left = refl;
  reach = none_reached spell Whole 0 b.tree b.fine;
  deeper = λ d. record { w = w; rest = ws; whole = refl; tree = b.tree; ss = []; s = b.s; more = b.more; split = b.split; fits = tt; here = b.here; low = tt; level = b.level; fine = b.fine };
}

deep_taken : {X : Type 0} (B : Reader X) (spell : X → List Slot) (WholeA WholeB : X → Type 0) (cont : X → Word → Bool) → Reads 0 B spell WholeB never cont → (ws : List Placed) (x : X) (rest : List Placed) (b : Bool) → first_is never ws ≡ false → cond b (too_deep ws) (B ws) ≡ Ok (x, rest) → Taken spell (Either WholeA WholeB) cont 0 ws x rest
deep_taken B spell WholeA WholeB cont b ws x rest true s r = cc
deep_taken B spell WholeA WholeB cont b ws x rest false s r =
    let t = b.takes ws x rest s r in
    record { front = t.front; whole = t.whole; fits = t.fits; low = t.low; fine = inr t.fine; stops = t.stops }

deep_again : {X : Type 0} (p : Word → Bool) (B : Reader X) (spell : X → List Slot) (WholeA WholeB : X → Type 0) (cont : X → Word → Bool) → Reads 0 B spell WholeB never cont → ((x : X) → WholeA x → Opens (spell x)) → ((x : X) → WholeB x → BeginsWith p false (spell x)) → (x : X) (front rest : List Placed) → Either WholeA WholeB x → IsWithin 0 (spell x) → Matches (spell x) front → first_is (cont x) rest ≡ false → pick p too_deep B (front ++ rest) ≡ Ok (x, rest)
deep_again p B spell WholeA WholeB cont b begins avoids x front rest (inl f) low m s = absurd (not_low (spell x) (begins x f) low)
deep_again p B spell WholeA WholeB cont b begins avoids x front rest (inr f) low m s =
    ap (λ c. cond c (too_deep (front ++ rest)) (B (front ++ rest))) (leads_first p false (spell x) front rest (avoids x f) m) ∙ b.again x front rest f low m s

deep_stuck : {X : Type 0} (p : Word → Bool) (B : Reader X) (spell : X → List Slot) (WholeA WholeB : X → Type 0) (cont : X → Word → Bool) → Reads 0 B spell WholeB never cont → ((w : Placed) → p w.word ≡ true → Begun spell WholeA w) → (ws : List Placed) (miss : Miss) (c : Bool) → first_is p ws ≡ c → cond c (too_deep ws) (B ws) ≡ Err miss → Stuck spell (Either WholeA WholeB) 0 ws miss
deep_stuck p B spell WholeA WholeB cont b begin [] miss true e r = cc
deep_stuck p B spell WholeA WholeB cont b begin (w ∷ ws) miss true e r =
    let same : missed true (length (w ∷ ws)) ≡ miss = cc in
    subst (Stuck spell (Either WholeA WholeB) 0 (w ∷ ws)) same (recast_stuck 0 spell spell WholeA (Either WholeA WholeB) (λ x f. refl) (λ x f. inl f) (w ∷ ws) _ (deep_first spell WholeA w ws (begin w e)))
deep_stuck p B spell WholeA WholeB cont b begin ws miss false e r = recast_stuck 0 spell spell WholeB (Either WholeA WholeB) (λ x f. refl) (λ x f. inr f) ws miss (b.stuck ws miss r)

deep_local : {X : Type 0} (p : Word → Bool) (B : Reader X) (spell : X → List Slot) (WholeB : X → Type 0) (cont : X → Word → Bool) → Reads 0 B spell WholeB never cont → (k : Bool) (front : List Placed) (w : Placed) (rest more : List Placed) (c : Bool) → cond c (too_deep (front ++ w ∷ rest)) (B (front ++ w ∷ rest)) ≡ Err (missed k (suc (length rest))) → cond c (too_deep (front ++ w ∷ more)) (B (front ++ w ∷ more)) ≡ Err (missed k (suc (length more)))
deep_local p B spell WholeB cont b k [] w rest more true r =
    let same : missed true (length (w ∷ rest)) ≡ missed k (suc (length rest)) = cc in
    ap (λ m. Err (missed m.deep (suc (length more)))) same
deep_local p B spell WholeB cont b k (v ∷ front) w rest more true r =
    let same : missed true (length (v ∷ (front ++ w ∷ rest))) ≡ missed k (suc (length rest)) = cc in
    absurd (no_longer v w front rest (ap (λ m. m.left) same))
deep_local p B spell WholeB cont b k front w rest more false r = b.local k front w rest more r

here_deep : (ss : List Slot) (front : List Placed) (w : Placed) (rest : List Placed) → Opens ss → Above 0 ss front w → missed true (length (front ++ w ∷ rest)) ≡ missed true (suc (length rest))
here_deep [] front w rest o a = absurd o
here_deep (s ∷ ss) [] w rest o a = refl
here_deep (s ∷ ss) (v ∷ front) w rest o a = absurd (omega (arith, o, a.1))

deep_deep : {X : Type 0} (p : Word → Bool) (B : Reader X) (spell : X → List Slot) (WholeA WholeB : X → Type 0) (cont : X → Word → Bool) → Reads 0 B spell WholeB never cont → ((x : X) → WholeA x → Opens (spell x)) → ((x : X) → WholeA x → BeginsWith p true (spell x)) → ((x : X) → WholeB x → BeginsWith p false (spell x)) → (x : X) (front : List Placed) (w : Placed) (rest : List Placed) → Either WholeA WholeB x → Above 0 (spell x) front w → pick p too_deep B (front ++ w ∷ rest) ≡ Err (missed true (suc (length rest)))
deep_deep p B spell WholeA WholeB cont b begins leads avoids x front w rest (inl f) a =
    ap (λ c. cond c (too_deep (front ++ w ∷ rest)) (B (front ++ w ∷ rest))) (above_first p true 0 (spell x) front w rest (leads x f) a) ∙ ap (λ m. Err m) (here_deep (spell x) front w rest (begins x f) a)
deep_deep p B spell WholeA WholeB cont b begins leads avoids x front w rest (inr f) a =
    ap (λ c. cond c (too_deep (front ++ w ∷ rest)) (B (front ++ w ∷ rest))) (above_first p false 0 (spell x) front w rest (avoids x f) a) ∙ b.deep x front w rest f a

pub deep_reads : {X : Type 0} (p : Word → Bool) (B : Reader X) (spell : X → List Slot) (WholeA WholeB : X → Type 0) (cont : X → Word → Bool) → Reads 0 B spell WholeB never cont → ((x : X) → WholeA x → Opens (spell x)) → ((x : X) → WholeA x → BeginsWith p true (spell x)) → ((x : X) → WholeB x → BeginsWith p false (spell x)) → ((w : Placed) → p w.word ≡ true → Begun spell WholeA w) → Reads 0 (pick p too_deep B) spell (Either WholeA WholeB) never cont
deep_reads p B spell WholeA WholeB cont b begins leads avoids begin = record {
  takes = λ ws x rest s r. deep_taken B spell WholeA WholeB cont b ws x rest (first_is p ws) s r;
  again = deep_again p B spell WholeA WholeB cont b begins avoids;
  stuck = λ ws miss r. deep_stuck p B spell WholeA WholeB cont b begin ws miss (first_is p ws) refl r;
  local = λ k front w rest more r.
      let same = same_first p front w rest more in
      ap (λ c. cond c (too_deep (front ++ w ∷ more)) (B (front ++ w ∷ more))) (sym same) ∙ deep_local p B spell WholeB cont b k front w rest more (first_is p (front ++ w ∷ rest)) r;
  deep = deep_deep p B spell WholeA WholeB cont b begins leads avoids;
}
