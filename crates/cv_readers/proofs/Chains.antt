-- One reader behind another.
use Rattle.std.proofs.Common.{◌≡◌, ℕ, suc, inl, inr, Bool, true, false, List, [], ◌∷◌, ◌++◌, length, Ok, Err, refl, ap, sym, ◌∙◌, subst, append_assoc, append-nil}
use Rattle.cv_lex.specs.declared.word.Word.{Word}
use Rattle.cv_lex.specs.declared.word.Placed.{Placed}
use Rattle.cv_readers.specs.Reading.{Miss, Read, Reader, ◌>>=◌, first_is}
use Rattle.cv_readers.specs.Slots.{Slot, Matches, IsWithin}
use Rattle.cv_readers.proofs.Matching.{matches_append, matches_split, within_append, within_first, within_second, same_first, same_ends}
use Rattle.cv_readers.proofs.Above.{InPart, above_whole, above_split}
use Rattle.cv_readers.proofs.Promises.{never, never_first, missed, Taken, Reaches, Deeper, Stuck, Reads}

abbrev pub chain : {X Y : Type 0} → Reader X → (X → Reader Y) → Reader Y
chain A B ws = A ws >>= λ p. B p.0 p.1

-- what joins a reader to the readers that go on behind its trees; `get` is the first part of a tree
pub record Links {X Y : Type 0} (n : ℕ) (A : Reader X) (B : X → Reader Y) (spellA : X → List Slot) (WholeA : X → Type 0) (contA : X → Word → Bool) (spellB : Y → List Slot) (WholeB : X → Y → Type 0) (contB : Y → Word → Bool) (get : Y → X) : Type 0 where
  pub first : Reads n A spellA WholeA never contA
  pub second : (x : X) → WholeA x → Reads n (B x) spellB (WholeB x) (contA x) contB
  pub got : (x : X) (y : Y) → WholeB x y → get y ≡ x
  pub some : (x : X) → WholeA x → (y : Y) × WholeB x y
  pub apart : (x : X) (y : Y) (front rest : List Placed) → WholeA x → WholeB x y → Matches (spellB y) front → first_is (contB y) rest ≡ false → first_is (contA x) (front ++ rest) ≡ false

abbrev pub both_slots : {X Y : Type 0} → (X → List Slot) → (Y → List Slot) → (Y → X) → Y → List Slot
both_slots spellA spellB get y = spellA (get y) ++ spellB y

abbrev pub BothWhole : {X Y : Type 0} → (X → Type 0) → (X → Y → Type 0) → (Y → X) → Y → Type 0
BothWhole WholeA WholeB get y = WholeA (get y) × WholeB (get y) y

taken : {X Y : Type 0} (n : ℕ) (A : Reader X) (B : X → Reader Y) (spellA : X → List Slot) (WholeA : X → Type 0) (contA : X → Word → Bool) (spellB : Y → List Slot) (WholeB : X → Y → Type 0) (contB : Y → Word → Bool) (get : Y → X) → Links n A B spellA WholeA contA spellB WholeB contB get → (ws : List Placed) (y : Y) (rest : List Placed) (a : Read X) → A ws ≡ a → (a >>= λ p. B p.0 p.1) ≡ Ok (y, rest) → Taken (both_slots spellA spellB get) (BothWhole WholeA WholeB get) contB n ws y rest
taken n A B spellA WholeA contA spellB WholeB contB get l ws y rest (Ok p) e r =
    let t = l.first.takes ws p.0 p.1 (never_first ws) e in
    let u = (l.second p.0 t.fine).takes p.1 y rest t.stops r in
    let g = l.got p.0 y u.fine in
    record {
      front = t.front ++ u.front;
      whole = t.whole ∙ ap (λ z. t.front ++ z) u.whole ∙ sym (append_assoc t.front u.front rest);
      fits = matches_append (spellA (get y)) (spellB y) t.front u.front (subst (λ x. Matches (spellA x) t.front) (sym g) t.fits) u.fits;
      low = within_append n (spellA (get y)) (spellB y) (subst (λ x. IsWithin n (spellA x)) (sym g) t.low) u.low;
      fine = (subst WholeA (sym g) t.fine, subst (λ x. WholeB x y) (sym g) u.fine);
      stops = u.stops;
    }
taken n A B spellA WholeA contA spellB WholeB contB get l ws y rest (Err miss) e r = cc

again : {X Y : Type 0} (n : ℕ) (A : Reader X) (B : X → Reader Y) (spellA : X → List Slot) (WholeA : X → Type 0) (contA : X → Word → Bool) (spellB : Y → List Slot) (WholeB : X → Y → Type 0) (contB : Y → Word → Bool) (get : Y → X) → Links n A B spellA WholeA contA spellB WholeB contB get → (y : Y) (front rest : List Placed) → BothWhole WholeA WholeB get y → IsWithin n (both_slots spellA spellB get y) → Matches (both_slots spellA spellB get y) front → first_is (contB y) rest ≡ false → chain A B (front ++ rest) ≡ Ok (y, rest)
again n A B spellA WholeA contA spellB WholeB contB get l y front rest f low m s =
    let c = matches_split (spellA (get y)) (spellB y) front m in
    let a = l.first.again (get y) c.us (c.vs ++ rest) f.0 (within_first n (spellA (get y)) (spellB y) low) c.first (l.apart (get y) y c.vs rest f.0 f.1 c.second s) in
    let b = (l.second (get y) f.0).again y c.vs rest f.1 (within_second n (spellA (get y)) (spellB y) low) c.second s in
    ap (chain A B) (ap (λ z. z ++ rest) c.whole ∙ append_assoc c.us c.vs rest) ∙ ap (λ r. r >>= λ p. B p.0 p.1) a ∙ b

-- a tree begins where its first part begins
reach_first : {X Y : Type 0} (n : ℕ) (A : Reader X) (B : X → Reader Y) (spellA : X → List Slot) (WholeA : X → Type 0) (contA : X → Word → Bool) (spellB : Y → List Slot) (WholeB : X → Y → Type 0) (contB : Y → Word → Bool) (get : Y → X) → Links n A B spellA WholeA contA spellB WholeB contB get → (front : List Placed) → Reaches spellA WholeA n front → Reaches (both_slots spellA spellB get) (BothWhole WholeA WholeB get) n front
reach_first n A B spellA WholeA contA spellB WholeB contB get l front r =
    let y = l.some r.tree r.fine in
    let g = l.got r.tree y.0 y.1 in
    record {
      tree = y.0;
      ss = r.ss;
      more = r.more ++ spellB y.0;
      split = ap (λ x. spellA x ++ spellB y.0) g ∙ ap (λ z. z ++ spellB y.0) r.split ∙ append_assoc r.ss r.more (spellB y.0);
      fits = r.fits;
      low = r.low;
      fine = (subst WholeA (sym g) r.fine, subst (λ x. WholeB x y.0) (sym g) y.1);
    }

deeper_first : {X Y : Type 0} (n : ℕ) (A : Reader X) (B : X → Reader Y) (spellA : X → List Slot) (WholeA : X → Type 0) (contA : X → Word → Bool) (spellB : Y → List Slot) (WholeB : X → Y → Type 0) (contB : Y → Word → Bool) (get : Y → X) → Links n A B spellA WholeA contA spellB WholeB contB get → (front bad : List Placed) → Deeper spellA WholeA n front bad → Deeper (both_slots spellA spellB get) (BothWhole WholeA WholeB get) n front bad
deeper_first n A B spellA WholeA contA spellB WholeB contB get l front bad d =
    let y = l.some d.tree d.fine in
    let g = l.got d.tree y.0 y.1 in
    record {
      w = d.w;
      rest = d.rest;
      whole = d.whole;
      tree = y.0;
      ss = d.ss;
      s = d.s;
      more = d.more ++ spellB y.0;
      split = ap (λ x. spellA x ++ spellB y.0) g ∙ ap (λ z. z ++ spellB y.0) d.split ∙ append_assoc d.ss (d.s ∷ d.more) (spellB y.0);
      fits = d.fits;
      here = d.here;
      low = d.low;
      level = d.level;
      fine = (subst WholeA (sym g) d.fine, subst (λ x. WholeB x y.0) (sym g) y.1);
    }

-- a tree begins with its first part and the begin of what stands behind that
reach_second : {X Y : Type 0} (n : ℕ) (A : Reader X) (B : X → Reader Y) (spellA : X → List Slot) (WholeA : X → Type 0) (contA : X → Word → Bool) (spellB : Y → List Slot) (WholeB : X → Y → Type 0) (contB : Y → Word → Bool) (get : Y → X) → Links n A B spellA WholeA contA spellB WholeB contB get → (x : X) (front : List Placed) → Matches (spellA x) front → IsWithin n (spellA x) → WholeA x → (next : List Placed) → Reaches spellB (WholeB x) n next → Reaches (both_slots spellA spellB get) (BothWhole WholeA WholeB get) n (front ++ next)
reach_second n A B spellA WholeA contA spellB WholeB contB get l x front m low f next r =
    let g = l.got x r.tree r.fine in
    record {
      tree = r.tree;
      ss = spellA x ++ r.ss;
      more = r.more;
      split = ap (λ z. spellA z ++ spellB r.tree) g ∙ ap (λ z. spellA x ++ z) r.split ∙ sym (append_assoc (spellA x) r.ss r.more);
      fits = matches_append (spellA x) r.ss front next m r.fits;
      low = within_append n (spellA x) r.ss low r.low;
      fine = (subst WholeA (sym g) f, subst (λ z. WholeB z r.tree) (sym g) r.fine);
    }

deeper_second : {X Y : Type 0} (n : ℕ) (A : Reader X) (B : X → Reader Y) (spellA : X → List Slot) (WholeA : X → Type 0) (contA : X → Word → Bool) (spellB : Y → List Slot) (WholeB : X → Y → Type 0) (contB : Y → Word → Bool) (get : Y → X) → Links n A B spellA WholeA contA spellB WholeB contB get → (x : X) (front : List Placed) → Matches (spellA x) front → IsWithin n (spellA x) → WholeA x → (next bad : List Placed) → Deeper spellB (WholeB x) n next bad → Deeper (both_slots spellA spellB get) (BothWhole WholeA WholeB get) n (front ++ next) bad
deeper_second n A B spellA WholeA contA spellB WholeB contB get l x front m low f next bad d =
    let g = l.got x d.tree d.fine in
    record {
      w = d.w;
      rest = d.rest;
      whole = d.whole;
      tree = d.tree;
      ss = spellA x ++ d.ss;
      s = d.s;
      more = d.more;
      split = ap (λ z. spellA z ++ spellB d.tree) g ∙ ap (λ z. spellA x ++ z) d.split ∙ sym (append_assoc (spellA x) d.ss (d.s ∷ d.more));
      fits = matches_append (spellA x) d.ss front next m d.fits;
      here = d.here;
      low = within_append n (spellA x) d.ss low d.low;
      level = d.level;
      fine = (subst WholeA (sym g) f, subst (λ z. WholeB z d.tree) (sym g) d.fine);
    }

stuck : {X Y : Type 0} (n : ℕ) (A : Reader X) (B : X → Reader Y) (spellA : X → List Slot) (WholeA : X → Type 0) (contA : X → Word → Bool) (spellB : Y → List Slot) (WholeB : X → Y → Type 0) (contB : Y → Word → Bool) (get : Y → X) → Links n A B spellA WholeA contA spellB WholeB contB get → (ws : List Placed) (miss : Miss) (a : Read X) → A ws ≡ a → (a >>= λ p. B p.0 p.1) ≡ Err miss → Stuck (both_slots spellA spellB get) (BothWhole WholeA WholeB get) n ws miss
stuck n A B spellA WholeA contA spellB WholeB contB get l ws miss (Ok p) e r =
    let t = l.first.takes ws p.0 p.1 (never_first ws) e in
    let u = (l.second p.0 t.fine).stuck p.1 miss r in
    record {
      front = t.front ++ u.front;
      bad = u.bad;
      whole = t.whole ∙ ap (λ z. t.front ++ z) u.whole ∙ sym (append_assoc t.front u.front u.bad);
      left = u.left;
      reach = reach_second n A B spellA WholeA contA spellB WholeB contB get l p.0 t.front t.fits t.low t.fine u.front u.reach;
      deeper = λ d. deeper_second n A B spellA WholeA contA spellB WholeB contB get l p.0 t.front t.fits t.low t.fine u.front u.bad (u.deeper d);
    }
stuck n A B spellA WholeA contA spellB WholeB contB get l ws miss (Err m) e r =
    let same : m ≡ miss = cc in
    let t = l.first.stuck ws miss (e ∙ ap (λ z. Err z) same) in
    record {
      front = t.front;
      bad = t.bad;
      whole = t.whole;
      left = t.left;
      reach = reach_first n A B spellA WholeA contA spellB WholeB contB get l t.front t.reach;
      deeper = λ d. deeper_first n A B spellA WholeA contA spellB WholeB contB get l t.front t.bad (t.deeper d);
    }

local : {X Y : Type 0} (n : ℕ) (A : Reader X) (B : X → Reader Y) (spellA : X → List Slot) (WholeA : X → Type 0) (contA : X → Word → Bool) (spellB : Y → List Slot) (WholeB : X → Y → Type 0) (contB : Y → Word → Bool) (get : Y → X) → Links n A B spellA WholeA contA spellB WholeB contB get → (k : Bool) (front : List Placed) (w : Placed) (rest more : List Placed) (a : Read X) → A (front ++ w ∷ rest) ≡ a → (a >>= λ p. B p.0 p.1) ≡ Err (missed k (suc (length rest))) → chain A B (front ++ w ∷ more) ≡ Err (missed k (suc (length more)))
local n A B spellA WholeA contA spellB WholeB contB get l k front w rest more (Ok p) e r =
    let t = l.first.takes (front ++ w ∷ rest) p.0 p.1 (never_first (front ++ w ∷ rest)) e in
    let u = (l.second p.0 t.fine).stuck p.1 (missed k (suc (length rest))) r in
    let whole = t.whole ∙ ap (λ z. t.front ++ z) u.whole ∙ sym (append_assoc t.front u.front u.bad) in
    let ends = same_ends front u.bad (t.front ++ u.front) w rest whole u.left in
    let mid = u.whole ∙ ap (λ z. u.front ++ z) ends.1 in
    let b = (l.second p.0 t.fine).local k u.front w rest more (ap (B p.0) (sym mid) ∙ r) in
    let stops = sym (same_first (contA p.0) u.front w rest more) ∙ ap (first_is (contA p.0)) (sym mid) ∙ t.stops in
    let a = l.first.again p.0 t.front (u.front ++ w ∷ more) t.fine t.low t.fits stops in
    ap (chain A B) (ap (λ z. z ++ w ∷ more) ends.0 ∙ append_assoc t.front u.front (w ∷ more)) ∙ ap (λ z. z >>= λ q. B q.0 q.1) a ∙ b
local n A B spellA WholeA contA spellB WholeB contB get l k front w rest more (Err m) e r =
    ap (λ z. z >>= λ q. B q.0 q.1) (l.first.local k front w rest more (e ∙ (let same : m ≡ missed k (suc (length rest)) = cc in ap (λ z. Err z) same)))

deep : {X Y : Type 0} (n : ℕ) (A : Reader X) (B : X → Reader Y) (spellA : X → List Slot) (WholeA : X → Type 0) (contA : X → Word → Bool) (spellB : Y → List Slot) (WholeB : X → Y → Type 0) (contB : Y → Word → Bool) (get : Y → X) → Links n A B spellA WholeA contA spellB WholeB contB get → (y : Y) (front : List Placed) (w : Placed) (rest : List Placed) → BothWhole WholeA WholeB get y → InPart n (spellA (get y)) (spellB y) front w → chain A B (front ++ w ∷ rest) ≡ Err (missed true (suc (length rest)))
deep n A B spellA WholeA contA spellB WholeB contB get l y front w rest f (inl u) = ap (λ z. z >>= λ p. B p.0 p.1) (l.first.deep (get y) front w rest f.0 u)
deep n A B spellA WholeA contA spellB WholeB contB get l y front w rest f (inr c) =
    let all = above_whole n (spellB y) c.vs w c.above in
    let apart = l.apart (get y) y (c.vs ++ w ∷ all.0) [] f.0 f.1 all.1 refl in
    let stops = same_first (contA (get y)) c.vs w rest all.0 ∙ ap (first_is (contA (get y))) (sym (append-nil (c.vs ++ w ∷ all.0))) ∙ apart in
    let a = l.first.again (get y) c.us (c.vs ++ w ∷ rest) f.0 c.low c.first stops in
    let b = (l.second (get y) f.0).deep y c.vs w rest f.1 c.above in
    ap (chain A B) (ap (λ z. z ++ w ∷ rest) c.whole ∙ append_assoc c.us c.vs (w ∷ rest)) ∙ ap (λ z. z >>= λ p. B p.0 p.1) a ∙ b

pub then_reads : {X Y : Type 0} (n : ℕ) (A : Reader X) (B : X → Reader Y) (spellA : X → List Slot) (WholeA : X → Type 0) (contA : X → Word → Bool) (spellB : Y → List Slot) (WholeB : X → Y → Type 0) (contB : Y → Word → Bool) (get : Y → X) → Links n A B spellA WholeA contA spellB WholeB contB get → Reads n (chain A B) (both_slots spellA spellB get) (BothWhole WholeA WholeB get) never contB
then_reads n A B spellA WholeA contA spellB WholeB contB get l = record {
  takes = λ ws y rest s r. taken n A B spellA WholeA contA spellB WholeB contB get l ws y rest (A ws) refl r;
  again = λ y front rest f low m s. again n A B spellA WholeA contA spellB WholeB contB get l y front rest f low m s;
  stuck = λ ws miss r. stuck n A B spellA WholeA contA spellB WholeB contB get l ws miss (A ws) refl r;
  local = λ k front w rest more r. local n A B spellA WholeA contA spellB WholeB contB get l k front w rest more (A (front ++ w ∷ rest)) refl r;
  deep = λ y front w rest f a. deep n A B spellA WholeA contA spellB WholeB contB get l y front w rest f (above_split n (spellA (get y)) (spellB y) front w a);
}
