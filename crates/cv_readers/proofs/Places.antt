-- A part that may be missing, and trees that keep the place of their first word.
use Rattle.std.proofs.Common.{◌≡◌, ℕ, suc, inl, inr, Bool, true, false, cond, Option, Some, None, IfSome, List, [], ◌∷◌, ◌++◌, length, Ok, Err, refl, ap, sym, ◌∙◌, subst}
use Rattle.cv_lex.specs.declared.word.Word.{Word}
use Rattle.cv_lex.specs.declared.word.Placed.{Placed}
use Rattle.cv_readers.specs.Reading.{Miss, Reader, first_is, place_of}
use Rattle.cv_readers.specs.Combining.{mapped}
use Rattle.cv_readers.specs.Slots.{Slot, IsExpected, Matches, IsWithin, place_first}
use Rattle.cv_readers.proofs.Matching.{BeginsWith, leads_first, same_first}
use Rattle.cv_readers.proofs.Above.{Above, above_first}
use Rattle.cv_readers.proofs.Promises.{never, never_first, missed, read_same, rest_same, Taken, Reaches, Deeper, Stuck, Reads}
use Rattle.cv_readers.proofs.Changes.{recast_stuck, mapped_ok, mapped_err}
use Rattle.cv_readers.proofs.Choices.{Either, pick}

-- ---- a part that may be missing

abbrev pub maybe : {X : Type 0} → (Word → Bool) → Reader X → X → Reader X
maybe p A x = pick p A (λ ws. Ok (x, ws))

maybe_taken : {X : Type 0} (n : ℕ) (p : Word → Bool) (A : Reader X) (none : X) (spell : X → List Slot) (Whole : X → Type 0) (cont : X → Word → Bool) → spell none ≡ [] → cont none ≡ p → Reads n A spell Whole never cont → (ws : List Placed) (x : X) (rest : List Placed) (b : Bool) → first_is p ws ≡ b → cond b (A ws) (Ok (none, ws)) ≡ Ok (x, rest) → Taken spell (Either Whole (λ y. none ≡ y)) cont n ws x rest
maybe_taken n p A none spell Whole cont e c a ws x rest true f r =
    let t = a.takes ws x rest (never_first ws) r in
    record { front = t.front; whole = t.whole; fits = t.fits; low = t.low; fine = inl t.fine; stops = t.stops }
maybe_taken n p A none spell Whole cont e c a ws x rest false f r =
    let same = read_same none x ws rest r in
    let left = rest_same none x ws rest r in
    let words : [] ≡ spell x = sym e ∙ ap spell same in
    record {
      front = [];
      whole = left;
      fits = subst (λ ss. Matches ss []) words tt;
      low = subst (IsWithin n) words tt;
      fine = inr same;
      stops = ap (λ z. first_is (cont z) rest) (sym same) ∙ ap (λ q. first_is q rest) c ∙ ap (first_is p) (sym left) ∙ f;
    }

none_front : (ss : List Slot) (front : List Placed) → ss ≡ [] → Matches ss front → [] ≡ front
none_front [] [] e m = refl
none_front [] (w ∷ front) e m = absurd m
none_front (s ∷ ss) front e m = cc

maybe_again : {X : Type 0} (n : ℕ) (p : Word → Bool) (A : Reader X) (none : X) (spell : X → List Slot) (Whole : X → Type 0) (cont : X → Word → Bool) → spell none ≡ [] → cont none ≡ p → ((x : X) → Whole x → BeginsWith p true (spell x)) → Reads n A spell Whole never cont → (x : X) (front rest : List Placed) → Either Whole (λ y. none ≡ y) x → IsWithin n (spell x) → Matches (spell x) front → first_is (cont x) rest ≡ false → maybe p A none (front ++ rest) ≡ Ok (x, rest)
maybe_again n p A none spell Whole cont e c begins a x front rest (inl f) low m s =
    ap (λ b. cond b (A (front ++ rest)) (Ok (none, front ++ rest))) (leads_first p true (spell x) front rest (begins x f) m) ∙ a.again x front rest f low m s
maybe_again n p A none spell Whole cont e c begins a x front rest (inr f) low m s =
    let empty = none_front (spell x) front (ap spell (sym f) ∙ e) m in
    let stops : first_is p rest ≡ false = ap (λ q. first_is q rest) (sym c ∙ ap cont f) ∙ s in
    ap (λ z. maybe p A none (z ++ rest)) (sym empty) ∙ ap (λ b. cond b (A rest) (Ok (none, rest))) stops ∙ ap (λ z. Ok (z, rest)) f

maybe_stuck : {X : Type 0} (n : ℕ) (p : Word → Bool) (A : Reader X) (none : X) (spell : X → List Slot) (Whole : X → Type 0) (cont : X → Word → Bool) → Reads n A spell Whole never cont → (ws : List Placed) (miss : Miss) (b : Bool) → cond b (A ws) (Ok (none, ws)) ≡ Err miss → Stuck spell (Either Whole (λ y. none ≡ y)) n ws miss
maybe_stuck n p A none spell Whole cont a ws miss true r = recast_stuck n spell spell Whole (Either Whole (λ y. none ≡ y)) (λ x f. refl) (λ x f. inl f) ws miss (a.stuck ws miss r)
maybe_stuck n p A none spell Whole cont a ws miss false r = cc

maybe_local : {X : Type 0} (n : ℕ) (A : Reader X) (none : X) (spell : X → List Slot) (Whole : X → Type 0) (cont : X → Word → Bool) → Reads n A spell Whole never cont → (k : Bool) (front : List Placed) (w : Placed) (rest more : List Placed) (b : Bool) → cond b (A (front ++ w ∷ rest)) (Ok (none, front ++ w ∷ rest)) ≡ Err (missed k (suc (length rest))) → cond b (A (front ++ w ∷ more)) (Ok (none, front ++ w ∷ more)) ≡ Err (missed k (suc (length more)))
maybe_local n A none spell Whole cont a k front w rest more true r = a.local k front w rest more r
maybe_local n A none spell Whole cont a k front w rest more false r = cc

maybe_deep : {X : Type 0} (n : ℕ) (p : Word → Bool) (A : Reader X) (none : X) (spell : X → List Slot) (Whole : X → Type 0) (cont : X → Word → Bool) → spell none ≡ [] → ((x : X) → Whole x → BeginsWith p true (spell x)) → Reads n A spell Whole never cont → (x : X) (front : List Placed) (w : Placed) (rest : List Placed) → Either Whole (λ y. none ≡ y) x → Above n (spell x) front w → maybe p A none (front ++ w ∷ rest) ≡ Err (missed true (suc (length rest)))
maybe_deep n p A none spell Whole cont e begins a x front w rest (inl f) u =
    ap (λ b. cond b (A (front ++ w ∷ rest)) (Ok (none, front ++ w ∷ rest))) (above_first p true n (spell x) front w rest (begins x f) u) ∙ a.deep x front w rest f u
maybe_deep n p A none spell Whole cont e begins a x front w rest (inr f) u = absurd (subst (λ ss. Above n ss front w) (ap spell (sym f) ∙ e) u)

pub maybe_reads : {X : Type 0} (n : ℕ) (p : Word → Bool) (A : Reader X) (none : X) (spell : X → List Slot) (Whole : X → Type 0) (cont : X → Word → Bool) → spell none ≡ [] → cont none ≡ p → ((x : X) → Whole x → BeginsWith p true (spell x)) → Reads n A spell Whole never cont → Reads n (maybe p A none) spell (Either Whole (λ y. none ≡ y)) never cont
maybe_reads n p A none spell Whole cont e c begins a = record {
  takes = λ ws x rest s r. maybe_taken n p A none spell Whole cont e c a ws x rest (first_is p ws) refl r;
  again = maybe_again n p A none spell Whole cont e c begins a;
  stuck = λ ws miss r. maybe_stuck n p A none spell Whole cont a ws miss (first_is p ws) r;
  local = λ k front w rest more r.
      let same = same_first p front w rest more in
      ap (λ b. cond b (A (front ++ w ∷ more)) (Ok (none, front ++ w ∷ more))) (sym same) ∙ maybe_local n A none spell Whole cont a k front w rest more (first_is p (front ++ w ∷ rest)) r;
  deep = maybe_deep n p A none spell Whole cont e begins a;
}

-- ---- the place of the first word

-- there is a first word, and its place is not kept
abbrev pub Unplaced : List Slot → Type 0
Unplaced [] = ⊥
Unplaced (s ∷ ss) = s.at ≡ None

abbrev pub here : {X : Type 0} → Reader X → Reader (ℕ × X)
here {X} R ws = mapped (λ (x : X). (place_of ws, x)) (R ws)

abbrev pub here_slots : {X : Type 0} → (X → List Slot) → ℕ × X → List Slot
here_slots spell q = place_first q.0 (spell q.1)

free : (o : Option ℕ) (at : ℕ) → o ≡ None → IfSome o (λ p. p ≡ at)
free None at e = tt
free (Some p) at e = cc

place_matches : (ss : List Slot) (front rest : List Placed) → Unplaced ss → Matches ss front → Matches (place_first (place_of (front ++ rest)) ss) front
place_matches [] front rest u m = absurd u
place_matches (s ∷ ss) [] rest u m = absurd m
place_matches (s ∷ ss) (w ∷ front) rest u m = ((m.0.0, refl), m.1)

place_within : (n at : ℕ) (ss : List Slot) → IsWithin n ss → IsWithin n (place_first at ss)
place_within n at [] l = tt
place_within n at (s ∷ ss) l = l

within_place : (n at : ℕ) (ss : List Slot) → IsWithin n (place_first at ss) → IsWithin n ss
within_place n at [] l = tt
within_place n at (s ∷ ss) l = l

matches_place : (at : ℕ) (ss : List Slot) (front rest : List Placed) → Unplaced ss → Matches (place_first at ss) front → Matches ss front × (place_of (front ++ rest) ≡ at)
matches_place at [] front rest u m = absurd u
matches_place at (s ∷ ss) [] rest u m = absurd m
matches_place at (s ∷ ss) (w ∷ front) rest u m = (((m.0.0, free s.at w.at u), m.1), sym m.0.1)

above_place : (n at : ℕ) (ss : List Slot) (front : List Placed) (w : Placed) → Unplaced ss → Above n (place_first at ss) front w → Above n ss front w
above_place n at [] front w u a = a
above_place n at (s ∷ ss) [] w u a = ((a.0.0, free s.at w.at u), a.1)
above_place n at (s ∷ ss) (v ∷ front) w u a = ((a.0.0, free s.at v.at u), a.1, a.2)

front_unplaced : (ss more : List Slot) (s : Slot) (rs : List Slot) → ss ≡ s ∷ rs → Unplaced (ss ++ more) → Unplaced ss
front_unplaced [] more s rs e u = cc
front_unplaced (t ∷ ss) more s rs e u = u

here_reach : {X : Type 0} (n : ℕ) (spell : X → List Slot) (Whole : X → Type 0) → ((x : X) → Whole x → Unplaced (spell x)) → (front : List Placed) (tree : X) (ss more : List Slot) → spell tree ≡ ss ++ more → Matches ss front → IsWithin n ss → Whole tree → Reaches (here_slots spell) (λ q. Whole q.1) n front
here_reach n spell Whole bare [] tree [] more e m l f = record { tree = (0, tree); ss = []; more = place_first 0 more; split = ap (place_first 0) e; fits = tt; low = tt; fine = f }
here_reach n spell Whole bare (w ∷ front) tree [] more e m l f = absurd m
here_reach n spell Whole bare [] tree (s ∷ ss) more e m l f = absurd m
here_reach n spell Whole bare (w ∷ front) tree (s ∷ ss) more e m l f = record { tree = (w.at, tree); ss = place_first w.at (s ∷ ss); more = more; split = ap (place_first w.at) e; fits = ((m.0.0, refl), m.1); low = l; fine = f }

here_deeper : {X : Type 0} (n : ℕ) (spell : X → List Slot) (Whole : X → Type 0) (front bad : List Placed) (w : Placed) (rest : List Placed) → bad ≡ w ∷ rest → (tree : X) (ss : List Slot) (s : Slot) (more : List Slot) → spell tree ≡ ss ++ s ∷ more → Matches ss front → IsExpected s w → IsWithin n ss → s.level ≡ suc n → Whole tree → Deeper (here_slots spell) (λ q. Whole q.1) n front bad
here_deeper n spell Whole [] bad w rest b tree [] s more e m here l v f = record { w = w; rest = rest; whole = b; tree = (w.at, tree); ss = []; s = record { word = s.word; at = Some w.at; level = s.level }; more = more; split = ap (place_first w.at) e; fits = tt; here = (here.0, refl); low = tt; level = v; fine = f }
here_deeper n spell Whole (x ∷ front) bad w rest b tree [] s more e m here l v f = absurd m
here_deeper n spell Whole [] bad w rest b tree (t ∷ ss) s more e m here l v f = absurd m
here_deeper n spell Whole (x ∷ front) bad w rest b tree (t ∷ ss) s more e m here l v f = record { w = w; rest = rest; whole = b; tree = (x.at, tree); ss = place_first x.at (t ∷ ss); s = s; more = more; split = ap (place_first x.at) e; fits = ((m.0.0, refl), m.1); here = here; low = l; level = v; fine = f }

here_taken : {X : Type 0} (n : ℕ) (spell : X → List Slot) (Whole : X → Type 0) (cont : X → Word → Bool) → ((x : X) → Whole x → Unplaced (spell x)) → (ws : List Placed) (q : ℕ × X) (rest : List Placed) (p : X × List Placed) → Taken spell Whole cont n ws p.0 p.1 → mapped (λ (x : X). (place_of ws, x)) (Ok p) ≡ Ok (q, rest) → Taken (here_slots spell) (λ q. Whole q.1) (λ q. cont q.1) n ws q rest
here_taken {X} n spell Whole cont bare ws q rest p t r =
    let mine : ℕ × X = (place_of ws, p.0) in
    let same = read_same mine q p.1 rest r in
    let left = rest_same mine q p.1 rest r in
    let at : place_of ws ≡ place_of (t.front ++ p.1) = ap place_of t.whole in
    let all : Taken (here_slots spell) (λ z. Whole z.1) (λ z. cont z.1) n ws mine p.1 = record {
      front = t.front;
      whole = t.whole;
      fits = subst (λ z. Matches (place_first z (spell p.0)) t.front) (sym at) (place_matches (spell p.0) t.front p.1 (bare p.0 t.fine) t.fits);
      low = place_within n (place_of ws) (spell p.0) t.low;
      fine = t.fine;
      stops = t.stops;
    } in
    subst (λ z. Taken (here_slots spell) (λ y. Whole y.1) (λ y. cont y.1) n ws q z) left (subst (λ z. Taken (here_slots spell) (λ y. Whole y.1) (λ y. cont y.1) n ws z p.1) same all)

pub here_reads : {X : Type 0} (n : ℕ) (R : Reader X) (spell : X → List Slot) (Whole : X → Type 0) (cont : X → Word → Bool) → ((x : X) → Whole x → Unplaced (spell x)) → Reads n R spell Whole never cont → Reads n (here R) (here_slots spell) (λ q. Whole q.1) never (λ q. cont q.1)
here_reads {X} n R spell Whole cont bare reads = record {
  takes = λ ws q rest s r.
      let p = mapped_ok (λ (x : X). (place_of ws, x)) (R ws) q rest r in
      here_taken n spell Whole cont bare ws q rest p.0 (reads.takes ws p.0.0 p.0.1 s p.1) p.2;
  again = λ q front rest f low m s.
      let u = matches_place q.0 (spell q.1) front rest (bare q.1 f) m in
      let a = reads.again q.1 front rest f (within_place n q.0 (spell q.1) low) u.0 s in
      let put : ℕ → X → ℕ × X = λ at x. (at, x) in
      ap (mapped (put (place_of (front ++ rest)))) a ∙ ap (λ z. Ok (put z q.1, rest)) u.1;
  stuck = λ ws miss r.
      let t = reads.stuck ws miss (mapped_err (λ (x : X). (place_of ws, x)) (R ws) miss r) in
      record {
        front = t.front;
        bad = t.bad;
        whole = t.whole;
        left = t.left;
        reach = let u = t.reach in here_reach n spell Whole bare t.front u.tree u.ss u.more u.split u.fits u.low u.fine;
        deeper = λ d.
            let u = t.deeper d in
            here_deeper n spell Whole t.front t.bad u.w u.rest u.whole u.tree u.ss u.s u.more u.split u.fits u.here u.low u.level u.fine;
      };
  local = λ k front w rest more r.
      let e = reads.local k front w rest more (mapped_err (λ (x : X). (place_of (front ++ w ∷ rest), x)) (R (front ++ w ∷ rest)) (missed k (suc (length rest))) r) in
      ap (mapped (λ (x : X). (place_of (front ++ w ∷ more), x))) e;
  deep = λ q front w rest f a.
      let e = reads.deep q.1 front w rest f (above_place n q.0 (spell q.1) front w (bare q.1 f) a) in
      ap (mapped (λ (x : X). (place_of (front ++ w ∷ rest), x))) e;
}
