-- The same reader, seen otherwise.
use Rattle.std.proofs.Common.{◌≡◌, ℕ, suc, Bool, false, List, ◌∷◌, ◌++◌, length, Ok, Err, refl, ap, sym, ◌∙◌, subst}
use Rattle.cv_lex.specs.declared.word.Word.{Word}
use Rattle.cv_lex.specs.declared.word.Placed.{Placed}
use Rattle.cv_readers.specs.Reading.{Miss, Read, Reader, first_is}
use Rattle.cv_readers.specs.Combining.{mapped}
use Rattle.cv_readers.specs.Slots.{Slot, Matches, IsWithin, raise}
use Rattle.cv_readers.proofs.Matching.{within_raise, within_lower, raise_append, matches_raise, matches_lower}
use Rattle.cv_readers.proofs.Above.{Above, above_lower}
use Rattle.cv_readers.proofs.Promises.{missed, read_same, rest_same, Taken, Reaches, Deeper, Stuck, Reads}

-- ---- what was read, in another form

pub record Image {X Y : Type 0} (form : X → Y) (Whole : X → Type 0) (y : Y) : Type 0 where
  pub from : X
  pub fine : Whole from
  pub same : form from ≡ y

mapped_taken : {X Y : Type 0} (n : ℕ) (form : X → Y) (spellX : X → List Slot) (spellY : Y → List Slot) (WholeX : X → Type 0) (contX : X → Word → Bool) (contY : Y → Word → Bool) → ((x : X) → spellY (form x) ≡ spellX x) → ((x : X) → contY (form x) ≡ contX x) → (ws : List Placed) (y : Y) (rest : List Placed) (p : X × List Placed) → Taken spellX WholeX contX n ws p.0 p.1 → mapped form (Ok p) ≡ Ok (y, rest) → Taken spellY (Image form WholeX) contY n ws y rest
mapped_taken n form spellX spellY WholeX contX contY same conts ws y rest p t r =
    let e = read_same (form p.0) y p.1 rest r in
    let b = rest_same (form p.0) y p.1 rest r in
    let words : spellX p.0 ≡ spellY y = sym (same p.0) ∙ ap spellY e in
    let goes : contX p.0 ≡ contY y = sym (conts p.0) ∙ ap contY e in
    record {
      front = t.front;
      whole = t.whole ∙ ap (λ z. t.front ++ z) b;
      fits = subst (λ ss. Matches ss t.front) words t.fits;
      low = subst (IsWithin n) words t.low;
      fine = record { from = p.0; fine = t.fine; same = e };
      stops = ap (λ z. first_is (contY y) z) (sym b) ∙ ap (λ c. first_is c p.1) (sym goes) ∙ t.stops;
    }

mapped_reach : {X Y : Type 0} (n : ℕ) (form : X → Y) (spellX : X → List Slot) (spellY : Y → List Slot) (WholeX : X → Type 0) → ((x : X) → spellY (form x) ≡ spellX x) → (front : List Placed) → Reaches spellX WholeX n front → Reaches spellY (Image form WholeX) n front
mapped_reach n form spellX spellY WholeX same front r = record {
  tree = form r.tree;
  ss = r.ss;
  more = r.more;
  split = same r.tree ∙ r.split;
  fits = r.fits;
  low = r.low;
  fine = record { from = r.tree; fine = r.fine; same = refl };
}

mapped_deeper : {X Y : Type 0} (n : ℕ) (form : X → Y) (spellX : X → List Slot) (spellY : Y → List Slot) (WholeX : X → Type 0) → ((x : X) → spellY (form x) ≡ spellX x) → (front bad : List Placed) → Deeper spellX WholeX n front bad → Deeper spellY (Image form WholeX) n front bad
mapped_deeper n form spellX spellY WholeX same front bad d = record {
  w = d.w;
  rest = d.rest;
  whole = d.whole;
  tree = form d.tree;
  ss = d.ss;
  s = d.s;
  more = d.more;
  split = same d.tree ∙ d.split;
  fits = d.fits;
  here = d.here;
  low = d.low;
  level = d.level;
  fine = record { from = d.tree; fine = d.fine; same = refl };
}

mapped_stuck : {X Y : Type 0} (n : ℕ) (form : X → Y) (spellX : X → List Slot) (spellY : Y → List Slot) (WholeX : X → Type 0) → ((x : X) → spellY (form x) ≡ spellX x) → (ws : List Placed) (miss : Miss) → Stuck spellX WholeX n ws miss → Stuck spellY (Image form WholeX) n ws miss
mapped_stuck n form spellX spellY WholeX same ws miss t = record {
  front = t.front;
  bad = t.bad;
  whole = t.whole;
  left = t.left;
  reach = mapped_reach n form spellX spellY WholeX same t.front t.reach;
  deeper = λ d. mapped_deeper n form spellX spellY WholeX same t.front t.bad (t.deeper d);
}

pub mapped_ok : {X Y : Type 0} (form : X → Y) (a : Read X) (y : Y) (rest : List Placed) → mapped form a ≡ Ok (y, rest) → (p : X × List Placed) × (a ≡ Ok p) × (mapped form (Ok p) ≡ Ok (y, rest))
mapped_ok form (Ok p) y rest r = (p, refl, r)
mapped_ok form (Err m) y rest r = cc

pub mapped_err : {X Y : Type 0} (form : X → Y) (a : Read X) (miss : Miss) → mapped form a ≡ Err miss → a ≡ Err miss
mapped_err form (Ok p) miss r = cc
mapped_err form (Err m) miss r = cc

pub map_reads : {X Y : Type 0} (n : ℕ) (R : Reader X) (form : X → Y) (spellX : X → List Slot) (spellY : Y → List Slot) (WholeX : X → Type 0) (start : Word → Bool) (contX : X → Word → Bool) (contY : Y → Word → Bool) → ((x : X) → spellY (form x) ≡ spellX x) → ((x : X) → contY (form x) ≡ contX x) → Reads n R spellX WholeX start contX → Reads n (λ ws. mapped form (R ws)) spellY (Image form WholeX) start contY
map_reads n R form spellX spellY WholeX start contX contY same conts reads = record {
  takes = λ ws y rest s r.
      let p = mapped_ok form (R ws) y rest r in
      mapped_taken n form spellX spellY WholeX contX contY same conts ws y rest p.0 (reads.takes ws p.0.0 p.0.1 s p.1) p.2;
  again = λ y front rest f low m s.
      let words : spellY y ≡ spellX f.from = ap spellY (sym f.same) ∙ same f.from in
      let goes : contY y ≡ contX f.from = ap contY (sym f.same) ∙ conts f.from in
      let a = reads.again f.from front rest f.fine (subst (IsWithin n) words low) (subst (λ ss. Matches ss front) words m) (ap (λ c. first_is c rest) (sym goes) ∙ s) in
      ap (mapped form) a ∙ ap (λ z. Ok (z, rest)) f.same;
  stuck = λ ws miss r. mapped_stuck n form spellX spellY WholeX same ws miss (reads.stuck ws miss (mapped_err form (R ws) miss r));
  local = λ k front w rest more r. ap (mapped form) (reads.local k front w rest more (mapped_err form (R (front ++ w ∷ rest)) (missed k (suc (length rest))) r));
  deep = λ y front w rest f a. ap (mapped form) (reads.deep f.from front w rest f.fine (subst (λ ss. Above n ss front w) (ap spellY (sym f.same) ∙ same f.from) a));
}

-- ---- an equal reader, and an equivalent choice of trees

pub recast_stuck : {X : Type 0} (n : ℕ) (spell spelled : X → List Slot) (Whole Other : X → Type 0) → ((x : X) → Whole x → spell x ≡ spelled x) → ((x : X) → Whole x → Other x) → (ws : List Placed) (miss : Miss) → Stuck spell Whole n ws miss → Stuck spelled Other n ws miss
recast_stuck n spell spelled Whole Other words to ws miss t = record {
  front = t.front;
  bad = t.bad;
  whole = t.whole;
  left = t.left;
  reach = let r = t.reach in record { tree = r.tree; ss = r.ss; more = r.more; split = sym (words r.tree r.fine) ∙ r.split; fits = r.fits; low = r.low; fine = to r.tree r.fine };
  deeper = λ d.
      let r = t.deeper d in
      record { w = r.w; rest = r.rest; whole = r.whole; tree = r.tree; ss = r.ss; s = r.s; more = r.more; split = sym (words r.tree r.fine) ∙ r.split; fits = r.fits; here = r.here; low = r.low; level = r.level; fine = to r.tree r.fine };
}

pub recast : {X : Type 0} (n : ℕ) (R S : Reader X) (spell spelled : X → List Slot) (Whole Other : X → Type 0) (start : Word → Bool) (cont conts : X → Word → Bool) → ((ws : List Placed) → S ws ≡ R ws) → ((x : X) → Whole x → spell x ≡ spelled x) → ((x : X) → Whole x → cont x ≡ conts x) → ((x : X) → Whole x → Other x) → ((x : X) → Other x → Whole x) → Reads n R spell Whole start cont → Reads n S spelled Other start conts
recast n R S spell spelled Whole Other start cont conts same words goes to from reads = record {
  takes = λ ws x rest s r.
      let t = reads.takes ws x rest s (sym (same ws) ∙ r) in
      let e = words x t.fine in
      record { front = t.front; whole = t.whole; fits = subst (λ ss. Matches ss t.front) e t.fits; low = subst (IsWithin n) e t.low; fine = to x t.fine; stops = ap (λ c. first_is c rest) (sym (goes x t.fine)) ∙ t.stops };
  again = λ x front rest f low m s.
      let e = sym (words x (from x f)) in
      same (front ++ rest) ∙ reads.again x front rest (from x f) (subst (IsWithin n) e low) (subst (λ ss. Matches ss front) e m) (ap (λ c. first_is c rest) (goes x (from x f)) ∙ s);
  stuck = λ ws miss r. recast_stuck n spell spelled Whole Other words to ws miss (reads.stuck ws miss (sym (same ws) ∙ r));
  local = λ k front w rest more r. same (front ++ w ∷ more) ∙ reads.local k front w rest more (sym (same (front ++ w ∷ rest)) ∙ r);
  deep = λ x front w rest f a. same (front ++ w ∷ rest) ∙ reads.deep x front w rest (from x f) (subst (λ ss. Above n ss front w) (sym (words x (from x f))) a);
}

-- the same words, with another reader or an equivalent choice of trees
pub rewhole : {X : Type 0} (n : ℕ) (R S : Reader X) (spell : X → List Slot) (Whole Other : X → Type 0) (start : Word → Bool) (cont : X → Word → Bool) → ((ws : List Placed) → S ws ≡ R ws) → ((x : X) → Whole x → Other x) → ((x : X) → Other x → Whole x) → Reads n R spell Whole start cont → Reads n S spell Other start cont
rewhole n R S spell Whole Other start cont same to from reads = recast n R S spell spell Whole Other start cont cont same (λ x f. refl) (λ x f. refl) to from reads

-- fewer words may stand first
pub earlier : {X : Type 0} (n : ℕ) (R : Reader X) (spell : X → List Slot) (Whole : X → Type 0) (start sooner : Word → Bool) (cont : X → Word → Bool) → ((ws : List Placed) → first_is sooner ws ≡ false → first_is start ws ≡ false) → Reads n R spell Whole start cont → Reads n R spell Whole sooner cont
earlier n R spell Whole start sooner cont less reads = record {
  takes = λ ws x rest s r. reads.takes ws x rest (less ws s) r;
  again = reads.again;
  stuck = reads.stuck;
  local = reads.local;
  deep = reads.deep;
}

-- ---- one level more round the words

pub raised : {X : Type 0} (n : ℕ) (R : Reader X) (spell : X → List Slot) (Whole : X → Type 0) (start : Word → Bool) (cont : X → Word → Bool) → Reads n R spell Whole start cont → Reads (suc n) R (λ x. raise (spell x)) Whole start cont
raised n R spell Whole start cont reads = record {
  takes = λ ws x rest s r.
      let t = reads.takes ws x rest s r in
      record { front = t.front; whole = t.whole; fits = matches_raise (spell x) t.front t.fits; low = within_raise n (spell x) t.low; fine = t.fine; stops = t.stops };
  again = λ x front rest f low m s. reads.again x front rest f (within_lower n (spell x) low) (matches_lower (spell x) front m) s;
  stuck = λ ws miss r.
      let t = reads.stuck ws miss r in
      record {
        front = t.front;
        bad = t.bad;
        whole = t.whole;
        left = t.left;
        reach =
            let u = t.reach in
            record { tree = u.tree; ss = raise u.ss; more = raise u.more; split = ap raise u.split ∙ raise_append u.ss u.more; fits = matches_raise u.ss t.front u.fits; low = within_raise n u.ss u.low; fine = u.fine };
        deeper = λ d.
            let u = t.deeper d in
            record {
              w = u.w;
              rest = u.rest;
              whole = u.whole;
              tree = u.tree;
              ss = raise u.ss;
              s = record { word = u.s.word; at = u.s.at; level = suc u.s.level };
              more = raise u.more;
              split = ap raise u.split ∙ raise_append u.ss (u.s ∷ u.more);
              fits = matches_raise u.ss t.front u.fits;
              here = u.here;
              low = within_raise n u.ss u.low;
              level = ap suc u.level;
              fine = u.fine;
            };
      };
  local = reads.local;
  deep = λ x front w rest f a. reads.deep x front w rest f (above_lower n (spell x) front w a);
}
