-- A text has one first line that is not of the form, and a text of journals has none.
use Rattle.std.proofs.Common.{◌≡◌, ◌≢◌, ℕ, ◌+◌, ◌≤◌, List, [], ◌∷◌, ◌++◌, map, flat_map, length, refl, sym, ap, ap₂, ◌∙◌, arith, ◌⊎◌, inl, inr, append_assoc, append-nil}
use Rattle.std.proofs.lemmas.List.Elements.{All-cons, All-head, All-nil, All-tail}
use Rattle.std.specs.List.{All}
use Rattle.cv_protocol.specs.declared.event.Entry.{Entry}
use Rattle.cv_entry.specs.Texts.{entry_spelling, head_spelling}
use Rattle.cv_entry.specs.Values.{IsEntry}
use Rattle.cv_record.specs.Faults.{IsFirstBad, IsLine, IsText, IsWithinLine, OneFirstBad, lines_in}
use Rattle.cv_record.specs.Journals.{AreJournals, IsJournal, JournalView, RiseAbove, journals_text, line}
use Rattle.cv_record.proofs.Counts.{lines-append, lines-line}
use Rattle.cv_record.proofs.FirstLines.{no_first, one_first}
use Rattle.cv_record.proofs.Follow.{lines_of, lines_within, text_of_lines}
use Rattle.cv_record.proofs.Standing.{some_line}

-- ---- the first lines of journals are journals

-- these lines are those of some of the entries; or of all of them, and of lines behind them
abbrev FromEntries : List Entry → List JournalView → List (List ℕ) → List (List ℕ) → Type 0
FromEntries es js ls zs =
    ((ds : List Entry) × All IsEntry ds × (map entry_spelling ds ≡ ls))
    ⊎ ((ms : List (List ℕ)) × (ls ≡ map entry_spelling es ++ ms) × (lines_of js ≡ ms ++ zs))

cut_entries : (es : List Entry) (js : List JournalView) (ls zs : List (List ℕ)) → All IsEntry es → map entry_spelling es ++ lines_of js ≡ ls ++ zs → FromEntries es js ls zs
cut_entries [] js ls zs h is = inr (ls, refl, is)
cut_entries (e ∷ es) js [] zs h is = inl ([], All-nil IsEntry, refl)
cut_entries (e ∷ es) js (l ∷ ls) zs h is =
    let same : entry_spelling e ≡ l = cc in
    let rest : map entry_spelling es ++ lines_of js ≡ ls ++ zs = cc in
    more same (cut_entries es js ls zs (All-tail IsEntry e es h) rest)
  where
    more : entry_spelling e ≡ l → FromEntries es js ls zs → FromEntries (e ∷ es) js (l ∷ ls) zs
    more same (inl f) = inl (e ∷ f.0, All-cons IsEntry e f.0 (All-head IsEntry e es h) f.1, ap₂ ◌∷◌ same f.2)
    more same (inr f) = inr (f.0, ap₂ ◌∷◌ (sym same) f.1, f.2)

-- journals of which these are the lines
abbrev FirstJournals : ℕ → List (List ℕ) → Type 0
FirstJournals n ls = (ks : List JournalView) × All IsJournal ks × RiseAbove n ks × (lines_of ks ≡ ls)

cut_journals : (n : ℕ) (js : List JournalView) (ls zs : List (List ℕ)) → All IsJournal js → RiseAbove n js → lines_of js ≡ ls ++ zs → FirstJournals n ls
cut_journals n js [] zs h r is = ([], All-nil IsJournal, tt, refl)
cut_journals n [] (l ∷ ls) zs h r is = absurd (let m = ap length is in omega arith)
cut_journals n (j ∷ js) (l ∷ ls) zs h r is =
    let same : head_spelling j.head ≡ l = cc in
    let rest : map entry_spelling j.entries ++ lines_of js ≡ ls ++ zs = cc in
    more same (λ ms is. cut_journals j.head.spec.no js ms zs (All-tail IsJournal j js h) r.1 is) (cut_entries j.entries js ls zs (All-head IsJournal j js h).entries rest)
  where
    joined : head_spelling j.head ≡ l → (ms : List (List ℕ)) → ls ≡ map entry_spelling j.entries ++ ms → FirstJournals j.head.spec.no ms → FirstJournals n (l ∷ ls)
    joined same ms are f = (j ∷ f.0, All-cons IsJournal j f.0 (All-head IsJournal j js h) f.1, (r.0, f.2), ap₂ ◌∷◌ same (ap (λ (xs : List (List ℕ)). map entry_spelling j.entries ++ xs) f.3 ∙ sym are))

    more : head_spelling j.head ≡ l → ((ms : List (List ℕ)) → lines_of js ≡ ms ++ zs → FirstJournals j.head.spec.no ms) → FromEntries j.entries js ls zs → FirstJournals n (l ∷ ls)
    more same cut (inl f) =
        let first = All-head IsJournal j js h in
        let k : IsJournal (record { head = j.head; entries = f.0 }) = record { head = first.head; dropped = first.dropped; entries = f.1 } in (
          record { head = j.head; entries = f.0 } ∷ [],
          All-cons IsJournal _ [] k (All-nil IsJournal),
          (r.0, tt),
          ap₂ ◌∷◌ same (append-nil (map entry_spelling f.0) ∙ f.2),
        )
    more same cut (inr f) = joined same f.0 f.1 (cut f.0 f.2)

-- ---- a bad line behind some lines, in a text of other lines

some_bad : (bad rest : List ℕ) → IsLine bad rest → bad ≢ []
some_bad bad rest (inl f) is = some_line f.0 (sym f.2 ∙ is)
some_bad bad rest (inr f) is = f.1 is

-- where nothing stands in two texts, nothing stands in each
nothing_in : (xs ys : List ℕ) → xs ++ ys ≡ [] → (xs ≡ []) × (ys ≡ [])
nothing_in [] ys e = (refl, e)
nothing_in (x ∷ xs) ys e = absurd (let n = ap length e in omega arith)

-- the lines with the bad one are the first of the others
record Covered (xs ys : List (List ℕ)) (bad : List ℕ) : Type 0 where
  ls : List (List ℕ)
  zs : List (List ℕ)
  split : ys ≡ ls ++ zs
  same : flat_map line xs ++ bad ≡ flat_map line ls

-- they are; or the others are no more than they, and do not reach to the end
abbrev CoveredOrFew : List (List ℕ) → List (List ℕ) → List ℕ → List ℕ → Type 0
CoveredOrFew xs ys bad more = Covered xs ys bad ⊎ ((length ys ≤ length xs) × (more ≢ []))

over : (xs ys : List (List ℕ)) (bad rest more : List ℕ) → All IsWithinLine xs → All IsWithinLine ys → IsLine bad rest → flat_map line xs ++ (bad ++ rest) ≡ flat_map line ys ++ more → CoveredOrFew xs ys bad more
over xs [] bad rest more h k one e =
    inr (omega arith, λ none. some_bad bad rest one (nothing_in bad rest (nothing_in (flat_map line xs) (bad ++ rest) (e ∙ none)).1).0)
over [] (y ∷ ys) bad rest more h k (inl f) e =
    let is = ap (λ (s : List ℕ). s ++ rest) (sym f.2) ∙ e ∙ append_assoc (line y) (flat_map line ys) more in
    let both = one_first f.0 y rest (flat_map line ys ++ more) f.1 (All-head IsWithinLine y ys k) is in
    inl (record { ls = y ∷ []; zs = ys; split = refl; same = f.2 ∙ ap line both.0 ∙ sym (append-nil (line y)) })
over [] (y ∷ ys) bad rest more h k (inr f) e =
    absurd (no_first y (flat_map line ys ++ more) bad f.0 (sym (append_assoc (line y) (flat_map line ys) more) ∙ sym e ∙ ap (λ (s : List ℕ). bad ++ s) f.2 ∙ append-nil bad))
over (x ∷ xs) (y ∷ ys) bad rest more h k one e =
    let is = sym (append_assoc (line x) (flat_map line xs) (bad ++ rest)) ∙ e ∙ append_assoc (line y) (flat_map line ys) more in
    let both = one_first x y (flat_map line xs ++ (bad ++ rest)) (flat_map line ys ++ more) (All-head IsWithinLine x xs h) (All-head IsWithinLine y ys k) is in
    longer both.0 (over xs ys bad rest more (All-tail IsWithinLine x xs h) (All-tail IsWithinLine y ys k) one both.1)
  where
    longer : x ≡ y → CoveredOrFew xs ys bad more → CoveredOrFew (x ∷ xs) (y ∷ ys) bad more
    longer same (inl c) = inl (record {
      ls = y ∷ c.ls;
      zs = c.zs;
      split = ap (λ (ls : List (List ℕ)). y ∷ ls) c.split;
      same = append_assoc (line x) (flat_map line xs) bad ∙ ap₂ ◌++◌ (ap line same) c.same;
    })
    longer same (inr f) = inr (omega (arith, f.0), f.1)

-- ---- one first bad line

-- journals at the front of bytes with a bad line have no more lines than stand before it, and are not all of the bytes
behind : (number : ℕ) (bytes : List ℕ) (f : IsFirstBad number bytes) (js : List JournalView) (more : List ℕ) → AreJournals js → bytes ≡ journals_text js ++ more
    → (length (lines_of js) ≤ length (lines_of f.good.journals)) × (more ≢ [])
behind number bytes f js more a e =
    let good = f.good in
    let front : f.front ≡ flat_map line (lines_of good.journals) = good.is ∙ sym (text_of_lines good.journals) in
    let is = ap (λ (s : List ℕ). s ++ (f.bad ++ f.rest)) (sym front) ∙ sym (append_assoc f.front f.bad f.rest) ∙ sym f.is ∙ e ∙ ap (λ (s : List ℕ). s ++ more) (sym (text_of_lines js)) in
    few front (over (lines_of good.journals) (lines_of js) f.bad f.rest more (lines_within good.journals good.are.each) (lines_within js a.each) f.one is)
  where
    few : f.front ≡ flat_map line (lines_of f.good.journals) → CoveredOrFew (lines_of f.good.journals) (lines_of js) f.bad more → (length (lines_of js) ≤ length (lines_of f.good.journals)) × (more ≢ [])
    few front (inl c) =
        let cut = cut_journals 0 js c.ls c.zs a.each a.rise c.split in
        absurd (f.refused (record {
          journals = cut.0;
          are = record { each = cut.1; rise = cut.2 };
          is = ap (λ (s : List ℕ). s ++ f.bad) front ∙ c.same ∙ ap (flat_map line) (sym cut.3) ∙ text_of_lines cut.0;
        }))
    few front (inr f) = f

-- a text of journals has no bad line
pub none_bad : (number : ℕ) (bytes : List ℕ) (js : List JournalView) → AreJournals js → bytes ≡ journals_text js → IsFirstBad number bytes → ⊥
none_bad number bytes js a e f = (behind number bytes f js [] a (e ∙ sym (append-nil (journals_text js)))).1 refl

counted : (ls : List (List ℕ)) → All IsWithinLine ls → lines_in (flat_map line ls) ≡ length ls
counted [] h = refl
counted (l ∷ ls) h = omega (arith, lines-append (line l) (flat_map line ls), lines-line l (All-head IsWithinLine l ls h), counted ls (All-tail IsWithinLine l ls h))

-- a bad line stands behind as many lines as the journals before it have
place : (number : ℕ) (bytes : List ℕ) (f : IsFirstBad number bytes) → number ≡ length (lines_of f.good.journals) + 1
place number bytes f =
    let js = f.good.journals in
    omega (arith, f.counted, ap lines_in (f.good.is ∙ sym (text_of_lines js)), counted (lines_of js) (lines_within js f.good.are.each))

pub one_first_bad : OneFirstBad
one_first_bad n m bytes f g =
    let fewer : (n m : ℕ) (f : IsFirstBad n bytes) (g : IsFirstBad m bytes) → length (lines_of g.good.journals) ≤ length (lines_of f.good.journals) =
    λ n m f g. (behind n bytes f g.good.journals (g.bad ++ g.rest) g.good.are (g.is ∙ append_assoc g.front g.bad g.rest ∙ ap (λ (s : List ℕ). s ++ (g.bad ++ g.rest)) g.good.is)).0 in
    omega (arith, place n bytes f, place m bytes g, fewer n m f g, fewer m n g f)
