-- Where the reading of journals stands, and why it stops.
use Rattle.std.proofs.Common.{◌≡◌, ◌≢◌, ℕ, ◌+◌, ◌<◌, ◌≤◌, ◌==◌, Bool, true, false, List, [], ◌∷◌, ◌++◌, flat_map, length, refl, sym, ap, ◌∙◌, subst, arith, ◌⊎◌, inl, inr, append_assoc, append-nil, length-append}
use Rattle.std.proofs.lemmas.Bool.{eqb-true}
use Rattle.std.proofs.lemmas.Grind.{flat_map-append}
use Rattle.std.proofs.lemmas.List.Elements.{All-append, All-cons, All-nil}
use Rattle.std.proofs.lemmas.List.Sums.{count_by-le-length}
use Rattle.std.specs.List.{All}
use Rattle.cv_entry.specs.declared.head.Head.{Head}
use Rattle.cv_entry.specs.Texts.{head_spelling}
use Rattle.cv_entry.specs.Values.{IsHead}
use Rattle.cv_record.specs.Faults.{BeginsWithNoEntry, IsFirstBad, IsText, IsWithinLine, is_feed, lines_in}
use Rattle.cv_record.specs.Journals.{AreJournals, IsJournal, JournalView, RiseAbove, journal_text, journals_text, line}
use Rattle.cv_record.proofs.Counts.{lines-append, lines-journal}
use Rattle.cv_record.proofs.Follow.{Follows, follows, last_above, lines_of, lines_within, same_journals, text_of_lines}
use Rattle.cv_record.proofs.FirstLines.{lines_behind}

-- these journals were read, the rest of the bytes begins at that line, and the last number is that one
pub record Stands (bytes : List ℕ) (js : List JournalView) (rest : List ℕ) (above number : ℕ) : Type 0 where
  pub are : AreJournals js
  pub last : above ≡ last_above 0 js
  pub is : bytes ≡ journals_text js ++ rest
  pub counted : number ≡ lines_in (journals_text js) + 1
  pub behind : js ≢ [] → BeginsWithNoEntry rest

-- no first line of a journal above that number stands at the front of the bytes
abbrev pub BeginsWithNoHead : ℕ → List ℕ → Type 0
BeginsWithNoHead above bytes = (h : Head) (more : List ℕ) → IsHead h → h.dropped ≡ 0 → above < h.spec.no → bytes ≢ line (head_spelling h) ++ more

pub stands_first : (bytes : List ℕ) → Stands bytes [] bytes 0 1
stands_first bytes = record { are = record { each = All-nil IsJournal; rise = tt }; last = refl; is = refl; counted = refl; behind = λ no. absurd (no refl) }

-- ---- one journal more

rise_more : (n : ℕ) (js : List JournalView) (j : JournalView) → RiseAbove n js → last_above n js < j.head.spec.no → RiseAbove n (js ++ j ∷ [])
rise_more n [] j r lt = (lt, tt)
rise_more n (k ∷ js) j r lt = (r.0, rise_more k.head.spec.no js j r.1 lt)

last_more : (n : ℕ) (js : List JournalView) (j : JournalView) → last_above n (js ++ j ∷ []) ≡ j.head.spec.no
last_more n [] j = refl
last_more n (k ∷ js) j = last_more k.head.spec.no js j

text_more : (js : List JournalView) (j : JournalView) → journals_text (js ++ j ∷ []) ≡ journals_text js ++ journal_text j
text_more js j = flat_map-append journal_text js (j ∷ []) ∙ ap (λ (s : List ℕ). journals_text js ++ s) (append-nil (journal_text j))

pub stands_more : (bytes : List ℕ) (js : List JournalView) (rest : List ℕ) (above number : ℕ) (j : JournalView) (more : List ℕ) → Stands bytes js rest above number → IsJournal j → above < j.head.spec.no → rest ≡ journal_text j ++ more → BeginsWithNoEntry more
    → Stands bytes (js ++ j ∷ []) more j.head.spec.no (number + (1 + length j.entries))
stands_more bytes js rest above number j more s k lt is begins = record {
  are = record {
    each = All-append IsJournal js (j ∷ []) s.are.each (All-cons IsJournal j [] k (All-nil IsJournal));
    rise = rise_more 0 js j s.are.rise (subst (λ (n : ℕ). n < j.head.spec.no) s.last lt);
  };
  last = sym (last_more 0 js j);
  is = s.is ∙ ap (λ (t : List ℕ). journals_text js ++ t) is ∙ sym (append_assoc (journals_text js) (journal_text j) more) ∙ ap (λ (t : List ℕ). t ++ more) (sym (text_more js j));
  counted = omega (arith, s.counted, ap lines_in (text_more js j), lines-append (journals_text js) (journal_text j), lines-journal j k);
  behind = λ _. begins;
}

-- ---- no journal more

-- what stands behind the text of journals in a text of journals begins with a line that follows them
behind_text : (js ks : List JournalView) (more : List ℕ) → All IsJournal js → AreJournals ks → journals_text ks ≡ journals_text js ++ more → more ≢ []
    → (z : List ℕ) × (rest : List ℕ) × (more ≡ line z ++ rest) × Follows 0 js z
behind_text js ks more j k is some =
    let text = text_of_lines ks ∙ is ∙ ap (λ (t : List ℕ). t ++ more) (sym (text_of_lines js)) in
    let b = lines_behind (lines_of js) (lines_of ks) more (lines_within js j) (lines_within ks k.each) text in
    first js ks more j k some b.0 b.1 b.2
  where
    first : (js ks : List JournalView) (more : List ℕ) → All IsJournal js → AreJournals ks → more ≢ [] → (zs : List (List ℕ)) → lines_of ks ≡ lines_of js ++ zs → flat_map line zs ≡ more
        → (z : List ℕ) × (rest : List ℕ) × (more ≡ line z ++ rest) × Follows 0 js z
    first js ks more j k some [] e f = absurd (some (sym f))
    first js ks more j k some (z ∷ zs) e f = (z, flat_map line zs, sym f, follows 0 js ks z zs j k.each k.rise e)

stuck : (bytes : List ℕ) (js : List JournalView) (rest : List ℕ) (above number : ℕ) (z more : List ℕ) → Stands bytes js rest above number → BeginsWithNoHead above rest → rest ≡ line z ++ more → Follows 0 js z → ⊥
stuck bytes js rest above number z more s none is (inl f) = s.behind f.3 f.0 more f.1 (is ∙ ap (λ (t : List ℕ). line t ++ more) f.2)
stuck bytes js rest above number z more s none is (inr f) =
    none f.0 more f.1 f.2 (subst (λ (n : ℕ). n < f.0.spec.no) (sym s.last) f.3) (is ∙ ap (λ (t : List ℕ). line t ++ more) f.4)

-- bytes that begin as the rest does make no text of journals behind those that were read
no_text : (bytes : List ℕ) (js : List JournalView) (rest : List ℕ) (above number : ℕ) (bad more : List ℕ) → Stands bytes js rest above number → BeginsWithNoHead above rest → bad ≢ [] → rest ≡ bad ++ more → ¬ IsText (journals_text js ++ bad)
no_text bytes js rest above number bad more s none some is t =
    let b = behind_text js t.journals bad s.are.each t.are (sym t.is) some in
    stuck bytes js rest above number b.0 (b.1 ++ more) s none (is ∙ ap (λ (l : List ℕ). l ++ more) b.2 ∙ append_assoc (line b.0) b.1 more) b.3

pub no_journals : (bytes : List ℕ) (js : List JournalView) (rest : List ℕ) (above number : ℕ) (ks : List JournalView) → Stands bytes js rest above number → BeginsWithNoHead above rest → rest ≢ [] → AreJournals ks → bytes ≡ journals_text ks → ⊥
no_journals bytes js rest above number ks s none some k is =
    no_text bytes js rest above number rest [] s none some (sym (append-nil rest)) (record { journals = ks; are = k; is = sym s.is ∙ is })

-- the first line, or that there is none
first_line : (bytes : List ℕ) → ((z : List ℕ) × (more : List ℕ) × IsWithinLine z × (bytes ≡ line z ++ more)) ⊎ IsWithinLine bytes
first_line [] = inr (All-nil (λ b. b ≢ 10))
first_line (b ∷ bytes) = longer (b == 10) refl (first_line bytes)
  where
    other : (b : ℕ) → (b == 10) ≡ false → b ≢ 10
    other b e is = absurd (let t : (10 == 10) ≡ false = subst (λ (x : ℕ). (x == 10) ≡ false) is e in cc)

    longer : (r : Bool) → (b == 10) ≡ r → ((z : List ℕ) × (more : List ℕ) × IsWithinLine z × (bytes ≡ line z ++ more)) ⊎ IsWithinLine bytes
        → ((z : List ℕ) × (more : List ℕ) × IsWithinLine z × (b ∷ bytes ≡ line z ++ more)) ⊎ IsWithinLine (b ∷ bytes)
    longer true e found = inl ([], bytes, All-nil (λ b. b ≢ 10), ap (λ (x : ℕ). x ∷ bytes) (eqb-true b 10 e))
    longer false e (inl f) = inl (b ∷ f.0, f.1, All-cons (λ b. b ≢ 10) b f.0 (other b e) f.2, ap (λ (l : List ℕ). b ∷ l) f.3)
    longer false e (inr h) = inr (All-cons (λ b. b ≢ 10) b bytes (other b e) h)

pub some_line : (z : List ℕ) → line z ≢ []
some_line z e = let n = ap length e in omega (arith, length-append z (10 ∷ []))

pub first_bad : (bytes : List ℕ) (js : List JournalView) (rest : List ℕ) (above number : ℕ) → Stands bytes js rest above number → BeginsWithNoHead above rest → rest ≢ [] → IsFirstBad number bytes
first_bad bytes js rest above number s none some = told (first_line rest)
  where
    told : ((z : List ℕ) × (more : List ℕ) × IsWithinLine z × (rest ≡ line z ++ more)) ⊎ IsWithinLine rest → IsFirstBad number bytes
    told (inl f) = record {
      front = journals_text js;
      bad = line f.0;
      rest = f.1;
      is = s.is ∙ ap (λ (l : List ℕ). journals_text js ++ l) f.3 ∙ sym (append_assoc (journals_text js) (line f.0) f.1);
      good = record { journals = js; are = s.are; is = refl };
      counted = s.counted;
      one = inl (f.0, f.2, refl);
      refused = no_text bytes js rest above number (line f.0) f.1 s none (some_line f.0) f.3;
    }
    told (inr within) = record {
      front = journals_text js;
      bad = rest;
      rest = [];
      is = s.is ∙ sym (append-nil (journals_text js ++ rest));
      good = record { journals = js; are = s.are; is = refl };
      counted = s.counted;
      one = inr (within, some, refl);
      refused = no_text bytes js rest above number rest [] s none some (sym (append-nil rest));
    }

-- ---- the end

pub all_read : (bytes : List ℕ) (js : List JournalView) (above number : ℕ) → Stands bytes js [] above number → bytes ≡ journals_text js
all_read bytes js above number s = s.is ∙ append-nil (journals_text js)

pub same_read : (bytes : List ℕ) (js : List JournalView) (above number : ℕ) (ks : List JournalView) → Stands bytes js [] above number → AreJournals ks → bytes ≡ journals_text ks → js ≡ ks
same_read bytes js above number ks s k is = same_journals js ks s.are.each k.each (sym (all_read bytes js above number s) ∙ is)

-- ---- counts stay small

pub stands_small : (bytes : List ℕ) (js : List JournalView) (rest : List ℕ) (above number : ℕ) → Stands bytes js rest above number → number ≤ length bytes + 1
stands_small bytes js rest above number s =
    omega (arith, s.counted, count_by-le-length is_feed (journals_text js), ap length s.is, length-append (journals_text js) rest)

-- ---- whether anything is left

pub is_nothing : (bytes : List ℕ) → true ≡ (length bytes == 0) → bytes ≡ []
is_nothing [] e = refl
is_nothing (b ∷ bytes) e = absurd (let n = eqb-true (length (b ∷ bytes)) 0 (sym e) in omega arith)

pub is_something : (bytes : List ℕ) → false ≡ (length bytes == 0) → bytes ≢ []
is_something bytes e is = let no : false ≡ (length {A = ℕ} [] == 0) = e ∙ ap (λ (l : List ℕ). length l == 0) is in cc
