-- The lines of journals, and what line may follow them.
use Rattle.std.proofs.Common.{◌≡◌, ◌≢◌, ℕ, ◌<◌, List, [], ◌∷◌, ◌++◌, map, flat_map, length, refl, sym, ap, ap₂, ◌∙◌, subst, arith, ◌⊎◌, inl, inr, append_assoc, append-nil, length-append}
use Rattle.std.proofs.lemmas.List.Elements.{All-append, All-cons, All-head, All-nil, All-tail}
use Rattle.std.proofs.lemmas.Grind.{flat_map-append}
use Rattle.std.proofs.lemmas.List.Folds.{flat_map-map}
use Rattle.std.specs.List.{All}
use Rattle.cv_token.proofs.Round.{one_spelling}
use Rattle.cv_protocol.specs.declared.event.Entry.{Entry}
use Rattle.cv_entry.specs.declared.head.Head.{Head}
use Rattle.cv_entry.specs.Texts.{entry_spelling, head_spelling}
use Rattle.cv_entry.specs.Trees.{entry_tree, head_tree}
use Rattle.cv_entry.specs.Values.{IsEntry, IsHead}
use Rattle.cv_entry.specs.laws.OneEntry.{entry_is_no_head, one_entry, one_head}
use Rattle.cv_entry.proofs.Held.{entry_held, head_held}
use Rattle.cv_record.specs.Faults.{IsWithinLine}
use Rattle.cv_record.specs.Journals.{IsJournal, JournalView, RiseAbove, entry_line, journals_text, line}
use Rattle.cv_record.proofs.Feedless.{within_line}
use Rattle.cv_record.proofs.FirstLines.{lines_behind}

-- ---- single lines

pub entry_within : (e : Entry) → IsEntry e → IsWithinLine (entry_spelling e)
entry_within e k = within_line (entry_tree e) (entry_held e k).token

pub head_within : (h : Head) → IsHead h → IsWithinLine (head_spelling h)
head_within h k = within_line (head_tree h) (head_held h k).token

pub same_entry : (d e : Entry) → IsEntry d → IsEntry e → entry_spelling d ≡ entry_spelling e → d ≡ e
same_entry d e j k is = one_entry d e j k (one_spelling _ _ (entry_held d j) (entry_held e k) is)

pub same_head : (g h : Head) → IsHead g → IsHead h → head_spelling g ≡ head_spelling h → g ≡ h
same_head g h j k is = one_head g h j k (one_spelling _ _ (head_held g j) (head_held h k) is)

pub apart : (e : Entry) (h : Head) → IsEntry e → IsHead h → entry_spelling e ≡ head_spelling h → ⊥
apart e h j k is = entry_is_no_head e h (one_spelling _ _ (entry_held e j) (head_held h k) is)

-- ---- the lines of journals

abbrev pub journal_lines : JournalView → List (List ℕ)
journal_lines j = head_spelling j.head ∷ map entry_spelling j.entries

abbrev pub lines_of : List JournalView → List (List ℕ)
lines_of [] = []
lines_of (j ∷ js) = head_spelling j.head ∷ (map entry_spelling j.entries ++ lines_of js)

pub text_of_lines : (js : List JournalView) → flat_map line (lines_of js) ≡ journals_text js
text_of_lines [] = refl
text_of_lines (j ∷ js) =
    ap (λ (s : List ℕ). line (head_spelling j.head) ++ s) (flat_map-append line (map entry_spelling j.entries) (lines_of js) ∙ ap₂ ◌++◌ (flat_map-map line entry_spelling j.entries) (text_of_lines js))
    ∙ sym (append_assoc (line (head_spelling j.head)) (flat_map entry_line j.entries) (journals_text js))

entries_within : (es : List Entry) → All IsEntry es → All IsWithinLine (map entry_spelling es)
entries_within [] h = All-nil IsWithinLine
entries_within (e ∷ es) h = All-cons IsWithinLine _ _ (entry_within e (All-head IsEntry e es h)) (entries_within es (All-tail IsEntry e es h))

pub lines_within : (js : List JournalView) → All IsJournal js → All IsWithinLine (lines_of js)
lines_within [] h = All-nil IsWithinLine
lines_within (j ∷ js) h =
    let first = All-head IsJournal j js h in
    All-cons IsWithinLine _ _ (head_within j.head first.head) (All-append IsWithinLine _ _ (entries_within j.entries first.entries) (lines_within js (All-tail IsJournal j js h)))

-- ---- what may follow

-- the last of the numbers, or the first number where there are no journals
abbrev pub last_above : ℕ → List JournalView → ℕ
last_above n [] = n
last_above n (j ∷ js) = last_above j.head.spec.no js

-- a line that is an entry's behind a journal, or the first one of a further journal
abbrev pub Follows : ℕ → List JournalView → List ℕ → Type 0
Follows n js text =
    ((e : Entry) × IsEntry e × (text ≡ entry_spelling e) × (js ≢ []))
    ⊎ ((h : Head) × IsHead h × (h.dropped ≡ 0) × (last_above n js < h.spec.no) × (text ≡ head_spelling h))

-- behind the entries of one journal
behind_entries : (Goal : Type 0) (es ds : List Entry) (js ks : List JournalView) (z : List ℕ) (zs : List (List ℕ)) → All IsEntry es → All IsEntry ds → All IsJournal js → All IsJournal ks
    → (lines_of ks ≡ lines_of js ++ z ∷ zs → Goal) → ((d : Entry) → IsEntry d → z ≡ entry_spelling d → Goal)
    → map entry_spelling ds ++ lines_of ks ≡ (map entry_spelling es ++ lines_of js) ++ z ∷ zs → Goal
behind_entries Goal [] [] js ks z zs h k j i next own is = next is
behind_entries Goal [] (d ∷ ds) [] ks z zs h k j i next own is = own d (All-head IsEntry d ds k) (let same : entry_spelling d ≡ z = cc in sym same)
behind_entries Goal [] (d ∷ ds) (q ∷ js) ks z zs h k j i next own is =
    absurd (let same : entry_spelling d ≡ head_spelling q.head = cc in apart d q.head (All-head IsEntry d ds k) (All-head IsJournal q js j).head same)
behind_entries Goal (e ∷ es) [] js [] z zs h k j i next own is = absurd (let n = ap length is in omega arith)
behind_entries Goal (e ∷ es) [] js (q ∷ ks) z zs h k j i next own is =
    absurd (let same : head_spelling q.head ≡ entry_spelling e = cc in apart e q.head (All-head IsEntry e es h) (All-head IsJournal q ks i).head (sym same))
behind_entries Goal (e ∷ es) (d ∷ ds) js ks z zs h k j i next own is =
    let rest : map entry_spelling ds ++ lines_of ks ≡ (map entry_spelling es ++ lines_of js) ++ z ∷ zs = cc in
    behind_entries Goal es ds js ks z zs (All-tail IsEntry e es h) (All-tail IsEntry d ds k) j i next own rest

some : (j : JournalView) (js : List JournalView) → j ∷ js ≢ []
some j js e = let n = ap length e in omega arith

later : (n : ℕ) (j : JournalView) (js : List JournalView) (z : List ℕ) → Follows j.head.spec.no js z → Follows n (j ∷ js) z
later n j js z (inl e) = inl (e.0, e.1, e.2, some j js)
later n j js z (inr h) = inr h

-- what stands behind the lines of journals in the lines of journals follows them
pub follows : (n : ℕ) (js ks : List JournalView) (z : List ℕ) (zs : List (List ℕ)) → All IsJournal js → All IsJournal ks → RiseAbove n ks → lines_of ks ≡ lines_of js ++ z ∷ zs → Follows n js z
follows n [] [] z zs j k r is = absurd (let m = ap length is in omega arith)
follows n [] (q ∷ ks) z zs j k r is =
    let first = All-head IsJournal q ks k in
    let same : head_spelling q.head ≡ z = cc in
    inr (q.head, first.head, first.dropped, r.0, sym same)
follows n (p ∷ js) [] z zs j k r is = absurd (let m = ap length is in omega arith)
follows n (p ∷ js) (q ∷ ks) z zs j k r is =
    let one = All-head IsJournal p js j in
    let other = All-head IsJournal q ks k in
    let heads : head_spelling q.head ≡ head_spelling p.head = cc in
    let no = ap (λ (h : Head). h.spec.no) (same_head q.head p.head other.head one.head heads) in
    let rest : map entry_spelling q.entries ++ lines_of ks ≡ (map entry_spelling p.entries ++ lines_of js) ++ z ∷ zs = cc in
    behind_entries (Follows n (p ∷ js) z) p.entries q.entries js ks z zs one.entries other.entries (All-tail IsJournal p js j) (All-tail IsJournal q ks k)
    (λ e. later n p js z (follows p.head.spec.no js ks z zs (All-tail IsJournal p js j) (All-tail IsJournal q ks k) (subst (λ (m : ℕ). RiseAbove m ks) no r.1) e)) (λ d k e. inl (d, k, e, some p js)) rest

-- lines that make no bytes are none
nothing : (ls zs : List (List ℕ)) → flat_map line zs ≡ [] → ls ++ zs ≡ ls
nothing ls [] e = append-nil ls
nothing ls (z ∷ zs) e = absurd (let n = ap length e in omega (arith, length-append (line z) (flat_map line zs), length-append z (10 ∷ [])))

-- ---- one text has one list of journals

same_entries : (es ds : List Entry) (js ks : List JournalView) → All IsEntry es → All IsEntry ds → All IsJournal js → All IsJournal ks → map entry_spelling es ++ lines_of js ≡ map entry_spelling ds ++ lines_of ks
    → (es ≡ ds) × (lines_of js ≡ lines_of ks)
same_entries [] [] js ks h k j i is = (refl, is)
same_entries [] (d ∷ ds) [] ks h k j i is = absurd (let n = ap length is in omega arith)
same_entries [] (d ∷ ds) (p ∷ js) ks h k j i is =
    absurd (let same : head_spelling p.head ≡ entry_spelling d = cc in apart d p.head (All-head IsEntry d ds k) (All-head IsJournal p js j).head (sym same))
same_entries (e ∷ es) [] js [] h k j i is = absurd (let n = ap length is in omega arith)
same_entries (e ∷ es) [] js (q ∷ ks) h k j i is =
    absurd (let same : entry_spelling e ≡ head_spelling q.head = cc in apart e q.head (All-head IsEntry e es h) (All-head IsJournal q ks i).head same)
same_entries (e ∷ es) (d ∷ ds) js ks h k j i is =
    let first : entry_spelling e ≡ entry_spelling d = cc in
    let rest : map entry_spelling es ++ lines_of js ≡ map entry_spelling ds ++ lines_of ks = cc in
    let both = same_entries es ds js ks (All-tail IsEntry e es h) (All-tail IsEntry d ds k) j i rest in
    (ap₂ ◌∷◌ (same_entry e d (All-head IsEntry e es h) (All-head IsEntry d ds k) first) both.0, both.1)

same_lines : (js ks : List JournalView) → All IsJournal js → All IsJournal ks → lines_of js ≡ lines_of ks → js ≡ ks
same_lines [] [] j k is = refl
same_lines [] (q ∷ ks) j k is = absurd (let n = ap length is in omega arith)
same_lines (p ∷ js) [] j k is = absurd (let n = ap length is in omega arith)
same_lines (p ∷ js) (q ∷ ks) j k is =
    let one = All-head IsJournal p js j in
    let other = All-head IsJournal q ks k in
    let first : head_spelling p.head ≡ head_spelling q.head = cc in
    let head : p.head ≡ q.head = same_head p.head q.head one.head other.head first in
    let rest : map entry_spelling p.entries ++ lines_of js ≡ map entry_spelling q.entries ++ lines_of ks = cc in
    let both = same_entries p.entries q.entries js ks one.entries other.entries (All-tail IsJournal p js j) (All-tail IsJournal q ks k) rest in
    let same : p ≡ q = λ i. record { head = head i; entries = both.0 i } in
    ap₂ ◌∷◌ same (same_lines js ks (All-tail IsJournal p js j) (All-tail IsJournal q ks k) both.1)

-- a text is that of no two lists of journals
pub same_journals : (js ks : List JournalView) → All IsJournal js → All IsJournal ks → journals_text js ≡ journals_text ks → js ≡ ks
same_journals js ks j k is =
    let text = text_of_lines js ∙ is ∙ sym (text_of_lines ks) ∙ sym (append-nil (flat_map line (lines_of ks))) in
    let behind = lines_behind (lines_of ks) (lines_of js) [] (lines_within ks k) (lines_within js j) text in
    same_lines js ks j k (behind.1 ∙ nothing (lines_of ks) behind.0 behind.2)
