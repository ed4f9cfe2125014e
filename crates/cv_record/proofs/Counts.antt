-- How many lines end in a text.
use Rattle.std.proofs.Common.{◌≡◌, ◌≢◌, ℕ, ◌+◌, List, [], ◌∷◌, ◌++◌, cond, length, flat_map, refl, arith}
use Rattle.std.proofs.lemmas.Bool.{ne_eqb}
use Rattle.std.proofs.lemmas.List.Elements.{All-head, All-tail}
use Rattle.std.proofs.lemmas.List.Sums.{sum_by-append}
use Rattle.std.specs.List.{All}
use Rattle.cv_protocol.specs.declared.event.Entry.{Entry}
use Rattle.cv_entry.specs.Texts.{entry_spelling, head_spelling}
use Rattle.cv_entry.specs.Values.{IsEntry}
use Rattle.cv_record.specs.Faults.{is_feed, lines_in, IsWithinLine}
use Rattle.cv_record.specs.Journals.{IsJournal, JournalView, entry_line, journal_text, line}
use Rattle.cv_record.proofs.Follow.{entry_within, head_within}

abbrev Other : ℕ → Type 0
Other b = b ≢ 10

pub lines-append : (xs ys : List ℕ) → lines_in (xs ++ ys) ≡ lines_in xs + lines_in ys
lines-append xs ys = sum_by-append (λ b. cond (is_feed b) 1 0) xs ys

lines-within : (s : List ℕ) → IsWithinLine s → lines_in s ≡ 0
lines-within [] h = refl
lines-within (b ∷ s) h = rw (ne_eqb b 10 (All-head Other b s h)) (omega (arith, lines-within s (All-tail Other b s h)))

pub lines-line : (s : List ℕ) → IsWithinLine s → lines_in (line s) ≡ 1
lines-line s h = omega (arith, lines-append s (10 ∷ []), lines-within s h)

lines-entries : (es : List Entry) → All IsEntry es → lines_in (flat_map entry_line es) ≡ length es
lines-entries [] h = refl
lines-entries (e ∷ es) h =
    omega (
      arith,
      lines-append (entry_line e) (flat_map entry_line es),
      lines-line (entry_spelling e) (entry_within e (All-head IsEntry e es h)),
      lines-entries es (All-tail IsEntry e es h),
    )

pub lines-journal : (j : JournalView) → IsJournal j → lines_in (journal_text j) ≡ 1 + length j.entries
lines-journal j h =
    omega (
      arith,
      lines-append (line (head_spelling j.head)) (flat_map entry_line j.entries),
      lines-line (head_spelling j.head) (head_within j.head h.head),
      lines-entries j.entries h.entries,
    )
