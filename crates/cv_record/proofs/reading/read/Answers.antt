use Rattle.std.proofs.Common.{◌≡◌, ◌+◌, ℕ, List, [], ◌∷◌, length, map, sym, ap, subst, ◌∙◌, arith}
use Rattle.std.proofs.lemmas.List.{map-append}
use Rattle.cv_record.specs.Journals.{JournalView, view_of}
use Rattle.cv_record.proofs.OneBad.{none_bad, one_first_bad}
use Rattle.cv_record.proofs.Standing.{Stands, all_read, first_bad, is_nothing, is_something, no_journals, same_read, stands_more}
use Rattle.cv_record.proofs.reading.read.Goals as goal

pub returns-in_default-clause-again : goal.returns-in_default-clause-again
returns-in_default-clause-again c = λ js k e.
    let none = rw c.in_default.is at c.in_ok-journal.ensures in
    absurd (no_journals _ _ _ _ _ js c.loop-rest.invariant none (is_something _ c.loop-rest-test.ensures) k e)

pub returns-in_default-clause-told : goal.returns-in_default-clause-told
returns-in_default-clause-told c =
    let none = rw c.in_default.is at c.in_ok-journal.ensures in
    first_bad _ _ _ _ _ c.loop-rest.invariant none (is_something _ c.loop-rest-test.ensures)

pub returns-in_default-clause-only : goal.returns-in_default-clause-only
returns-in_default-clause-only c = λ number f.
    let none = rw c.in_default.is at c.in_ok-journal.ensures in
    one_first_bad c.loop-rest.line number c.args.bytes.now (first_bad _ _ _ _ _ c.loop-rest.invariant none (is_something _ c.loop-rest-test.ensures)) f

pub loop-rest-preserved : goal.loop-rest-preserved
loop-rest-preserved c =
    let s = rw c.in-Some.is at c.in_ok-journal.ensures in
    let more = stands_more _ _ _ _ _ (view_of c.in-Some.field-0.journal) _ c.loop-rest.invariant s.0 s.1 s.2 s.3 in
    let items = ap (map view_of) c.in_ok-push.ensures.items ∙ map-append view_of c.loop-rest.journals.items (c.in-Some.field-0.journal ∷ []) in
    let count : c.len.result ≡ length c.in-Some.field-0.journal.entries.items = omega (arith, c.len.ensures, c.in-Some.field-0.journal.entries.ok) in
    subst (λ (n : ℕ). Stands c.args.bytes.now (map view_of c.push.new.self.items) c.in-Some.field-0.rest.now c.in-Some.field-0.journal.spec.no (c.loop-rest.line + (1 + n))) (sym count)
    (subst (λ (js : List JournalView). Stands c.args.bytes.now js c.in-Some.field-0.rest.now c.in-Some.field-0.journal.spec.no (c.loop-rest.line + (1 + length c.in-Some.field-0.journal.entries.items))) (sym items) more)

pub returns-clause-again : goal.returns-clause-again
returns-clause-again c = λ js k e.
    let stands = subst (λ (rest : List ℕ). Stands c.args.bytes.now (map view_of c.loop-rest.journals.items) rest c.loop-rest.above c.loop-rest.line) (is_nothing _ c.loop-rest-test.ensures) c.loop-rest.invariant in
    same_read _ _ _ _ js stands k e

pub returns-clause-only : goal.returns-clause-only
returns-clause-only c = λ number f.
    let js = map view_of c.loop-rest.journals.items in
    let stands = subst (λ (rest : List ℕ). Stands c.args.bytes.now js rest c.loop-rest.above c.loop-rest.line) (is_nothing _ c.loop-rest-test.ensures) c.loop-rest.invariant in
    none_bad number c.args.bytes.now js stands.are (all_read _ _ _ _ stands) f
