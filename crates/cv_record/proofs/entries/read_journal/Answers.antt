use Rattle.std.proofs.Common.{sym, ap, ◌∙◌, arith}
use Rattle.cv_entry.specs.declared.head.Head.{Head}
use Rattle.cv_record.proofs.FirstLines.{first_is}
use Rattle.cv_record.proofs.Follow.{head_within, same_head}
use Rattle.cv_record.proofs.entries.read_journal.Goals.{then-head-ne0-via-then-head-ne0, then-head-ne0-via-else-head-ne0+then-head-above}
use Rattle.cv_record.proofs.entries.read_journal.Goals as goal

pub returns-in_default-2 : goal.returns-in_default-2
returns-in_default-2 c = λ h more k d lt e.
    let none = rw c.in_default-2.is at c.in_ok-head.ensures.exact in
    none h k (first_is _ _ _ _ _ c.in-Some.ensures.0 (head_within h k) c.in-Some.ensures.1 e)

pub returns-then-head-ne0 : goal.returns-then-head-ne0
returns-then-head-ne0 c = λ h more k d lt e.
    let s = rw c.in-Some-2.is at c.in_ok-head.ensures.exact in
    let same = same_head h c.in-Some-2.head k s.0 (sym (first_is _ _ _ _ _ c.in-Some.ensures.0 (head_within h k) c.in-Some.ensures.1 e) ∙ s.1) in
    let dropped = ap (λ (x : Head). x.dropped) same in
    let no = ap (λ (x : Head). x.spec.no) same in
    elim c.then-head-ne0.branch [
      | then-head-ne0-via-then-head-ne0 w ↦ w.if-head-ne0.true (sym dropped ∙ d)
      | then-head-ne0-via-else-head-ne0+then-head-above w ↦ omega (arith, w.if-head-above.true, no, lt)
    ]
