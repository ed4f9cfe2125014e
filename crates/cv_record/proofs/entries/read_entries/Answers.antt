use Rattle.std.proofs.Common.{sym}
use Rattle.cv_entry.specs.Texts.{entry_spelling}
use Rattle.cv_record.proofs.FirstLines.{first_is, no_first}
use Rattle.cv_record.proofs.Follow.{entry_within}
use Rattle.cv_record.proofs.entries.read_entries.Goals.{in-Some+in_ok-entry+in_default-2, in_default}
use Rattle.cv_record.proofs.entries.read_entries.Goals as goal

pub returns : goal.returns
returns c = (
  c.loop-line.invariant.0,
  c.loop-line.invariant.1,
  λ e more k is.
      elim c.match-split_line.branch [
        | in-Some+in_ok-entry+in_default-2 w ↦
            let none = rw w.in_default-2.is at w.in_ok-entry.ensures.exact in
            none e k (first_is _ _ _ _ _ w.in-Some.ensures.0 (entry_within e k) w.in-Some.ensures.1 is)
        | in_default w ↦ no_first (entry_spelling e) more c.loop-line.rest.now w.in_default.ensures (sym is)
      ],
)
