use Rattle.std.proofs.Common.{◌≡◌, ◌++◌, flat_map, take}
use Rattle.cv_entry.specs.Texts.{head_of, head_spelling}
use Rattle.cv_record.specs.Journals.{entry_line, line}
use Rattle.cv_record.proofs.writing.push_journal.Given as goal

-- the lines of the entries passed so far stand behind the first one
abbrev pub invariant-loop-entry : goal.invariant-loop-entry
invariant-loop-entry l = l.bytes.items ≡ (l.fn.bytes.items ++ line (head_spelling (head_of l.journal))) ++ flat_map entry_line (take l.entry-index l.entry-items)
