use Rattle.std.proofs.Common.{◌≡◌, map, take}
use Rattle.cv_record.specs.Journals.{journals_text, view_of}
use Rattle.cv_record.proofs.writing.write.Given as goal

-- the text of the journals passed so far
abbrev pub invariant-loop-journal : goal.invariant-loop-journal
invariant-loop-journal l = l.bytes.items ≡ journals_text (map view_of (take l.journal-index l.journals))
