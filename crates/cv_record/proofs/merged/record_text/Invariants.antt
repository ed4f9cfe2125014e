use Rattle.std.proofs.Common.{◌≡◌, map, string_bytes, take}
use Rattle.cv_record.specs.Journals.{journal_in, journals_text}
use Rattle.cv_record.proofs.merged.record_text.Given as goal

-- the text of the journals of the nodes passed so far
abbrev pub invariant-loop-spec : goal.invariant-loop-spec
invariant-loop-spec l = string_bytes l.text ≡ journals_text (map (journal_in l.merged.entries) (take l.spec-index l.spec-items))
