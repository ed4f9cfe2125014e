use Rattle.std.proofs.Common.{◌≡◌, ◌++◌, flat_map, string_bytes, take}
use Rattle.cv_entry.specs.Texts.{head_spelling, whole}
use Rattle.cv_protocol.specs.Journals.{entries_of}
use Rattle.cv_record.specs.Journals.{entry_line, line}
use Rattle.cv_record.proofs.merged.push_node.Given as goal

-- the lines of the steps passed so far stand behind the first one
abbrev pub invariant-loop-step : goal.invariant-loop-step
invariant-loop-step l = string_bytes l.text ≡ (string_bytes l.fn.text ++ line (head_spelling (whole l.spec))) ++ flat_map entry_line (entries_of l.spec.no (take l.step-index l.steps))
