use Rattle.std.proofs.Common.{◌≡◌, ◌++◌, flat_map, length}
use Rattle.std.specs.List.{All}
use Rattle.cv_entry.specs.Values.{IsEntry}
use Rattle.cv_record.specs.Journals.{entry_line}
use Rattle.cv_record.proofs.entries.read_entries.Given as goal

-- the bytes are the lines of the entries that were read, and the rest
abbrev pub invariant-loop-line : goal.invariant-loop-line
invariant-loop-line l = All IsEntry l.entries.items × (l.bytes ≡ flat_map entry_line l.entries.items ++ l.rest)

abbrev pub decreases-loop-line : goal.decreases-loop-line
decreases-loop-line l = length l.rest
