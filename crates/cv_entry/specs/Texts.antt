-- The one text of an entry, and of a journal's head: lines of a journal without their line feeds.
use Rattle.std.specs.Prelude.{ℕ, List}
use Rattle.cv_token.specs.Spelling.{spelling}
use Rattle.cv_rules.specs.declared.attrs.NodeSpec.{NodeSpec}
use Rattle.cv_protocol.specs.declared.event.Entry.{Entry}
use Rattle.cv_protocol.specs.declared.event.Journal.{Journal}
use Rattle.cv_entry.specs.declared.head.Head.{Head}
use Rattle.cv_entry.specs.Trees.{entry_tree, head_tree}

abbrev pub entry_spelling : Entry → List ℕ
entry_spelling e = spelling (entry_tree e)

abbrev pub head_spelling : Head → List ℕ
head_spelling h = spelling (head_tree h)

-- what stands before the entries of a journal of which nothing is left out
abbrev pub whole : NodeSpec → Head
whole spec = record { spec = spec; dropped = 0 }

-- what a journal has before its entries
abbrev pub head_of : Journal → Head
head_of j = record { spec = j.spec; dropped = j.dropped }
