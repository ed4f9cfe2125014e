-- The text of journals: for each node its first line, and a line for each entry.
use Rattle.std.specs.Prelude.{◌≡◌, ℕ, ◌<◌, List, [], ◌∷◌, ◌++◌, All, map, flat_map}
use Rattle.cv_protocol.specs.declared.event.Entry.{Entry}
use Rattle.cv_rules.specs.declared.attrs.NodeSpec.{NodeSpec}
use Rattle.cv_protocol.specs.declared.event.Journal.{Journal}
use Rattle.cv_protocol.specs.declared.event.Record.{Record}
use Rattle.cv_protocol.specs.declared.event.Step.{Step}
use Rattle.cv_protocol.specs.Journals.{entries_of}
use Rattle.cv_entry.specs.declared.head.Head.{Head}
use Rattle.cv_entry.specs.Texts.{entry_spelling, head_of, head_spelling, whole}
use Rattle.cv_entry.specs.Values.{IsEntry, IsHead}

-- what a journal says, wherever it lies in memory
pub record JournalView : Type 0 where
  pub head : Head
  pub entries : List Entry

abbrev pub view_of : Journal → JournalView
view_of j = record { head = head_of j; entries = j.entries.items }

-- the journal of a node in the steps of a record: all of its entries, in order
abbrev pub journal_in : List Step → NodeSpec → JournalView
journal_in steps spec = record { head = whole spec; entries = entries_of spec.no steps }

-- the journals in a record, one for each of its nodes
abbrev pub journals_in : Record → List JournalView
journals_in m = map (journal_in m.entries) m.specs

-- a text with a line feed behind it
abbrev pub line : List ℕ → List ℕ
line text = text ++ 10 ∷ []

abbrev pub entry_line : Entry → List ℕ
entry_line e = line (entry_spelling e)

abbrev pub journal_text : JournalView → List ℕ
journal_text j = line (head_spelling j.head) ++ flat_map entry_line j.entries

abbrev pub journals_text : List JournalView → List ℕ
journals_text js = flat_map journal_text js

-- a journal that has a text: each part is in its range, and no entry is left out
pub record IsJournal (j : JournalView) : Type 0 where
  pub head : IsHead j.head
  pub dropped : j.head.dropped ≡ 0
  pub entries : All IsEntry j.entries

-- the numbers of these nodes rise, all above a first number
abbrev pub RiseAbove : ℕ → List JournalView → Type 0
RiseAbove n [] = Unit {0}
RiseAbove n (j ∷ js) = (n < j.head.spec.no) × RiseAbove j.head.spec.no js

-- journals that have a text together
pub record AreJournals (js : List JournalView) : Type 0 where
  pub each : All IsJournal js
  pub rise : RiseAbove 0 js
