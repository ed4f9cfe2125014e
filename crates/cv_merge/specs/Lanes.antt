-- Several journals side by side, and what taking the earliest entry does to them.
use Rattle.std.specs.Prelude.{◌≡◌, ◌≢◌, ℕ, ◌+◌, ◌<◌, ◌==◌, if◌then◌else◌, List, [], ◌∷◌, ◌++◌, map, length, refl}
use Rattle.std.specs.Coded.{Coded, code_by, coded×, coded_list, coded_ℕ}
use Rattle.cv_protocol.specs.declared.event.Entry.{Entry}
use Rattle.cv_protocol.specs.contracts.event.Entry as entry
use Rattle.cv_protocol.specs.declared.event.Journal.{Journal}
use Rattle.cv_protocol.specs.declared.event.Step.{Step}
use Rattle.cv_protocol.specs.Journals.{own_entry, FirstIsAfter}

-- the entries of a node that are left
pub record Lane : Type 0 where
  pub node : ℕ
  pub entries : List Entry

abbrev pub lane_code : Coded Lane
lane_code =
    code_by (ℕ × List Entry) (coded× coded_ℕ (coded_list entry.the_row.coded)) (λ l. (l.node, l.entries)) (λ p. record { node = p.0; entries = p.1 }) (λ _. refl)

-- all of these numbers are above that one
abbrev pub AllAbove : ℕ → List ℕ → Type 0
AllAbove n [] = Unit {0}
AllAbove n (m ∷ ms) = (n < m) × AllAbove n ms

-- each number is above the ones before
abbrev pub Ascends : List ℕ → Type 0
Ascends [] = Unit {0}
Ascends (n ∷ ns) = AllAbove n ns × Ascends ns

abbrev pub numbers : List Lane → List ℕ
numbers lanes = map (λ (l : Lane). l.node) lanes

-- the entries of node i
abbrev pub entries_at : List Lane → ℕ → List Entry
entries_at [] i = []
entries_at (l ∷ ls) i = if l.node == i then l.entries else entries_at ls i

-- how many entries are left
abbrev pub total : List Lane → ℕ
total [] = 0
total (l ∷ ls) = length l.entries + total ls

-- nothing is left
abbrev pub NothingLeft : List Lane → Type 0
NothingLeft [] = Unit {0}
NothingLeft (l ∷ ls) = (l.entries ≡ []) × NothingLeft ls

-- the least of the first entries is taken, as that step
pub record TakesLeast (old : List Lane) (s : Step) (new : List Lane) : Type 0 where
  pub same_nodes : numbers new ≡ numbers old
  pub parts : (i : ℕ) → entries_at old i ≡ own_entry i s ++ entries_at new i
  pub least : (i : ℕ) → i ≢ s.node → FirstIsAfter s i (entries_at new i)
  pub fewer : total old ≡ total new + 1

-- the journals of nodes
abbrev pub lane_of : Journal → Lane
lane_of j = record { node = j.spec.no; entries = j.entries.items }

abbrev pub lanes_of : List Journal → List Lane
lanes_of journals = map lane_of journals

-- the journal of node i, empty where there is none
abbrev pub journal_at : List Journal → ℕ → List Entry
journal_at journals i = entries_at (lanes_of journals) i
