-- Which line of a text is the first that is not of the form of journals.
use Rattle.std.specs.Prelude.{◌≡◌, ◌≢◌, ℕ, Bool, ◌+◌, ◌==◌, List, [], ◌++◌, All, count_by, ◌⊎◌}
use Rattle.cv_protocol.specs.declared.event.Entry.{Entry}
use Rattle.cv_entry.specs.Values.{IsEntry}
use Rattle.cv_record.specs.declared.fault.LineFault.{LineFault}
use Rattle.cv_record.specs.declared.fault.LineFault.TheVariants as fault
use Rattle.cv_record.specs.Journals.{JournalView, AreJournals, entry_line, journals_text, line}

-- the text of some journals
pub record IsText (bytes : List ℕ) : Type 0 where
  pub journals : List JournalView
  pub are : AreJournals journals
  pub is : bytes ≡ journals_text journals

abbrev pub is_feed : ℕ → Bool
is_feed b = b == 10

-- how many lines end in these bytes
abbrev pub lines_in : List ℕ → ℕ
lines_in bytes = count_by is_feed bytes

-- no line feed stands in the bytes
abbrev pub IsWithinLine : List ℕ → Type 0
IsWithinLine bytes = All (λ b. b ≢ 10) bytes

-- the bytes are one whole line before these; or the end of a text without a line feed
abbrev pub IsLine : List ℕ → List ℕ → Type 0
IsLine bytes rest =
    ((text : List ℕ) × IsWithinLine text × (bytes ≡ line text))
    ⊎ (IsWithinLine bytes × (bytes ≢ []) × (rest ≡ []))

-- no line of an entry stands at the front of the bytes
abbrev pub BeginsWithNoEntry : List ℕ → Type 0
BeginsWithNoEntry bytes = (e : Entry) (more : List ℕ) → IsEntry e → bytes ≢ entry_line e ++ more

-- the lines before this one, counted from 1, are the text of journals, and with it they are not
pub record IsFirstBad (number : ℕ) (bytes : List ℕ) : Type 0 where
  pub front : List ℕ
  pub bad : List ℕ
  pub rest : List ℕ
  pub is : bytes ≡ front ++ bad ++ rest
  pub good : IsText front
  pub counted : number ≡ lines_in front + 1
  pub one : IsLine bad rest
  pub refused : ¬ IsText (front ++ bad)

-- what a fault says of the bytes; want of memory says nothing
abbrev pub IsTold : LineFault → List ℕ → Type 0
IsTold (fault.BadLine number) bytes = IsFirstBad number bytes
IsTold fault.OutOfMemory bytes = Unit {0}

-- bytes whose first bad line is that one are refused by it, or for want of memory
abbrev pub IsRefusedBy : ℕ → LineFault → Type 0
IsRefusedBy number (fault.BadLine told) = told ≡ number
IsRefusedBy number fault.OutOfMemory = Unit {0}

-- no bytes have two first bad lines
abbrev pub OneFirstBad : Type 0
OneFirstBad = (number other : ℕ) (bytes : List ℕ) → IsFirstBad number bytes → IsFirstBad other bytes → number ≡ other
