-- What the lexemes of a source are parsed to.
use Rattle.std.specs.Prelude.{◌≡◌, ℕ, ◌-◌, if◌then◌else◌, Option, Some, None, List, length, map, slice_get, Result, Ok, Err}
use Rattle.cv_lex.specs.declared.lexeme.Lexeme.{Lexeme}
use Rattle.cv_lex.specs.declared.word.Placed.{Placed}
use Rattle.cv_lex.specs.Words.{placed_word}
use Rattle.cv_readers.specs.Reading.{Read, Miss}
use Rattle.cv_syntax.specs.declared.tree.Item.{Item}
use Rattle.cv_syntax.specs.declared.tree.Script.{Script}
use Rattle.cv_syntax.specs.declared.fault.ParseFault.{ParseFault}
use Rattle.cv_syntax.specs.declared.fault.ParseFault.TheVariants as faults
use Rattle.cv_syntax.specs.Whole.{most_levels, items_at}

-- the words of a source, with their places
abbrev pub words_of : List ℕ → List Lexeme → List Placed
words_of source found = map (placed_word source) found

-- the place of a word, or the source's length behind the last
abbrev pub place_or : ℕ → Option Placed → ℕ
place_or end None = end
place_or end (Some w) = w.at

-- the place of the word from which on so many words are left
abbrev pub place_left : ℕ → List Placed → ℕ → ℕ
place_left end ws left = place_or end (slice_get ws (length ws - left))

-- the fault of a reading that stopped
abbrev pub fault_of : ℕ → List Placed → Miss → ParseFault
fault_of end ws miss =
    if miss.deep then faults.TooDeep (place_left end ws miss.left) else faults.Unexpected (place_left end ws miss.left)

-- the script that was read, or the fault
abbrev pub answer_of : ℕ → List Placed → Read (List Item) → Result Script ParseFault
answer_of end ws (Ok x) = Ok (record { items = x.0 })
answer_of end ws (Err miss) = Err (fault_of end ws miss)

-- what the words of a source of this length are parsed to
abbrev pub parsed : ℕ → List Placed → Result Script ParseFault
parsed end ws = answer_of end ws (items_at most_levels ws)

-- an answer that is a fault: want of memory may come at any time, each other fault is the words'
abbrev pub FailsAt : ParseFault → Result Script ParseFault → Type 0
FailsAt (faults.Unexpected at) answer = answer ≡ Err (faults.Unexpected at)
FailsAt (faults.TooDeep at) answer = answer ≡ Err (faults.TooDeep at)
FailsAt faults.OutOfMemory answer = Unit {0}

-- what was answered is the answer, but for want of memory
abbrev pub Answers : Result Script ParseFault → Result Script ParseFault → Type 0
Answers (Ok script) answer = answer ≡ Ok script
Answers (Err fault) answer = FailsAt fault answer
