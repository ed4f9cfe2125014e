-- The answer of a call: how it ends, its status, its record, and what the sink got.
use Rattle.std.specs.Prelude.{◌≡◌, ◌⊎◌, ℕ, List, Some, Result, Ok, Err, string_bytes}
use Rattle.cv_io.specs.Faults.{Rose}
use Rattle.cv_protocol.specs.declared.event.Record.{Record}
use Rattle.cv_top.specs.declared.end.Answer.{Answer}
use Rattle.cv_top.specs.declared.end.End.{End}
use Rattle.cv_top.specs.declared.end.End.TheVariants as end
use Rattle.cv_top.specs.declared.end.Refusal.{Refusal}
use Rattle.cv_top.specs.declared.end.Refusal.TheVariants as refusal
use Rattle.cv_top.specs.Causes.{GaveRefused, IsCause, end_of, line_of, script_limit}
use Rattle.cv_top.specs.Devices.{Reading, Writing, Gave, GaveAtMost, GaveOneMore, IsSteady, IsUnread, TookAll, TookFront}
use Rattle.cv_top.specs.Generated.{generated_script}
use Rattle.cv_top.specs.Ran.{IsDoneFor, IsEmptyRecord}
use Rattle.cv_words.specs.Asked.{command_of}
use Rattle.cv_words.specs.declared.words.Command.TheVariants.{Script, Gen}
use Rattle.cv_words.specs.declared.words.Task.{Task}

-- the status with which the program ends
abbrev pub status_of : End → ℕ
status_of end.Spent = 0
status_of end.Quiescent = 0
status_of end.Done = 0
status_of end.Usage = 2
status_of (end.Script line col code) = 3
status_of end.ReadFault = 4
status_of end.WriteFault = 5
status_of end.OutOfMemory = 6
status_of (end.Plan item) = 7
status_of end.TooLong = 8

-- the script of `gen`, for which nothing was read
pub record IsGenerated (words : List (List ℕ)) (r : Reading) (e : End) (m : Record) (text : List ℕ) : Type 0 where
  pub number : ℕ
  pub asked : command_of words ≡ Some (Gen number)
  pub unread : IsUnread r
  pub ends : e ≡ end.Done
  pub empty : IsEmptyRecord m
  pub is : text ≡ generated_script number

-- what the words ask to do with the script that the source gave
pub record IsScriptDone (words : List (List ℕ)) (r : Reading) (e : End) (m : Record) (text : List ℕ) : Type 0 where
  pub task : Task
  pub asked : command_of words ≡ Some (Script task)
  pub bytes : List ℕ
  pub gave : Gave r bytes
  pub done : IsDoneFor task bytes e m text

-- what a command answers at status 0, with its record and its text
abbrev pub IsSuccess : List (List ℕ) → Reading → End → Record → List ℕ → Type 0
IsSuccess words r e m text = IsScriptDone words r e m text ⊎ IsGenerated words r e m text

-- a refusal that has its cause, with its line and no record
pub record IsRefusal (words : List (List ℕ)) (r : Reading) (e : End) (m : Record) (text : List ℕ) : Type 0 where
  pub refusal : Refusal
  pub cause : IsCause words r refusal
  pub ends : e ≡ end_of refusal
  pub line : text ≡ line_of refusal
  pub empty : IsEmptyRecord m

-- what the words and the source are answered with
abbrev pub IsAnswer : List (List ℕ) → Reading → End → Record → List ℕ → Type 0
IsAnswer words r e m text = IsSuccess words r e m text ⊎ IsRefusal words r e m text

-- the sink took the text, and the call leaves the end and the record; or the sink failed, and got the front of that text
abbrev pub IsTold : Writing → End → Record → List ℕ → End → Record → Type 0
IsTold w stated merged text e m = ((e ≡ stated) × (m ≡ merged) × TookAll w text) ⊎ ((e ≡ end.WriteFault) × IsEmptyRecord m × TookFront w text)

-- the call ends as the words and the source are answered, and the sink got the text of just that answer, or its front
pub record IsAnswered (words : List (List ℕ)) (r : Reading) (w : Writing) (e : End) (m : Record) : Type 0 where
  pub stated : End
  pub merged : Record
  pub text : List ℕ
  pub answer : IsAnswer words r stated merged text
  pub told : IsTold w stated merged text e m

-- what is to be told: the success of a command, or a refusal that has its cause
abbrev pub IsDecided : List (List ℕ) → Reading → Result Answer Refusal → Type 0
IsDecided words r (Ok answer) = IsSuccess words r answer.end answer.merged (string_bytes answer.text)
IsDecided words r (Err refusal) = IsCause words r refusal

-- the same of a task for the script that the source gives
abbrev pub IsTaskDecided : Task → Reading → Result Answer Refusal → Type 0
IsTaskDecided t r (Ok answer) = (bytes : List ℕ) × Gave r bytes × IsDoneFor t bytes answer.end answer.merged (string_bytes answer.text)
IsTaskDecided t r (Err refusal.ReadFault) = GaveAtMost script_limit r × Rose r.before r.now
IsTaskDecided t r (Err refusal.TooLong) = GaveOneMore script_limit r × IsSteady r
IsTaskDecided t r (Err refusal.OutOfMemory) = GaveAtMost script_limit r × IsSteady r
IsTaskDecided t r (Err (refusal.Script line col c)) = GaveRefused t r (refusal.Script line col c)
IsTaskDecided t r (Err (refusal.Plan stray)) = GaveRefused t r (refusal.Plan stray)
IsTaskDecided t r (Err refusal.Usage) = ⊥

-- the same of the script of so many chains
abbrev pub IsGenAnswer : ℕ → Result Answer Refusal → Type 0
IsGenAnswer number (Ok answer) = (answer.end ≡ end.Done) × IsEmptyRecord answer.merged × (string_bytes answer.text ≡ generated_script number)
IsGenAnswer number (Err x) = x ≡ refusal.OutOfMemory
