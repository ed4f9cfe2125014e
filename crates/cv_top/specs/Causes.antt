-- The refusals: what each says of the words and the source, how it ends the call, and its line.
use Rattle.std.specs.Prelude.{◌≡◌, ◌⊎◌, ℕ, ◌≤◌, ◌^◌, List, [], ◌∷◌, ◌++◌, length, Some, None, Result, Ok, Err, codes, Vec}
use Rattle.std.specs.declared.option.Option.{Option}
use Rattle.std.specs.declared.alloc.Global.{Global}
use Rattle.std.specs.Fmt.{decimal}
use Rattle.cv_io.specs.Faults.{Rose}
use Rattle.cv_deploy.specs.declared.fault.Code.{Code}
use Rattle.cv_deploy.specs.declared.fault.NoNetwork.{NoNetwork}
use Rattle.cv_deploy.specs.declared.fault.NoNetwork.TheVariants as none
use Rattle.cv_deploy.specs.declared.fault.Fault.{Fault}
use Rattle.cv_deploy.specs.Faults.{HasFault, Means, word_of}
use Rattle.cv_top.specs.declared.end.End.{End}
use Rattle.cv_top.specs.declared.end.End.TheVariants as end
use Rattle.cv_top.specs.declared.end.Refusal.{Refusal}
use Rattle.cv_top.specs.declared.end.Refusal.TheVariants as refusal
use Rattle.cv_top.specs.Devices.{Reading, Gave, GaveAtMost, GaveOneMore, IsSteady, IsUnread}
use Rattle.cv_kinds.specs.Net.{Net}
use Rattle.cv_words.specs.Asked.{command_of, stray_of}
use Rattle.cv_words.specs.Items.{item_text}
use Rattle.cv_words.specs.declared.items.LinkItem.{LinkItem}
use Rattle.cv_words.specs.declared.items.Stray.{Stray}
use Rattle.cv_words.specs.declared.words.Command.{Command}
use Rattle.cv_words.specs.declared.words.Command.TheVariants.{Script}
use Rattle.cv_words.specs.declared.words.Task.{Task}

-- a script has at most so many bytes: one mebibyte
abbrev pub script_limit : ℕ
script_limit = 2 ^ 20

-- ---- when each refusal comes

-- the words ask for a command
abbrev pub IsAsking : List (List ℕ) → Type 0
IsAsking words = (c : Command) × (command_of words ≡ Some c)

-- the words ask for a command that reads a script
abbrev pub IsReading : List (List ℕ) → Type 0
IsReading words = (t : Task) × (command_of words ≡ Some (Script t))

-- a refusal of a task for a script's bytes: a fault that they have; or they mean a network, and this is the task's first item that names a
-- node that does not run; or want of memory
abbrev pub IsRefusalOf : Task → List ℕ → Refusal → Type 0
IsRefusalOf t bytes (refusal.Script line col c) = HasFault bytes (record { line = line; col = col; code = c })
IsRefusalOf t bytes (refusal.Plan stray) = (stray_of t ≡ Some stray) × (net : Net) × Means bytes net
IsRefusalOf t bytes refusal.OutOfMemory = Unit {0}
IsRefusalOf t bytes refusal.Usage = ⊥
IsRefusalOf t bytes refusal.ReadFault = ⊥
IsRefusalOf t bytes refusal.TooLong = ⊥

-- a refusal of a task for a network: its first item that names a node that does not run, or want of memory where there is none
abbrev pub IsPlanned : Task → Refusal → Type 0
IsPlanned t (refusal.Plan stray) = stray_of t ≡ Some stray
IsPlanned t refusal.OutOfMemory = stray_of t ≡ None
IsPlanned t (refusal.Script line col c) = ⊥
IsPlanned t refusal.Usage = ⊥
IsPlanned t refusal.ReadFault = ⊥
IsPlanned t refusal.TooLong = ⊥

-- the source gave a script for which the task is refused so
abbrev pub GaveRefused : Task → Reading → Refusal → Type 0
GaveRefused t r x = (bytes : List ℕ) × Gave r bytes × (length bytes ≤ script_limit) × IsRefusalOf t bytes x

-- the words ask for a task, and the source gave a script for which it is refused so
abbrev pub AsksRefused : List (List ℕ) → Reading → Refusal → Type 0
AsksRefused words r x = (t : Task) × (command_of words ≡ Some (Script t)) × GaveRefused t r x

-- Usage: the words are not of the form, and nothing was read. Script: the source gave a script that is refused with that fault.
-- Plan: the source gave a script with a meaning, and the words have an item of a node that does not run, the first of which it is.
-- ReadFault: the source's count of faults rose. TooLong: the source gave one byte more than the limit. Want of memory may
-- come in place of any other answer that takes memory, and the source did not fail then.
abbrev pub IsCause : List (List ℕ) → Reading → Refusal → Type 0
IsCause words r refusal.Usage = (command_of words ≡ None) × IsUnread r
IsCause words r (refusal.Script line col c) = AsksRefused words r (refusal.Script line col c)
IsCause words r (refusal.Plan stray) = AsksRefused words r (refusal.Plan stray)
IsCause words r refusal.ReadFault = IsReading words × GaveAtMost script_limit r × Rose r.before r.now
IsCause words r refusal.TooLong = IsReading words × GaveOneMore script_limit r × IsSteady r
IsCause words r refusal.OutOfMemory = IsAsking words × GaveAtMost script_limit r × IsSteady r

-- the source was read to its end within the limit, or why it was not
abbrev pub IsScriptRead : Reading → Result (Vec ℕ Global) Refusal → Type 0
IsScriptRead r (Ok bytes) = Gave r bytes.items × (length bytes.items ≤ script_limit)
IsScriptRead r (Err refusal.ReadFault) = GaveAtMost script_limit r × Rose r.before r.now
IsScriptRead r (Err refusal.TooLong) = GaveOneMore script_limit r × IsSteady r
IsScriptRead r (Err refusal.OutOfMemory) = GaveAtMost script_limit r × IsSteady r
IsScriptRead r (Err refusal.Usage) = ⊥
IsScriptRead r (Err (refusal.Script line col c)) = ⊥
IsScriptRead r (Err (refusal.Plan stray)) = ⊥

-- ---- how it ends, and its line

abbrev pub end_of : Refusal → End
end_of refusal.Usage = end.Usage
end_of (refusal.Script line col c) = end.Script line col c
end_of (refusal.Plan stray) = end.Plan stray.place
end_of refusal.ReadFault = end.ReadFault
end_of refusal.OutOfMemory = end.OutOfMemory
end_of refusal.TooLong = end.TooLong

-- the end of the refusal, or of want of memory for its line, or of the sink's failure
abbrev pub EndsAs : Refusal → End → Type 0
EndsAs x e = (e ≡ end_of x) ⊎ (e ≡ end.OutOfMemory) ⊎ (e ≡ end.WriteFault)

-- a text with a line feed behind it
abbrev pub line_feed : ℕ
line_feed = 10

abbrev pub with_feed : List ℕ → List ℕ
with_feed text = text ++ line_feed ∷ []

-- `script`, the place and the code of a script's fault
abbrev pub script_line : ℕ → ℕ → Code → List ℕ
script_line line col c = with_feed (codes "script " ++ decimal line ++ codes ":" ++ decimal col ++ codes " " ++ word_of c)

-- `plan` and the item
abbrev pub plan_line : LinkItem → List ℕ
plan_line item = with_feed (codes "plan " ++ item_text item)

abbrev pub line_of : Refusal → List ℕ
line_of refusal.Usage = with_feed (codes "usage")
line_of (refusal.Script line col c) = script_line line col c
line_of (refusal.Plan stray) = plan_line stray.item
line_of refusal.ReadFault = with_feed (codes "read")
line_of refusal.OutOfMemory = with_feed (codes "memory")
line_of refusal.TooLong = with_feed (codes "long")

-- ---- scripts

-- the refusal for bytes that stand for no network
abbrev pub refusal_of : NoNetwork → Refusal
refusal_of (none.Script fault) = refusal.Script fault.line fault.col fault.code
refusal_of none.OutOfMemory = refusal.OutOfMemory

-- ---- completeness

-- the source tells the bytes that it will give, which are no more than its limit
abbrev pub IsToldWithin : Option (List ℕ) → List ℕ → Type 0
IsToldWithin left bytes = (left ≡ Some bytes) × (length bytes ≤ script_limit)

-- the ends that may come for words and a script that are right: those of the command, want of memory, and faults of the
-- source or the sink
abbrev pub DoneOrFailed : End → Type 0
DoneOrFailed end.Spent = Unit {0}
DoneOrFailed end.Quiescent = Unit {0}
DoneOrFailed end.Done = Unit {0}
DoneOrFailed end.OutOfMemory = Unit {0}
DoneOrFailed end.ReadFault = Unit {0}
DoneOrFailed end.WriteFault = Unit {0}
DoneOrFailed end.Usage = ⊥
DoneOrFailed end.TooLong = ⊥
DoneOrFailed (end.Script line col c) = ⊥
DoneOrFailed (end.Plan item) = ⊥

-- the ends that may come for words with an item of a node that does not run, and a script that is right: that item's place, want of memory, and
-- faults of the source or the sink
abbrev pub PlanOrFailed : Stray → End → Type 0
PlanOrFailed stray (end.Plan item) = item ≡ stray.place
PlanOrFailed stray end.OutOfMemory = Unit {0}
PlanOrFailed stray end.ReadFault = Unit {0}
PlanOrFailed stray end.WriteFault = Unit {0}
PlanOrFailed stray end.Spent = ⊥
PlanOrFailed stray end.Quiescent = ⊥
PlanOrFailed stray end.Done = ⊥
PlanOrFailed stray end.Usage = ⊥
PlanOrFailed stray end.TooLong = ⊥
PlanOrFailed stray (end.Script line col c) = ⊥

-- the ends that may come for words that are right and a script with a fault: that fault, want of memory, and faults of the
-- source or the sink
abbrev pub FaultOrFailed : Fault → End → Type 0
FaultOrFailed fault (end.Script line col c) = record { line = line; col = col; code = c } ≡ fault
FaultOrFailed fault end.OutOfMemory = Unit {0}
FaultOrFailed fault end.ReadFault = Unit {0}
FaultOrFailed fault end.WriteFault = Unit {0}
FaultOrFailed fault end.Spent = ⊥
FaultOrFailed fault end.Quiescent = ⊥
FaultOrFailed fault end.Done = ⊥
FaultOrFailed fault end.Usage = ⊥
FaultOrFailed fault end.TooLong = ⊥
FaultOrFailed fault (end.Plan item) = ⊥

-- a refusal that ends the call so
abbrev pub RefusedBy : {X : Type 0} → Result X Refusal → (End → Type 0) → Type 0
RefusedBy (Ok x) P = ⊥
RefusedBy (Err r) P = P (end_of r)

-- what was answered, or the end of the refusal, is as stated
abbrev pub UnlessRefused : {X : Type 0} → Result X Refusal → (End → Type 0) → Type 0
UnlessRefused (Ok x) P = Unit {0}
UnlessRefused (Err r) P = P (end_of r)
