-- What is told of an answer, and what a refusal says of the words and the source.
use Rattle.std.proofs.Common.{◌≡◌, inl, inr, ℕ, ◌≤◌, List, [], ◌++◌, arith, Some, None, Result, Ok, Err, IfOk, IfErr, length, refl, ap, ◌∙◌, sym, subst, append-nil, string_bytes}
use Rattle.std.specs.declared.option.Option.{Option}
use Rattle.std.specs.Io.KnownBytes.{Consumes, IsAtEnd, Keeps}
use Rattle.cv_deploy.specs.declared.fault.Code.{Code}
use Rattle.cv_deploy.specs.declared.fault.Fault.{Fault}
use Rattle.cv_deploy.specs.declared.fault.NoNetwork.{NoNetwork}
use Rattle.cv_deploy.specs.declared.fault.NoNetwork.TheVariants as none
use Rattle.cv_deploy.specs.Faults.{Gives, IsCaused, Means, Refuses}
use Rattle.cv_kinds.specs.Net.{Net}
use Rattle.cv_kinds.specs.Wired.{IsWired}
use Rattle.cv_protocol.specs.declared.event.Record.{Record}
use Rattle.cv_alone.specs.declared.alone.RunEnd.TheVariants as stop
use Rattle.cv_top.specs.declared.end.Answer.{Answer}
use Rattle.cv_top.specs.declared.end.End.{End}
use Rattle.cv_top.specs.declared.end.End.TheVariants as end
use Rattle.cv_top.specs.declared.end.Refusal.{Refusal}
use Rattle.cv_top.specs.declared.end.Refusal.TheVariants as refusal
use Rattle.cv_top.specs.Answers.{IsGenAnswer, IsSuccess, IsTaskDecided, IsDecided, IsTold, IsAnswered}
use Rattle.cv_top.specs.Causes.{IsCause, EndsAs, IsPlanned, IsRefusalOf, DoneOrFailed, FaultOrFailed, PlanOrFailed, RefusedBy, UnlessRefused, refusal_of, end_of, line_of, script_limit}
use Rattle.cv_top.specs.Devices.{Reading, Writing, Gave}
use Rattle.cv_top.specs.Ran.{IsDoneFor, IsEmptyRecord, IsRight}
use Rattle.cv_words.specs.Asked.{command_of, stray_of}
use Rattle.cv_words.specs.declared.items.Stray.{Stray}
use Rattle.cv_words.specs.declared.words.Command.TheVariants.{Script, Gen}
use Rattle.cv_words.specs.declared.words.Task.{Task}
use Rattle.cv_words.specs.declared.words.Task.TheVariants as task

-- a success whose text was told
pub success_told : (words : List (List ℕ)) (r : Reading) (w : Writing) (stated e : End) (merged m : Record) (text : List ℕ)
    → IsSuccess words r stated merged text → IsTold w stated merged text e m → IsAnswered words r w e m
success_told words r w stated e merged m text is told = record { stated = stated; merged = merged; text = text; answer = inl is; told = told }

-- a refusal whose line was told
pub refusal_told : (words : List (List ℕ)) (r : Reading) (w : Writing) (x : Refusal) (e : End) (merged m : Record)
    → IsCause words r x → IsEmptyRecord merged → IsTold w (end_of x) merged (line_of x) e m → IsAnswered words r w e m
refusal_told words r w x e merged m cause empty told =
    record { stated = end_of x; merged = merged; text = line_of x; answer = inr (record { refusal = x; cause = cause; ends = refl; line = refl; empty = empty }); told = told }

-- where the line of a script's fault wants memory, want of memory has its cause
pub memory_cause : (words : List (List ℕ)) (r : Reading) (line col : ℕ) (c : Code) → IsCause words r (refusal.Script line col c) → IsCause words r refusal.OutOfMemory
memory_cause words r line col c (t, asked, (bytes, gave, short, has)) = ((Script t, asked), (bytes, gave.given, short), gave.steady)

-- the same where the line of an item wants memory
pub plan_memory_cause : (words : List (List ℕ)) (r : Reading) (stray : Stray) → IsCause words r (refusal.Plan stray) → IsCause words r refusal.OutOfMemory
plan_memory_cause words r item (t, asked, (bytes, gave, short, has)) = ((Script t, asked), (bytes, gave.given, short), gave.steady)

-- where each end of a refusal that may come has a property, the end that came has it
pub by_end : (P : End → Type 0) (x : Refusal) (e : End) → P (end_of x) → P end.OutOfMemory → P end.WriteFault → EndsAs x e → P e
by_end P x e own memory write (inl is) = subst P (sym is) own
by_end P x e own memory write (inr (inl is)) = subst P (sym is) memory
by_end P x e own memory write (inr (inr is)) = subst P (sym is) write

-- ---- tasks

-- the end of what was done
right_ends : (t : Task) (net : Net) (e : End) (m : Record) (text : List ℕ) → IsRight t net e m text → DoneOrFailed e
right_ends (task.Run asked) net e m text (stop.Spent, ends, run) = subst DoneOrFailed (sym ends) tt
right_ends (task.Run asked) net e m text (stop.Quiescent, ends, run) = subst DoneOrFailed (sym ends) tt
right_ends (task.Trace asked) net e m text (stop.Spent, ends, run) = subst DoneOrFailed (sym ends) tt
right_ends (task.Trace asked) net e m text (stop.Quiescent, ends, run) = subst DoneOrFailed (sym ends) tt
right_ends (task.Solo most) net e m text (stop.Spent, ends, run) = subst DoneOrFailed (sym ends) tt
right_ends (task.Solo most) net e m text (stop.Quiescent, ends, run) = subst DoneOrFailed (sym ends) tt
right_ends task.Compile net e m text (ends, empty, is) = subst DoneOrFailed (sym ends) tt

pub success_ends : (words : List (List ℕ)) (r : Reading) (e : End) (m : Record) (text : List ℕ) → IsSuccess words r e m text → DoneOrFailed e
success_ends words r e m text (inl is) = right_ends is.task is.done.net e m text is.done.right
success_ends words r e m text (inr is) = subst DoneOrFailed (sym is.ends) tt

-- what is told ends as it does, or the sink failed
pub told_ends : (w : Writing) (stated e : End) (merged m : Record) (text : List ℕ) → DoneOrFailed stated → IsTold w stated merged text e m → DoneOrFailed e
told_ends w stated e merged m text ends (inl is) = subst DoneOrFailed (sym is.0) ends
told_ends w stated e merged m text ends (inr is) = subst DoneOrFailed (sym is.0) tt

some_same : (a b : Stray) → Some a ≡ Some b → a ≡ b
some_same a b h = cc

-- a task was done for the network of a script
pub done_so : (t : Task) (bytes : List ℕ) (net : Net) (x : Result Answer Refusal) → Means bytes net → IsWired net
    → IfOk x (λ a. (stray_of t ≡ None) × IsRight t net a.end a.merged (string_bytes a.text)) → IfOk x (λ a. IsDoneFor t bytes a.end a.merged (string_bytes a.text))
done_so t bytes net (Ok a) means wired right = record { fits = right.0; net = net; means = means; wired = wired; right = right.1 }
done_so t bytes net (Err x) means wired right = tt

-- what a task for a network is refused by is a cause
pub planned_cause : (t : Task) (bytes : List ℕ) (net : Net) (x : Result Answer Refusal) → Means bytes net → IfErr x (IsPlanned t) → IfErr x (IsRefusalOf t bytes)
planned_cause t bytes net (Ok a) means is = tt
planned_cause t bytes net (Err (refusal.Plan stray)) means is = (is, net, means)
planned_cause t bytes net (Err refusal.OutOfMemory) means is = tt
planned_cause t bytes net (Err (refusal.Script line col c)) means is = absurd is
planned_cause t bytes net (Err refusal.Usage) means is = absurd is
planned_cause t bytes net (Err refusal.ReadFault) means is = absurd is
planned_cause t bytes net (Err refusal.TooLong) means is = absurd is

-- without a stray item want of memory alone refuses it
pub planned_none : (t : Task) (x : Result Answer Refusal) → stray_of t ≡ None → IfErr x (IsPlanned t) → UnlessRefused x DoneOrFailed
planned_none t (Ok a) fits is = tt
planned_none t (Err (refusal.Plan stray)) fits is = absurd (cc)
planned_none t (Err refusal.OutOfMemory) fits is = tt
planned_none t (Err (refusal.Script line col c)) fits is = absurd is
planned_none t (Err refusal.Usage) fits is = absurd is
planned_none t (Err refusal.ReadFault) fits is = absurd is
planned_none t (Err refusal.TooLong) fits is = absurd is

-- with one it is refused, by that item
pub planned_so : (t : Task) (net : Net) (x : Result Answer Refusal) (stray : Stray) → stray_of t ≡ Some stray
    → IfOk x (λ a. (stray_of t ≡ None) × IsRight t net a.end a.merged (string_bytes a.text)) → IfErr x (IsPlanned t) → RefusedBy x (PlanOrFailed stray)
planned_so t net (Ok a) stray asked done is = let none = done.0 in absurd (cc)
planned_so t net (Err (refusal.Plan told)) stray asked done is = ap (λ (x : Stray). x.place) (some_same told stray (sym is ∙ asked))
planned_so t net (Err refusal.OutOfMemory) stray asked done is = tt
planned_so t net (Err (refusal.Script line col c)) stray asked done is = absurd is
planned_so t net (Err refusal.Usage) stray asked done is = absurd is
planned_so t net (Err refusal.ReadFault) stray asked done is = absurd is
planned_so t net (Err refusal.TooLong) stray asked done is = absurd is

-- bytes that mean something are refused by want of memory alone
pub memory_alone : (P : End → Type 0) (e : NoNetwork) (net : Net) → P end.OutOfMemory → Gives {X = Net} (Err e) net → P (end_of (refusal_of e))
memory_alone P (none.Script fault) net memory is = absurd is
memory_alone P none.OutOfMemory net memory is = memory

-- what bytes that mean nothing are refused by is a cause
pub told_cause : (t : Task) (bytes : List ℕ) (e : NoNetwork) → IsCaused bytes e → IsRefusalOf t bytes (refusal_of e)
told_cause t bytes (none.Script fault) is = is
told_cause t bytes none.OutOfMemory is = tt

-- bytes with a fault are refused by it, or by want of memory
pub fault_told : (e : NoNetwork) (fault : Fault) → Refuses {X = Net} (Err e) fault → FaultOrFailed fault (end_of (refusal_of e))
fault_told (none.Script told) fault is = is
fault_told none.OutOfMemory fault is = tt

-- ---- the source

-- a source that tells what it will give gave just that, where nothing is left
pub read_whole : (left rest : Option (List ℕ)) (read bytes : List ℕ) → left ≡ Some bytes → Consumes left rest read → IsAtEnd rest → bytes ≡ read
read_whole None rest read bytes told given ended = cc
read_whole (Some xs) None read bytes told given ended = absurd given
read_whole (Some xs) (Some ys) read bytes told given ended = let same : xs ≡ bytes = cc in sym same ∙ given ∙ ap (λ zs. read ++ zs) ended ∙ append-nil read

-- a script that was read and whose task was done, or refused
pub task_decided : (t : Task) (r : Reading) (bytes : List ℕ) (x : Result Answer Refusal) → Gave r bytes → length bytes ≤ script_limit
    → IfOk x (λ a. IsDoneFor t bytes a.end a.merged (string_bytes a.text)) → IfErr x (IsRefusalOf t bytes) → IsTaskDecided t r x
task_decided t r bytes (Ok answer) gave short done refused = (bytes, gave, done)
task_decided t r bytes (Err (refusal.Script line col c)) gave short done refused = (bytes, gave, short, refused)
task_decided t r bytes (Err (refusal.Plan stray)) gave short done refused = (bytes, gave, short, refused)
task_decided t r bytes (Err refusal.OutOfMemory) gave short done refused = ((bytes, gave.given, short), gave.steady)
task_decided t r bytes (Err refusal.Usage) gave short done refused = absurd refused
task_decided t r bytes (Err refusal.ReadFault) gave short done refused = absurd refused
task_decided t r bytes (Err refusal.TooLong) gave short done refused = absurd refused

-- it is what the words and the source are answered with
pub task_answered : (words : List (List ℕ)) (r : Reading) (t : Task) (x : Result Answer Refusal) → command_of words ≡ Some (Script t) → IsTaskDecided t r x → IsDecided words r x
task_answered words r t (Ok answer) asked (bytes, gave, done) = inl (record { task = t; asked = asked; bytes = bytes; gave = gave; done = done })
task_answered words r t (Err (refusal.Script line col c)) asked is = (t, asked, is)
task_answered words r t (Err (refusal.Plan stray)) asked is = (t, asked, is)
task_answered words r t (Err refusal.ReadFault) asked is = ((t, asked), is.0, is.1)
task_answered words r t (Err refusal.TooLong) asked is = ((t, asked), is.0, is.1)
task_answered words r t (Err refusal.OutOfMemory) asked is = ((Script t, asked), is.0, is.1)
task_answered words r t (Err refusal.Usage) asked is = absurd is

one_task : (t u : Task) → Some (Script t) ≡ Some (Script u) → t ≡ u
one_task t u h = cc

-- words ask for one task
pub asked_task : (words : List (List ℕ)) (t u : Task) → command_of words ≡ Some (Script t) → command_of words ≡ Some (Script u) → t ≡ u
asked_task words t u first second = let same : Some (Script t) ≡ Some (Script u) = sym first ∙ second in one_task t u same

-- ---- chains

nothing_gone : (left : Option (List ℕ)) → Consumes left left []
nothing_gone None = tt
nothing_gone (Some xs) = refl

kept : (left : Option (List ℕ)) → Keeps left left
kept None = tt
kept (Some xs) = refl

-- the script of so many chains is what the words and a source that is not read are answered with
pub gen_answered : (words : List (List ℕ)) (left : Option (List ℕ)) (count number : ℕ) (x : Result Answer Refusal) → command_of words ≡ Some (Gen number)
    → IsGenAnswer number x → IsDecided words (record { left = left; rest = left; before = count; now = count }) x
gen_answered words left count number (Ok answer) asked is =
    inr (record { number = number; asked = asked; unread = (kept left, refl); ends = is.0; empty = is.1; is = is.2 })
gen_answered words left count number (Err x) asked is =
    let memory : IsCause words (record { left = left; rest = left; before = count; now = count }) refusal.OutOfMemory = ((Gen number, asked), ([], nothing_gone left, omega arith), refl) in
    subst (IsCause words (record { left = left; rest = left; before = count; now = count })) (sym is) memory
