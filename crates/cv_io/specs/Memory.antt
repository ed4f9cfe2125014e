-- Sources and sinks in memory: what each call answers and leaves.
use Rattle.std.specs.Prelude.{◌≡◌, ℕ, ◌+◌, ◌-◌, ◌^◌, ◌<◌, ◌⊎◌, min, List, [], ◌++◌, length, take, drop, Contains}
use Rattle.cv_io.specs.Faults.{next_count}
use Rattle.cv_io.specs.declared.source.Got.{Got}
use Rattle.cv_io.specs.declared.source.Got.TheVariants as got
use Rattle.cv_io.specs.declared.sink.Took.{Took}
use Rattle.cv_io.specs.declared.sink.Took.TheVariants as took

-- a source or a sink in memory
pub record Memory : Type 0 where
  -- the bytes still to come from a source, or those written to a sink
  pub bytes : List ℕ
  -- the most bytes of one call
  pub per : ℕ
  -- the numbers of the calls that fail
  pub fail_at : List ℕ
  -- the number of the last call, and 0 before the first
  pub calls : ℕ
  pub faults : ℕ
  -- for how many bytes a sink has taken memory; a source needs none
  pub room : ℕ

-- before the first call
abbrev pub opened : List ℕ → ℕ → List ℕ → Memory
opened bytes per fail_at = record { bytes = bytes; per = per; fail_at = fail_at; calls = 0; faults = 0; room = 0 }

-- a sink before its first call, with whatever room
abbrev pub IsOpened : List ℕ → ℕ → List ℕ → Memory → Type 0
IsOpened bytes per fail_at m = m ≡ record (opened bytes per fail_at) { room = m.room }

-- the number of the next call; each call past 2 ^ 32 - 1 bears that number
abbrev pub next_call : Memory → ℕ
next_call m = min (m.calls + 1) (2 ^ 32 - 1)

-- the next call is one of those that fail
abbrev pub FailsNext : Memory → Type 0
FailsNext m = Contains m.fail_at (next_call m)

-- after a call that did its work
abbrev pub after_call : Memory → List ℕ → Memory
after_call m bytes = record m { bytes = bytes; calls = next_call m }

-- after a call that failed
abbrev pub after_fault : Memory → Memory
after_fault m = record m { calls = next_call m; faults = next_count m.faults }

-- a read with so much room gives all that it may, comes to the end only where nothing is left, and fails just where it is listed
abbrev pub ReadsMemory : Memory → Memory → ℕ → Got → Type 0
ReadsMemory old new room (got.Bytes n) = (¬ FailsNext old) × (n ≡ min (min old.per room) (length old.bytes)) × (new ≡ after_call old (drop n old.bytes))
ReadsMemory old new room got.End = (¬ FailsNext old) × (old.bytes ≡ []) × (new ≡ after_call old [])
ReadsMemory old new room got.Failed = FailsNext old × (new ≡ after_fault old)

-- the room does not hold the bytes of the next call beside those written
abbrev pub LacksRoom : Memory → List ℕ → Type 0
LacksRoom m piece = m.room < length m.bytes + min m.per (length piece)

-- a write takes all that it may, and fails just where it is listed, or where room lacks and memory is refused
abbrev pub WritesMemory : Memory → Memory → List ℕ → Took → Type 0
WritesMemory old new piece (took.Bytes n) = (¬ FailsNext old) × (n ≡ min old.per (length piece)) × (new ≡ record (after_call old (old.bytes ++ take n piece)) { room = new.room })
WritesMemory old new piece took.Failed = (FailsNext old ⊎ LacksRoom old piece) × (new ≡ record (after_fault old) { room = new.room })
