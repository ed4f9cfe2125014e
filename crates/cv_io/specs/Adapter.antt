-- Readers and writers of std as sources and sinks: what they are made of, and what counts as a fault.
use Rattle.std.specs.Prelude.{◌≡◌, ℕ}
use Rattle.cv_io.specs.Faults.{next_count}
use Rattle.cv_io.specs.declared.adapter.StdSource.{StdSource}
use Rattle.cv_io.specs.declared.adapter.StdSink.{StdSink}
use Rattle.cv_io.specs.declared.source.Got.{Got}
use Rattle.cv_io.specs.declared.source.Got.TheVariants as got
use Rattle.cv_io.specs.declared.sink.Took.{Took}
use Rattle.cv_io.specs.declared.sink.Took.TheVariants as took

-- the reader behind a source
abbrev pub reader_of : {R : Type 0} → StdSource R → R
reader_of source = source.inner

-- how many calls of the source failed
abbrev pub failed_reads : {R : Type 0} → StdSource R → ℕ
failed_reads source = source.faults

-- the writer behind a sink
abbrev pub writer_of : {W : Type 0} → StdSink W → W
writer_of sink = sink.inner

-- how many calls of the sink failed
abbrev pub failed_writes : {W : Type 0} → StdSink W → ℕ
failed_writes sink = sink.faults

-- a read that failed counts once, and no other read counts
abbrev pub CountsRead : ℕ → ℕ → Got → Type 0
CountsRead before now (got.Bytes n) = now ≡ before
CountsRead before now got.End = now ≡ before
CountsRead before now got.Failed = now ≡ next_count before

-- a write that failed counts once, and no other write counts
abbrev pub CountsWrite : ℕ → ℕ → Took → Type 0
CountsWrite before now (took.Bytes n) = now ≡ before
CountsWrite before now took.Failed = now ≡ next_count before
