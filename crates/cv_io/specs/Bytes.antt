-- What one call of a source or a sink does to the bytes that it tells of, and to its count of faults. Where it tells of no
-- bytes, nothing is said of them.
use Rattle.std.specs.Prelude.{◌≡◌, ℕ, ◌<◌, ◌≤◌, List, length, take}
use Rattle.std.specs.declared.option.Option.{Option}
use Rattle.std.specs.Io.KnownBytes.{Appends, Consumes, IsAtEnd, Keeps}
use Rattle.cv_io.specs.Faults.{Rose}
use Rattle.cv_io.specs.declared.source.Got.{Got}
use Rattle.cv_io.specs.declared.source.Got.TheVariants as got
use Rattle.cv_io.specs.declared.sink.Took.{Took}
use Rattle.cv_io.specs.declared.sink.Took.TheVariants as took

-- a read gave the next bytes at the front of the buffer, or it came to the end, or it failed and all is left
abbrev pub GivesBytes : Option (List ℕ) → Option (List ℕ) → List ℕ → Got → Type 0
GivesBytes old new buf (got.Bytes n) = (0 < n) × (n ≤ length buf) × Consumes old new (take n buf)
GivesBytes old new buf got.End = Keeps old new × IsAtEnd new
GivesBytes old new buf got.Failed = Keeps old new

-- a write took bytes from the front of the piece, or it failed and took nothing
abbrev pub Takes : Option (List ℕ) → Option (List ℕ) → List ℕ → Took → Type 0
Takes old new piece (took.Bytes n) = (0 < n) × (n ≤ length piece) × Appends old new (take n piece)
Takes old new piece took.Failed = Keeps old new

-- a read that failed raised the count of faults, and no other read changed it
abbrev pub CountsReads : ℕ → ℕ → Got → Type 0
CountsReads before now (got.Bytes n) = now ≡ before
CountsReads before now got.End = now ≡ before
CountsReads before now got.Failed = Rose before now

-- a write that failed raised the count of faults, and no other write changed it
abbrev pub CountsWrites : ℕ → ℕ → Took → Type 0
CountsWrites before now (took.Bytes n) = now ≡ before
CountsWrites before now took.Failed = Rose before now
