-- What reading to the end and writing a whole text do to the bytes that a source or a sink tells of.
use Rattle.std.specs.Prelude.{◌≡◌, ℕ, ◌+◌, ◌<◌, ◌≤◌, List, length, take, Vec, Result, Ok, Err}
use Rattle.std.specs.declared.option.Option.{Option}
use Rattle.std.specs.declared.alloc.Global.{Global}
use Rattle.std.specs.Io.KnownBytes.{Appends, Consumes, IsAtEnd}
use Rattle.cv_io.specs.Faults.{Rose}
use Rattle.cv_io.specs.declared.transfer.ReadAll.{ReadAll}
use Rattle.cv_io.specs.declared.transfer.ReadAll.TheVariants.{ReadFault, TooLong, OutOfMemory}

-- some bytes were given, and their number is as stated
abbrev pub GaveSome : Option (List ℕ) → Option (List ℕ) → (ℕ → Type 0) → Type 0
GaveSome old new IsNumber = (given : List ℕ) × Consumes old new given × IsNumber (length given)

-- at Ok just the bytes given up to the end, within the limit; TooLong after one byte more than the limit, and no other refusal
abbrev pub ReadsAll : ℕ → Option (List ℕ) → Option (List ℕ) → Result (Vec ℕ Global) ReadAll → Type 0
ReadsAll limit old new (Ok bytes) = Consumes old new bytes.items × (length bytes.items ≤ limit) × IsAtEnd new
ReadsAll limit old new (Err TooLong) = GaveSome old new (λ n. n ≡ limit + 1)
ReadsAll limit old new (Err ReadFault) = GaveSome old new (λ n. n ≤ limit)
ReadsAll limit old new (Err OutOfMemory) = GaveSome old new (λ n. n ≤ limit)

-- a source that failed is told as such: its count rose at ReadFault, and at no other answer did it change
abbrev pub ReadsCount : ℕ → ℕ → Result (Vec ℕ Global) ReadAll → Type 0
ReadsCount before now (Ok bytes) = now ≡ before
ReadsCount before now (Err ReadFault) = Rose before now
ReadsCount before now (Err TooLong) = now ≡ before
ReadsCount before now (Err OutOfMemory) = now ≡ before

-- a part of the text from the front was written, and not the whole
abbrev pub AppendsFront : Option (List ℕ) → Option (List ℕ) → List ℕ → Type 0
AppendsFront old new text = (count : ℕ) × (count < length text) × Appends old new (take count text)
