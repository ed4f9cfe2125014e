use Rattle.std.proofs.Common.{◌≡◌, ◌++◌, string_bytes}
use Rattle.cv_writing.specs.Written.{escaped}
use Rattle.cv_writing.proofs.pieces.push_chars.Given as goal

-- what is left, behind what was written
abbrev pub invariant-loop-ch : goal.invariant-loop-ch
invariant-loop-ch l = string_bytes l.out ++ escaped l.ch-iterator.rest.now ≡ string_bytes l.initial.out ++ escaped l.text
