-- One byte or escape of a text, and what follows it.
use Rattle.std.specs.Prelude.{◌≡◌, ℕ, ◌+◌, ◌<◌, Option, Some, None, List, [], drop}
use Rattle.std.specs.Str.{IsCharBoundary}
use Rattle.cv_lex.specs.Texts.{said_from, bad_of, good_of, with_bytes}

-- the text is bad at its front, or it is bad where what follows n bytes is bad
abbrev pub SaysPiece : ℕ → List ℕ → Option ℕ → Type 0
SaysPiece at bytes None = bad_of (said_from at 0 bytes) ≡ Some at
SaysPiece at bytes (Some n) = bad_of (said_from at 0 bytes) ≡ bad_of (said_from (at + n) 0 (drop n bytes))

-- what was said before and what the rest says: the front of it is bad, or it went from `old` to `new` and n bytes are behind
abbrev pub Says : List ℕ → List ℕ → List ℕ → Option ℕ → Type 0
Says old new rest None = good_of (with_bytes old (said_from 0 0 rest)) ≡ []
Says old new rest (Some n) =
    (0 < n) × IsCharBoundary rest n × (good_of (with_bytes old (said_from 0 0 rest)) ≡ good_of (with_bytes new (said_from 0 0 (drop n rest))))
