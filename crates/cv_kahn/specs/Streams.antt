-- The stream of a connection: what was ever written to it, and how much of that was taken.
use Rattle.std.specs.Prelude.{◌≡◌, ℕ, List, [], ◌++◌, slice_get, Option, Some, None}
use Rattle.cv_token.specs.declared.token.Token.{Token}
use Rattle.cv_solo.specs.declared.stream.Stream.{Stream}
use Rattle.cv_solo.specs.OneRuntime.{Runtime}

-- the first list is where the second begins
abbrev pub Prefix : List Token → List Token → Type 0
Prefix xs ys = (rest : List Token) × (ys ≡ xs ++ rest)

abbrev pub wrote_of : Option Stream → List Token
wrote_of None = []
wrote_of (Some s) = s.wrote

abbrev pub took_of : Option Stream → ℕ
took_of None = 0
took_of (Some s) = s.took

-- what was written to the connection of that number, and how many of these tokens were taken
abbrev pub wrote_at : Runtime → ℕ → List Token
wrote_at r c = wrote_of (slice_get r.streams c)

abbrev pub took_at : Runtime → ℕ → ℕ
took_at r c = took_of (slice_get r.streams c)
