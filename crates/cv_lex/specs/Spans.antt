-- How far texts and comments go.
use Rattle.std.specs.Prelude.{ℕ, ◌+◌, ◌==◌, ◌&&◌, nat_eq, Bool, not, if◌then◌else◌, Option, Some, None, List, [], ◌∷◌}
use Rattle.std.specs.List.{starts_with}
use Rattle.cv_lex.specs.Characters.{backslash, quote}

-- a quote that no `\` hides
abbrev pub ends_text : Bool → ℕ → Bool
ends_text hidden b = not hidden && (b == quote)

-- a `\` that no `\` hides hides the byte behind it
abbrev pub hides_next : Bool → ℕ → Bool
hides_next hidden b = not hidden && (b == backslash)

-- the place of the quote that ends a text, from place i on
abbrev pub closing : ℕ → Bool → List ℕ → Option ℕ
closing i hidden [] = None
closing i hidden (b ∷ bytes) = if ends_text hidden b then Some i else closing (i + 1) (hides_next hidden b) bytes

-- the first place of a part, from place i on
abbrev pub place_of : ℕ → List ℕ → List ℕ → Option ℕ
place_of i part [] = None
place_of i part (b ∷ bytes) = if starts_with nat_eq (b ∷ bytes) part then Some i else place_of (i + 1) part bytes
