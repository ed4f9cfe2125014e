-- The one text of a token: its compact JSON (RFC 8259).
use Rattle.std.specs.Prelude.{ℕ, true, false, List, [], ◌∷◌, ◌++◌, codes}
use Rattle.std.specs.Fmt.{signed_decimal}
use Rattle.json.specs.Print.{quoted}
use Rattle.cv_token.specs.declared.pairs.Pair.{Pair}
use Rattle.cv_token.specs.declared.token.Token.{Token, fold-Token}
use Rattle.cv_token.specs.declared.token.Token.TheOpen.{Token-F}

-- the texts, each with a comma before it
abbrev pub behind_commas : List (List ℕ) → List ℕ
behind_commas [] = []
behind_commas (s ∷ ss) = 44 ∷ (s ++ behind_commas ss)

-- the texts, with a comma between each two
abbrev pub separated : List (List ℕ) → List ℕ
separated [] = []
separated (s ∷ ss) = s ++ behind_commas ss

-- each member: the key in quotes, a colon, and the value's text
abbrev pub members : List (Pair (List ℕ)) → List (List ℕ)
members [] = []
members (p ∷ ps) = (quoted p.key ++ 58 ∷ p.value) ∷ members ps

-- one level, with the text of each token inside in its place
abbrev pub spelling_step : Token-F (List ℕ) → List ℕ
spelling_step Token-F.Null = codes "null"
spelling_step (Token-F.Bool true) = codes "true"
spelling_step (Token-F.Bool false) = codes "false"
spelling_step (Token-F.Int n) = signed_decimal n
spelling_step (Token-F.Text s) = quoted s
spelling_step (Token-F.List ss) = 91 ∷ (separated ss ++ 93 ∷ [])
spelling_step (Token-F.Dict ps) = 123 ∷ (separated (members ps) ++ 125 ∷ [])

-- the bytes that spell a token; `quoted` escapes a text
abbrev pub spelling : Token → List ℕ
spelling = fold-Token (List ℕ) spelling_step
