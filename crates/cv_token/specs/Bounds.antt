-- The bounds on a token that is sent: it nests at most 16 deep, and its text has at most 1,024 bytes.
use Rattle.std.specs.Prelude.{◌≡◌, ◌≤◌, ℕ, ◌-◌, true, length, Option, Some, None, nat_le, if◌then◌else◌}
use Rattle.cv_token.specs.declared.token.Token.{Token}
use Rattle.cv_token.specs.Shape.{depth, is_token}
use Rattle.cv_token.specs.Spelling.{spelling}

abbrev pub most_depth : ℕ
most_depth = 16

abbrev pub most_bytes : ℕ
most_bytes = 1024

-- how deep a JSON text nests at most
abbrev pub most_json_depth : ℕ
most_json_depth = 127

-- the tree is a token, and within both bounds
pub record Fits (t : Token) : Type 0 where
  pub token : is_token t ≡ true
  pub shallow : depth t ≤ most_depth
  pub short : length (spelling t) ≤ most_bytes

-- what is left of the room once n is taken, where it is enough
abbrev pub left : ℕ → ℕ → Option ℕ
left room n = if nat_le n room then Some (room - n) else None
