-- A format in which each value has one spelling: what a strict reader answers.
use Rattle.std.specs.Prelude.{◌≡◌, ◌≢◌, ◌≤◌, Bool, true, Option, Some, None, option_and_then, MatchOption, if◌then◌else◌}
use Rattle.cv_token.specs.declared.token.Token.{Token}
use Rattle.cv_token.specs.Shape.{depth, is_token}
use Rattle.cv_token.specs.Bounds.{most_json_depth}

-- `Spells Valid spell b o`: o is the valid value that b spells, or None where b spells no valid value.
-- Both b and o may be of any type: bytes and tokens, tokens and frames, bytes and frames.
abbrev pub Spells : {V B : Type 0} → (V → Type 0) → (V → B) → B → Option V → Type 0
Spells {V} Valid spell b o = MatchOption o ((v : V) → Valid v → b ≢ spell v) (λ v. Valid v × (b ≡ spell v))

-- Read, write again, compare: the value that a loose reader found, where the bytes are its spelling.
abbrev pub compared : {V B : Type 0} → (B → B → Bool) → (V → B) → B → Option V → Option V
compared same spell b o = option_and_then (λ v. if same (spell v) b then Some v else None) o

-- the trees that JSON can hold: tokens that nest at most 127 deep
pub record IsTree (t : Token) : Type 0 where
  pub token : is_token t ≡ true
  pub shallow : depth t ≤ most_json_depth
