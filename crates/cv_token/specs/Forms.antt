-- The JSON value of a token, and the token of a JSON value.
use Rattle.std.specs.Prelude.{List, [], ◌∷◌, Option, Some, option_map, option_and_then}
use Rattle.serde_json.specs.Data.{Data, null, boolean, number, string, array, object, Items, no_items, item, Members, no_members, member}
use Rattle.serde_json.specs.Find.{of_integer, as_i64}
use Rattle.serde_json.specs.View.{items_of}
use Rattle.cv_token.specs.declared.pairs.Pair.{Pair}
use Rattle.cv_token.specs.declared.token.Token.{Token, fold-Token}
use Rattle.cv_token.specs.declared.token.Token.TheOpen.{Token-F}
use Rattle.cv_token.specs.declared.token.Token.TheVariants as variants

-- the pairs, with f applied to each value
abbrev pub on_values : {X Y : Type 0} → (X → Y) → List (Pair X) → List (Pair Y)
on_values f [] = []
on_values f (p ∷ ps) = record { key = p.key; value = f p.value } ∷ on_values f ps

abbrev pub members_from : List (Pair Data) → Members
members_from [] = no_members
members_from (p ∷ ps) = member p.key p.value (members_from ps)

abbrev pub data_step : Token-F Data → Data
data_step Token-F.Null = null
data_step (Token-F.Bool b) = boolean b
data_step (Token-F.Int n) = number (of_integer n)
data_step (Token-F.Text s) = string s
data_step (Token-F.List ds) = array (items_of ds)
data_step (Token-F.Dict ps) = object (members_from ps)

abbrev pub data_of : Token → Data
data_of = fold-Token Data data_step

-- the token of a value, where each of its numbers is an integer of 64 signed bits
abbrev mutual
  pub token_of : Data → Option Token
  token_of null = Some variants.Null
  token_of (boolean b) = Some (variants.Bool b)
  token_of (number n) = option_map variants.Int (as_i64 n)
  token_of (string s) = Some (variants.Text s)
  token_of (array ds) = option_map variants.List (tokens_of ds)
  token_of (object ms) = option_map variants.Dict (pairs_of ms)

  pub tokens_of : Items → Option (List Token)
  tokens_of no_items = Some []
  tokens_of (item d ds) = option_and_then (λ t. option_map (λ ts. t ∷ ts) (tokens_of ds)) (token_of d)

  pub pairs_of : Members → Option (List (Pair Token))
  pairs_of no_members = Some []
  pairs_of (member k d ms) = option_and_then (λ t. option_map (λ ps. record { key = k; value = t } ∷ ps) (pairs_of ms)) (token_of d)
