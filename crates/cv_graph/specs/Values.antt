-- The value that a literal stands for.
use Rattle.std.specs.Prelude.{List, [], ◌∷◌, Option}
use Rattle.serde_json.specs.Data.{Data, null, boolean, number, string, array, object, Members, no_members, put}
use Rattle.serde_json.specs.Find.{of_integer}
use Rattle.serde_json.specs.View.{items_of}
use Rattle.cv_token.specs.declared.pairs.Pair.{Pair}
use Rattle.cv_token.specs.declared.token.Token.{Token}
use Rattle.cv_token.specs.Forms.{token_of}
use Rattle.cv_syntax.specs.declared.tree.Literal.{Literal, fold-Literal}
use Rattle.cv_syntax.specs.declared.tree.Literal.TheOpen.{Literal-F}

-- pairs are put in one after another, so that of equal keys the last counts
abbrev pub put_all : List (Pair Data) → Members → Members
put_all [] ms = ms
put_all (p ∷ ps) ms = put_all ps (put p.key p.value ms)

abbrev pub literal_step : Literal-F Data → Data
literal_step Literal-F.Null = null
literal_step (Literal-F.Bool b) = boolean b
literal_step (Literal-F.Int n) = number (of_integer n)
literal_step (Literal-F.Text s) = string s
literal_step (Literal-F.List ds) = array (items_of ds)
literal_step (Literal-F.Dict ps) = object (put_all ps no_members)

-- the JSON value of a literal
abbrev pub data_of : Literal → Data
data_of = fold-Literal Data literal_step

-- the token of a literal
abbrev pub literal_token : Literal → Option Token
literal_token l = token_of (data_of l)
