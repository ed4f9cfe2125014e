-- The rows of the kinds of calculation. Each has one action, which needs one token of each inport, gives one to its
-- outport, and has no guard and no state.
use Rattle.std.specs.Prelude.{ℕ, false, true, List, [], ◌∷◌, length, Some, None}
use Rattle.cv_token.specs.declared.token.Token.{Token}
use Rattle.cv_behave.specs.KindRow.{Action, Row, leaves}
use Rattle.cv_behave.specs.Values.{item_of, sum_of}
use Rattle.cv_calc.specs.declared.kind.CalcKind.{CalcKind}
use Rattle.cv_calc.specs.declared.kind.CalcKind.TheVariants as kind
use Rattle.cv_calc.specs.Values.{difference_of, product_of, quotient_of, remainder_of, comparison_of, joined_of, length_of, text_of, parsed_of, got_of, negated_of}

-- what the outport is given, on the first argument (null where there is none) and the tokens: x of a single inport, a and
-- b of two
abbrev pub given_of : CalcKind → Token → Token → Token → Token
given_of kind.Add arg a b = sum_of a b
given_of kind.Subtract arg a b = difference_of a b
given_of kind.Multiply arg a b = product_of a b
given_of kind.Divide arg a b = quotient_of a b
given_of kind.Modulo arg a b = remainder_of a b
given_of kind.Compare op a b = comparison_of op a b
given_of kind.Concat arg a b = joined_of a b
given_of kind.Length arg x none = length_of x
given_of kind.Prefix prefix x none = joined_of prefix x
given_of kind.JsonText arg x none = text_of x
given_of kind.JsonParse arg x none = parsed_of x
given_of kind.JsonGet key x none = got_of key x
given_of kind.Not arg x none = negated_of x

abbrev pub one_of_each : CalcKind → List ℕ
one_of_each kind.Add = 1 ∷ 1 ∷ []
one_of_each kind.Subtract = 1 ∷ 1 ∷ []
one_of_each kind.Multiply = 1 ∷ 1 ∷ []
one_of_each kind.Divide = 1 ∷ 1 ∷ []
one_of_each kind.Modulo = 1 ∷ 1 ∷ []
one_of_each kind.Compare = 1 ∷ 1 ∷ []
one_of_each kind.Concat = 1 ∷ 1 ∷ []
one_of_each kind.Length = 1 ∷ []
one_of_each kind.Prefix = 1 ∷ []
one_of_each kind.JsonText = 1 ∷ []
one_of_each kind.JsonParse = 1 ∷ []
one_of_each kind.JsonGet = 1 ∷ []
one_of_each kind.Not = 1 ∷ []

abbrev pub do_of : CalcKind → Action
do_of k = record {
  needs = λ args. one_of_each k;
  gives = 1 ∷ [];
  timed = false;
  guard = λ args state head. true;
  effect = λ args state heads. leaves [] (Some (given_of k (item_of args 0) (item_of heads 0) (item_of heads 1)) ∷ []);
}

abbrev pub row_of : CalcKind → Row
row_of k = record {
  inports = length (one_of_each k);
  outports = 1;
  guard_port = None;
  pause = λ args. 0;
  start = λ args. [];
  actions = do_of k ∷ [];
}
