-- What the kinds of calculation give, fits where their arguments and tokens do.
use Rattle.std.proofs.Common.{◌≡◌, ◌<◌, ◌^◌, ℕ, ℤ, pos, negsuc, ◌+ℤ◌, ◌-ℤ◌, ◌*ℤ◌, int_div, int_rem, Bool, true, List, [], ◌∷◌, Option, Some, None, codes, sym, ap, ◌∙◌, subst, arith, lt-ltb}
use Rattle.std.proofs.lemmas.Int.{ints, quot-rem}
use Rattle.std.proofs.Math.IntN.{*ℤ_comm}
use Rattle.std.specs.Int.Signed.{mag, mag_rem}
use Rattle.std.specs.declared.cmp.Ordering.{Ordering}
use Rattle.std.specs.Ordering.{int_eq, is_lt, is_le, is_gt, is_ge}
use Rattle.std.specs.Prelude.{not}
use Rattle.std.specs.Str.{bytes_eq}
use Rattle.cv_token.specs.declared.pairs.Pair.{Pair}
use Rattle.cv_token.specs.declared.token.Token.{Token}
use Rattle.cv_token.specs.declared.token.Token.TheOpen.{Token-F}
use Rattle.cv_token.specs.declared.token.Token.TheVariants as token
use Rattle.cv_token.specs.declared.token.Token.TheViews.{out-Token, roll-Token, roll-out-Token, rolls-List, rolls-Dict}
use Rattle.cv_token.specs.Reading.{reading}
use Rattle.cv_token.specs.Shape.{has_64_bits}
use Rattle.cv_token.specs.Spelling.{spelling}
use Rattle.cv_behave.specs.Values.{are_same, has_fit, number}
use Rattle.cv_behave.proofs.Fitting.{below, bits_of, bool_fits, either_fits, fitted_fits, int_fits, item_fits, null_fits, number_fits, sum_fits}
use Rattle.cv_behave.proofs.Lists.{PairsWithin, items_fit, other_pairs, pairs_within, value_fits}
use Rattle.cv_calc.specs.declared.kind.CalcKind.{CalcKind}
use Rattle.cv_calc.specs.declared.kind.CalcKind.TheVariants as kind
use Rattle.cv_calc.specs.Rows.{given_of}
use Rattle.cv_calc.specs.Values.{character_count, comparison_of, difference_of, element_at, got_step, joined_of, length_of, negated_of, order_of, ordered, parsed_of, product_of, quotient_of, remainder_of, token_or_null, value_at}

-- ---- math

difference_fits : (a b : Token) → has_fit (difference_of a b) ≡ true
difference_fits (token.Int a) (token.Int b) = number_fits (a -ℤ b)
difference_fits _ _ = null_fits

product_fits : (a b : Token) → has_fit (product_of a b) ≡ true
product_fits (token.Int a) (token.Int b) = number_fits (a *ℤ b)
product_fits _ _ = null_fits

quotient_fits : (a b : Token) → has_fit (quotient_of a b) ≡ true
quotient_fits (token.Int a) (token.Int b) = either_fits (int_eq b (pos 0)) token.Null (number (int_div a b)) null_fits (number_fits (int_div a b))
quotient_fits _ _ = null_fits

less : (m r a : ℤ) → m +ℤ r ≡ a → a -ℤ m ≡ r
less m r a e = grind (arith, ints)

rest_is : (a b : ℤ) → a -ℤ (b *ℤ int_div a b) ≡ int_rem a b
rest_is a b = ap (λ (z : ℤ). a -ℤ z) (*ℤ_comm b (int_div a b)) ∙ less (int_div a b *ℤ b) (int_rem a b) a (quot-rem a b)

small : (z : ℤ) → mag z < 2 ^ 63 → has_64_bits z ≡ true
small (pos n) h = lt-ltb n (2 ^ 63) h
small (negsuc n) h = lt-ltb n (2 ^ 63) h

rest_fits : (a b : ℤ) → has_fit (token.Int a) ≡ true → has_fit (token.Int (a -ℤ (b *ℤ int_div a b))) ≡ true
rest_fits a b e =
    let h = below a (bits_of a e) in
    subst (λ (z : ℤ). has_fit (token.Int z) ≡ true) (sym (rest_is a b)) (int_fits (int_rem a b) (small (int_rem a b) (omega (arith, mag_rem a b))))

remainder_fits : (a b : Token) → has_fit a ≡ true → has_fit (remainder_of a b) ≡ true
remainder_fits (token.Int a) (token.Int b) e = either_fits (int_eq b (pos 0)) token.Null (token.Int (a -ℤ (b *ℤ int_div a b))) null_fits (rest_fits a b e)
remainder_fits _ _ e = null_fits

ordered_fits : (op : List ℕ) (o : Option Ordering) → has_fit (ordered op o) ≡ true
ordered_fits op None = null_fits
ordered_fits op (Some o) =
    either_fits (bytes_eq op (codes "<")) _ _ (bool_fits (is_lt o))
    (either_fits (bytes_eq op (codes "<=")) _ _ (bool_fits (is_le o))
    (either_fits (bytes_eq op (codes ">")) _ _ (bool_fits (is_gt o))
    (either_fits (bytes_eq op (codes ">=")) _ _ (bool_fits (is_ge o)) null_fits)))

comparison_fits : (op a b : Token) → has_fit (comparison_of op a b) ≡ true
comparison_fits (token.Text op) a b =
    either_fits (bytes_eq op (codes "=")) _ _ (bool_fits (are_same a b))
    (either_fits (bytes_eq op (codes "!=")) _ _ (bool_fits (not (are_same a b)))
    (ordered_fits op (order_of a b)))
comparison_fits _ a b = null_fits

-- ---- text

joined_fits : (a b : Token) → has_fit (joined_of a b) ≡ true
joined_fits (token.Text a) (token.Text b) = fitted_fits _
joined_fits _ _ = null_fits

length_fits : (x : Token) → has_fit (length_of x) ≡ true
length_fits (token.Text s) = number_fits (pos (character_count s))
length_fits _ = null_fits

-- ---- json

parsed_fits : (x : Token) → has_fit (parsed_of x) ≡ true
parsed_fits (token.Text s) = fitted_fits (token_or_null (reading s))
parsed_fits _ = null_fits

value_at_fits : (key : List ℕ) (ps : List (Pair Token)) → PairsWithin ps → has_fit (value_at key ps) ≡ true
value_at_fits key [] w = null_fits
value_at_fits key (p ∷ ps) w = either_fits (bytes_eq key p.key) p.value (value_at key ps) (value_fits p ps w) (value_at_fits key ps (other_pairs p ps w))

element_at_fits : (z : ℤ) (xs : List Token) → has_fit (token.List xs) ≡ true → has_fit (element_at z xs) ≡ true
element_at_fits (pos n) xs e = item_fits xs n (items_fit xs e)
element_at_fits (negsuc n) xs e = null_fits

got_fits : (key : Token) (x : Token-F Token) → has_fit (roll-Token x) ≡ true → has_fit (got_step key x) ≡ true
got_fits (token.Text key) (Token-F.Dict ps) e = value_at_fits key ps (pairs_within ps (subst (λ (t : Token). has_fit t ≡ true) (rolls-Dict ps) e))
got_fits (token.Int z) (Token-F.List xs) e = element_at_fits z xs (subst (λ (t : Token). has_fit t ≡ true) (rolls-List xs) e)
got_fits _ _ e = null_fits

-- ---- logic

negated_fits : (x : Token) → has_fit (negated_of x) ≡ true
negated_fits (token.Bool b) = bool_fits (not b)
negated_fits _ = null_fits

-- ---- all

pub given_fits : (k : CalcKind) (arg a b : Token) → has_fit a ≡ true → has_fit (given_of k arg a b) ≡ true
given_fits kind.Add arg a b e = sum_fits a b
given_fits kind.Subtract arg a b e = difference_fits a b
given_fits kind.Multiply arg a b e = product_fits a b
given_fits kind.Divide arg a b e = quotient_fits a b
given_fits kind.Modulo arg a b e = remainder_fits a b e
given_fits kind.Compare op a b e = comparison_fits op a b
given_fits kind.Concat arg a b e = joined_fits a b
given_fits kind.Length arg x none e = length_fits x
given_fits kind.Prefix prefix x none e = joined_fits prefix x
given_fits kind.JsonText arg x none e = fitted_fits (token.Text (spelling x))
given_fits kind.JsonParse arg x none e = parsed_fits x
given_fits kind.JsonGet key x none e = got_fits key (out-Token x) (subst (λ (t : Token). has_fit t ≡ true) (sym (roll-out-Token x)) e)
given_fits kind.Not arg x none e = negated_fits x
