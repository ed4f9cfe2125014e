-- What rows compute is of the sort of the slot that it goes into.
use Rattle.std.proofs.Common.{◌≡◌, ◌≤◌, ◌<◌, ◌^◌, ℕ, suc, ℤ, pos, negsuc, ◌+ℤ◌, Bool, true, false, not, ◌||◌, if◌then◌else◌, List, length, Option, Some, None, is_some, int_lt, refl, sym, ap, ◌∙◌, subst, arith, le-leb, ltb-true, lt-ltb}
use Rattle.std.proofs.lemmas.Int.{ints}
use Rattle.cv_token.specs.declared.token.Token.{Token}
use Rattle.cv_token.specs.declared.token.Token.TheVariants as token
use Rattle.cv_token.specs.Shape.{has_64_bits}
use Rattle.cv_behave.specs.Values.{fallen, grown, has_fit, is_int, list_of, next_number, number, sum_of}
use Rattle.cv_behave.proofs.Fitting.{below, bits_of}
use Rattle.cv_behave.proofs.Lists.{few_items, list_of_List, listed_fits}
use Rattle.cv_flow.specs.Values.{is_before_last, is_below_length}
use Rattle.cv_kinds.specs.Sorts.{is_at_least, is_list, is_null, is_place, is_round}

-- ---- numbers

no_less : (n : ℕ) → not (int_lt (pos n) (pos 0)) ≡ true
no_less n = grind (arith, ints)

pub fallen_left : (t : Token) → is_at_least (negsuc 0) t ≡ true → is_at_least (negsuc 0) (fallen t) ≡ true
fallen_left (token.Int (pos (suc n))) e = refl
fallen_left t e = e

pub fallen_count : (t : Token) → is_at_least (pos 0) t ≡ true → is_at_least (pos 0) (fallen t) ≡ true
fallen_count (token.Int (pos (suc n))) e = no_less n
fallen_count t e = e

either_one : (b : Bool) (z : ℤ) → (is_int (if b then token.Int z else token.Null) || is_null (if b then token.Int z else token.Null)) ≡ true
either_one true z = refl
either_one false z = refl

-- the number after one is a number or null
pub next_is : (t : Token) → (is_int (next_number t) || is_null (next_number t)) ≡ true
next_is (token.Int z) = either_one (has_64_bits (z +ℤ pos 1)) (z +ℤ pos 1)
next_is _ = refl

pub int_is_next : (t : Token) → is_int t ≡ true → (is_int t || is_null t) ≡ true
int_is_next t e = rw e refl

grown_one : (b : Bool) (x z : ℤ) → is_int (grown (if b then token.Int z else token.Null) (token.Int x)) ≡ true
grown_one true x z = refl
grown_one false x z = refl

pub sum_is : (s t : Token) → is_int s ≡ true → is_int (grown (sum_of s t) s) ≡ true
sum_is (token.Int x) (token.Int y) e = grown_one (has_64_bits (x +ℤ y)) x (x +ℤ y)
sum_is (token.Int x) _ e = refl
sum_is _ _ e = cc

after : (n : ℕ) → pos n +ℤ pos 1 ≡ pos (suc n)
after n = grind (arith, ints)

count_one : (b : Bool) (n : ℕ) (z : ℤ) → z ≡ pos (suc n) → is_at_least (pos 0) (grown (if b then token.Int z else token.Null) (token.Int (pos n))) ≡ true
count_one true n z e = subst (λ (x : ℤ). not (int_lt x (pos 0)) ≡ true) (sym e) (no_less (suc n))
count_one false n z e = no_less n

pub count_is : (t : Token) → is_at_least (pos 0) t ≡ true → is_at_least (pos 0) (grown (next_number t) t) ≡ true
count_is (token.Int (pos n)) e = count_one (has_64_bits (pos n +ℤ pos 1)) n (pos n +ℤ pos 1) (after n)
count_is (token.Int (negsuc n)) e = cc
count_is _ e = cc

number_is : (b : Bool) (z : ℤ) → b ≡ true → (if b then token.Int z else token.Null) ≡ token.Int z
number_is true z e = refl
number_is false z e = cc

-- the number after one that is small enough
next_small : (n : ℕ) → suc n < 2 ^ 63 → next_number (token.Int (pos n)) ≡ token.Int (pos (suc n))
next_small n h = ap number (after n) ∙ number_is (has_64_bits (pos (suc n))) (pos (suc n)) (lt-ltb (suc n) (2 ^ 63) h)

-- ---- places in a list

some_place : (o : Option (List Token)) → is_some o ≡ true → is_place (token.Int (pos 0)) o ≡ true
some_place None e = cc
some_place (Some xs) e = le-leb 0 (length xs) (omega arith)

pub first_place : (list : Token) → is_list list ≡ true → is_place (token.Int (pos 0)) (list_of list) ≡ true
first_place list e = some_place (list_of list) e

place_after : (i : Token) (o : Option (List Token)) → ((xs : List Token) → o ≡ Some xs → length xs ≤ 1023) → is_place i o ≡ true → is_below_length i o ≡ true → is_place (next_number i) o ≡ true
place_after (token.Int (pos n)) (Some xs) few e below =
    let l : n < length xs = ltb-true n (length xs) below in
    let s : length xs ≤ 1023 = few xs refl in
    subst (λ (t : Token). is_place t (Some xs) ≡ true) (sym (next_small n (omega arith))) (le-leb (suc n) (length xs) (omega arith))
place_after _ _ few e below = cc

pub next_place : (i list : Token) → has_fit list ≡ true → is_place i (list_of list) ≡ true → is_below_length i (list_of list) ≡ true → is_place (next_number i) (list_of list) ≡ true
next_place i list fits e below = place_after i (list_of list) (λ xs is. few_items xs (listed_fits list xs is fits)) e below

-- a List is one
pub is_list_List : (ts : List Token) → is_list (token.List ts) ≡ true
is_list_List ts = ap is_some (list_of_List ts)

-- ---- rounds

pub first_round : (n : Token) → is_at_least (pos 1) n ≡ true → is_round (token.Int (pos 0)) n ≡ true
first_round (token.Int (pos (suc n))) e = lt-ltb 0 (suc n) (omega arith)
first_round _ e = cc

pub next_round : (c n : Token) → has_fit n ≡ true → is_round c n ≡ true → is_before_last c n ≡ true → is_round (next_number c) n ≡ true
next_round (token.Int (pos c)) (token.Int (pos n)) fits e more =
    let h : suc c < n = ltb-true (suc c) n (subst (λ (z : ℤ). int_lt z (pos n) ≡ true) (after c) more) in
    let b = below (pos n) (bits_of (pos n) fits) in
    subst (λ (t : Token). is_round t (token.Int (pos n)) ≡ true) (sym (next_small c (omega arith))) (lt-ltb (suc c) n h)
next_round _ _ fits e more = cc
