-- What the kinds of flow make of tokens that fit, fits.
use Rattle.std.proofs.Common.{◌≡◌, pos, Bool, true, false, if◌then◌else◌, List, [], ◌∷◌, Option, Some, None, refl}
use Rattle.std.proofs.lemmas.Bool.{and_parts}
use Rattle.cv_token.specs.declared.token.Token.{Token}
use Rattle.cv_token.specs.declared.token.Token.TheVariants as token
use Rattle.cv_behave.specs.Values.{all_fit, has_fit, list_of}
use Rattle.cv_behave.proofs.Fitting.{item_fits, null_fits}
use Rattle.cv_behave.proofs.Lists.{empty_fits, listed_fits, null_list_fits, parts_fit, tail_fits}
use Rattle.cv_flow.specs.Values.{element, elements, first_of_two, second_of_two, taken_apart, without_first}

-- ---- std.Sequence

element_of : (i : Token) (o : Option (List Token)) → ((xs : List Token) → o ≡ Some xs → all_fit xs ≡ true) → has_fit (element i o) ≡ true
element_of (token.Int (pos n)) (Some xs) h = item_fits xs n (h xs refl)
element_of _ _ h = null_fits

pub element_fits : (i list : Token) → has_fit list ≡ true → has_fit (element i (list_of list)) ≡ true
element_fits i list e = element_of i (list_of list) (λ xs is. parts_fit list xs e is)

-- ---- flow.Unbatch

elements_of : (o : Option (List Token)) → ((xs : List Token) → o ≡ Some xs → all_fit xs ≡ true) → all_fit (elements o) ≡ true
elements_of None h = refl
elements_of (Some xs) h = h xs refl

pub elements_fit : (list : Token) → has_fit list ≡ true → all_fit (elements (list_of list)) ≡ true
elements_fit list e = elements_of (list_of list) (λ xs is. parts_fit list xs e is)

behind_first : (xs : List Token) → has_fit (token.List xs) ≡ true → has_fit (token.List (without_first xs)) ≡ true
behind_first [] e = empty_fits
behind_first (x ∷ xs) e = tail_fits x xs e

rest_of : (o : Option (List Token)) → ((xs : List Token) → o ≡ Some xs → has_fit (token.List xs) ≡ true) → has_fit (token.List (without_first (elements o))) ≡ true
rest_of None h = empty_fits
rest_of (Some xs) h = behind_first xs (h xs refl)

pub rest_fits : (list : Token) → has_fit list ≡ true → has_fit (token.List (without_first (elements (list_of list)))) ≡ true
rest_fits list e = rest_of (list_of list) (λ xs is. listed_fits list xs is e)

alone_or_null : (b : Bool) (x : Token) → has_fit (token.List (x ∷ [])) ≡ b → has_fit (token.List (if b then x ∷ [] else token.Null ∷ [])) ≡ true
alone_or_null true x is = is
alone_or_null false x is = null_list_fits

taken_of : (x : Token) (o : Option (List Token)) → ((xs : List Token) → o ≡ Some xs → has_fit (token.List xs) ≡ true) → has_fit (token.List (taken_apart x o)) ≡ true
taken_of x None h = alone_or_null (has_fit (token.List (x ∷ []))) x refl
taken_of x (Some xs) h = h xs refl

pub taken_fits : (x : Token) → has_fit x ≡ true → has_fit (token.List (taken_apart x (list_of x))) ≡ true
taken_fits x e = taken_of x (list_of x) (λ xs is. listed_fits x xs is e)

-- ---- flow.Unzip

first_of : (o : Option (List Token)) → ((xs : List Token) → o ≡ Some xs → all_fit xs ≡ true) → has_fit (first_of_two o) ≡ true
first_of (Some (a ∷ b ∷ [])) h = (and_parts _ _ (h (a ∷ b ∷ []) refl)).0
first_of _ h = null_fits

second_of : (o : Option (List Token)) → ((xs : List Token) → o ≡ Some xs → all_fit xs ≡ true) → has_fit (second_of_two o) ≡ true
second_of (Some (a ∷ b ∷ [])) h = item_fits (a ∷ b ∷ []) 1 (h (a ∷ b ∷ []) refl)
second_of _ h = null_fits

pub first_fits : (pair : Token) → has_fit pair ≡ true → has_fit (first_of_two (list_of pair)) ≡ true
first_fits pair e = first_of (list_of pair) (λ xs is. parts_fit pair xs e is)

pub second_fits : (pair : Token) → has_fit pair ≡ true → has_fit (second_of_two (list_of pair)) ≡ true
second_fits pair e = second_of (list_of pair) (λ xs is. parts_fit pair xs e is)
