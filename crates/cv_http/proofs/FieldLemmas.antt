-- What one more field says.
use Rattle.std.proofs.Common.{◌≡◌, ℕ, zero, suc, ◌+◌, ◌<◌, ◌≤◌, Bool, true, false, cond, List, [], ◌∷◌, ◌++◌, map, length, get_or, take, refl, sym, ap, ◌∙◌, subst, arith, append-nil}
use Rattle.std.specs.Prelude.{nat_lt, codes, Result, Ok, Err, Option, None, Some, is_some, option_map, option_to_list}
use Rattle.std.specs.List.{list_any}
use Rattle.std.proofs.lemmas.Bool.{or_left, or_right}
use Rattle.httparse.specs.declared.spans.HeaderSpan.{HeaderSpan}
use Rattle.http1.specs.Fields.{Header, is_named, values_named}
use Rattle.http1.proofs.TextLemmas.{flat_map-map, flat_map-take_more, length-flat_map-take}
use Rattle.cv_http.specs.Fields.{is_coding, is_length, number_of, length_of, body_of}
use Rattle.cv_http.specs.declared.fault.HttpFault.{HttpFault}
use Rattle.cv_http.specs.declared.fault.HttpFault.TheVariants.{BadHead, HeadTooLong, BodyTooLong, Coding, BadLength, OutOfMemory}
use Rattle.cv_http.specs.declared.length.TheConstants.{MOST_BODY}
use Rattle.std.proofs.lemmas.Bool.Decides.{nat_tests}
use Rattle.std.specs.Str.Parse.{digits_value}

-- a second length is refused
pub second_length : (values : List (List ℕ)) → 2 ≤ length values → length_of values ≡ Err BadLength
unfolding length_of
second_length [] many = absurd (omega arith)
second_length (value ∷ []) many = absurd (omega arith)
second_length (value ∷ second ∷ values) many = refl

-- one element passes
pub any_at_map : {X Y : Type 0} (p : Y → Bool) (f : X → Y) (xs : List X) (i : ℕ) (d : X) → i < length xs
    → p (f (get_or xs i d)) ≡ true → list_any p (map f xs) ≡ true
any_at_map p f [] i d inside here = absurd (omega arith)
any_at_map p f (x ∷ xs) zero d inside here = or_left _ _ here
any_at_map p f (x ∷ xs) (suc i) d inside here = or_right _ _ (any_at_map p f xs i d (omega arith) here)

-- the values that one header adds to those of a name
abbrev pub added : List ℕ → Header → List (List ℕ)
added name h = cond (is_named name h) (h.1 ∷ []) []

pub values_more : {X : Type 0} (name : List ℕ) (f : X → Header) (xs : List X) (i : ℕ) (d : X) → i < length xs
    → values_named name (map f (take (i + 1) xs)) ≡ values_named name (map f (take i xs)) ++ added name (f (get_or xs i d))
values_more name f xs i d inside =
    flat_map-map (added name) f (take (i + 1) xs)
    ∙ flat_map-take_more (λ x. added name (f x)) xs i d inside
    ∙ ap (λ l. l ++ added name (f (get_or xs i d))) (sym (flat_map-map (added name) f (take i xs)))

pub values_within : {X : Type 0} (name : List ℕ) (f : X → Header) (xs : List X) (i : ℕ) (d : X) → i < length xs
    → length (values_named name (map f (take i xs))) + length (added name (f (get_or xs i d))) ≤ length (values_named name (map f xs))
values_within name f xs i d inside =
    let whole = length-flat_map-take (λ x. added name (f x)) xs i d inside in
    omega (arith, whole, ap length (flat_map-map (added name) f (take i xs)), ap length (flat_map-map (added name) f xs))

-- a field's value under the name, behind another
pub two_values : {X : Type 0} (name : List ℕ) (f : X → Header) (xs : List X) (i : ℕ) (d : X) → i < length xs
    → 1 ≤ length (values_named name (map f (take i xs))) → is_named name (f (get_or xs i d)) ≡ true
    → 2 ≤ length (values_named name (map f xs))
two_values name f xs i d inside some named =
    let here : length (added name (f (get_or xs i d))) ≡ 1 =
    ap (λ t. length (cond t ((f (get_or xs i d)).1 ∷ []) [])) named in
    omega (arith, here, some, values_within name f xs i d inside)

pub some_value : {A B : Type 0} (f : A → B) (o : Option A) → is_some o ≡ true → length (option_to_list (option_map f o)) ≡ 1
some_value f None some = cc
some_value f (Some a) some = refl

no_value : {A B : Type 0} (f : A → B) (o : Option A) → is_some o ≡ false → option_to_list (option_map f o) ≡ []
no_value f None none = refl
no_value f (Some a) none = cc

-- the first value under the name
pub first_value : {X A : Type 0} (name : List ℕ) (f : X → Header) (g : A → List ℕ) (xs : List X) (i : ℕ) (d : X) (o : Option A)
    → i < length xs → values_named name (map f (take i xs)) ≡ option_to_list (option_map g o) → is_some o ≡ false
    → is_named name (f (get_or xs i d)) ≡ true → values_named name (map f (take (i + 1) xs)) ≡ (f (get_or xs i d)).1 ∷ []
first_value name f g xs i d o inside before none named =
    values_more name f xs i d inside
    ∙ ap (λ l. l ++ added name (f (get_or xs i d))) (before ∙ no_value g o none)
    ∙ ap (λ t. cond t ((f (get_or xs i d)).1 ∷ []) []) named

-- a field under another name
pub other_value : {X : Type 0} (name : List ℕ) (f : X → Header) (xs : List X) (i : ℕ) (d : X) → i < length xs
    → is_named name (f (get_or xs i d)) ≡ false
    → values_named name (map f (take (i + 1) xs)) ≡ values_named name (map f (take i xs))
other_value name f xs i d inside other =
    values_more name f xs i d inside
    ∙ ap (λ t. values_named name (map f (take i xs)) ++ cond t ((f (get_or xs i d)).1 ∷ []) []) other
    ∙ append-nil (values_named name (map f (take i xs)))

-- what stands past the end of the headers
abbrev pub no_header : HeaderSpan
no_header = record { name = record { start = 0; end = 0 }; value = record { start = 0; end = 0 } }

-- a fault of fields
abbrev pub IsOfFields : HttpFault → Type 0
IsOfFields BadHead = ⊥
IsOfFields HeadTooLong = ⊥
IsOfFields BodyTooLong = Unit {0}
IsOfFields Coding = Unit {0}
IsOfFields BadLength = Unit {0}
IsOfFields OutOfMemory = ⊥

-- a body is at most the longest, or the fault is one of fields
abbrev IsMeasured : Result ℕ HttpFault → Type 0
IsMeasured (Ok n) = n ≤ MOST_BODY
IsMeasured (Err f) = IsOfFields f

measured_number : (value : List ℕ) → IsMeasured (number_of value)
unfolding number_of
measured_number value = by_test (is_length value) (nat_lt MOST_BODY (digits_value 10 value)) refl
  where
    by_test : (a b : Bool) → nat_lt MOST_BODY (digits_value 10 value) ≡ b
        → IsMeasured (cond a (cond b (Err BodyTooLong) (Ok (digits_value 10 value))) (Err BadLength))
    by_test true true e = tt
    by_test true false e = grind (arith, nat_tests)
    by_test false b e = tt

measured_length : (values : List (List ℕ)) → IsMeasured (length_of values)
unfolding length_of
measured_length [] = omega arith
measured_length (value ∷ []) = measured_number value
measured_length (value ∷ second ∷ values) = tt

measured_body : (fields : List Header) → IsMeasured (body_of fields)
unfolding body_of
measured_body fields = by_test (list_any is_coding fields)
  where
    by_test : (t : Bool) → IsMeasured (cond t (Err Coding) (length_of (values_named (codes "content-length") fields)))
    by_test true = tt
    by_test false = measured_length (values_named (codes "content-length") fields)

pub body_fault : (fields : List Header) (f : HttpFault) → body_of fields ≡ Err f → IsOfFields f
body_fault fields f e = subst IsMeasured e (measured_body fields)

pub body_most : (fields : List Header) (n : ℕ) → body_of fields ≡ Ok n → n ≤ MOST_BODY
body_most fields n e = subst IsMeasured e (measured_body fields)
