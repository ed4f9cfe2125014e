-- A token's JSON value is read back from its text as that value, and its token is the one that was written.
use Rattle.std.proofs.Common.{◌≡◌, ◌^◌, ℤ, pos, negsuc, List, [], ◌∷◌, ◌++◌, true, Bool, ◌&&◌, map, Some, option_map, refl, sym, ap, ◌∙◌, subst, arith, append_assoc, append-nil, ltb-true}
use Rattle.std.proofs.lemmas.Bool.{and_parts}
use Rattle.std.specs.Fmt.{signed_decimal}
use Rattle.json.specs.Print.{IsNumber}
use Rattle.json.specs.Tree.{HasNumbers, ItemsHaveNumbers, MembersHaveNumbers}
use Rattle.json.proofs.Printed.Decimals.{IsNumber-decimal, IsNumber-signed_decimal}
use Rattle.serde_json.specs.Data.{Data, number, array, object}
use Rattle.serde_json.specs.Read.{of_json, of_items, of_members}
use Rattle.serde_json.specs.View.{items_of}
use Rattle.serde_json.specs.Written.{outline, items_outline, members_outline}
use Rattle.serde_json.proofs.Numbers.{number_of-decimal, number_of-negative}
use Rattle.cv_token.specs.declared.pairs.Pair.{Pair}
use Rattle.cv_token.specs.declared.token.Token.{Token, map-Token}
use Rattle.cv_token.specs.declared.token.Token.TheOpen.{Token-F}
use Rattle.cv_token.specs.declared.token.Token.TheVariants as variants
use Rattle.cv_token.specs.declared.token.Token.TheViews.{roll-Token, rolls-Null, rolls-Bool, rolls-Int, rolls-Text, rolls-List, rolls-Dict}
use Rattle.cv_token.specs.declared.token.Token.TheFolds.{ind-Token, fold-roll-Token}
use Rattle.cv_token.specs.formers.pairs.PairsOf.{on_value, keys_on_values}
use Rattle.cv_token.specs.Rising.{Rise, AreRising}
use Rattle.cv_token.specs.Forms.{data_of, data_step, members_from, token_of, tokens_of, pairs_of}
use Rattle.cv_token.specs.Shape.{has_64_bits, is_token, is_token_step, all_true, all_members, are_rising}
use Rattle.cv_token.proofs.Lasts.{put_last_value}
use Rattle.cv_token.proofs.Rises.{AreRising-from_test}

pub record Plain (d : Data) : Type 0 where
  pub numbers : HasNumbers (outline d)
  pub back : of_json (outline d) ≡ Some d

-- what a token's value keeps
abbrev Keeps : Token → Type 0
Keeps t = is_token t ≡ true → Plain (data_of t) × (token_of (data_of t) ≡ Some t)

abbrev With : Type 0
With = (t : Token) × Keeps t

abbrev bare : With → Token
bare y = y.0

-- ---- lists

abbrev data_items : List With → List Data
data_items ys = map data_of (map bare ys)

abbrev tests : List With → List Bool
tests ys = map is_token (map bare ys)

items_numbers : (ys : List With) → all_true (tests ys) ≡ true → ItemsHaveNumbers (items_outline (items_of (data_items ys)))
items_numbers [] e = tt
items_numbers (y ∷ ys) e = let h = and_parts _ _ e in ((y.1 h.0).0.numbers, items_numbers ys h.1)

items_back : (ys : List With) → all_true (tests ys) ≡ true → of_items (items_outline (items_of (data_items ys))) ≡ Some (items_of (data_items ys))
items_back [] e = refl
items_back (y ∷ ys) e = let h = and_parts _ _ e in rw ((y.1 h.0).0.back, items_back ys h.1) refl

items_token : (ys : List With) → all_true (tests ys) ≡ true → tokens_of (items_of (data_items ys)) ≡ Some (map bare ys)
items_token [] e = refl
items_token (y ∷ ys) e = let h = and_parts _ _ e in rw ((y.1 h.0).1, items_token ys h.1) refl

-- ---- dictionaries

abbrev data_pairs : List (Pair With) → List (Pair Data)
data_pairs ys = map (on_value data_of) (map (on_value bare) ys)

abbrev pair_tests : List (Pair With) → List (Pair Bool)
pair_tests ys = map (on_value is_token) (map (on_value bare) ys)

-- the test of a first member
first_value : (a b c : Bool) → (a && (b && c)) ≡ true → (b ≡ true) × (c ≡ true)
first_value a b c e = and_parts b c (and_parts a (b && c) e).1

members_numbers : (ys : List (Pair With)) → all_members (pair_tests ys) ≡ true → MembersHaveNumbers (members_outline (members_from (data_pairs ys)))
members_numbers [] e = tt
members_numbers (y ∷ ys) e = let h = first_value _ _ _ e in ((y.value.1 h.0).0.numbers, members_numbers ys h.1)

members_token : (ys : List (Pair With)) → all_members (pair_tests ys) ≡ true → pairs_of (members_from (data_pairs ys)) ≡ Some (map (on_value bare) ys)
members_token [] e = refl
members_token (y ∷ ys) e = let h = first_value _ _ _ e in rw ((y.value.1 h.0).1, members_token ys h.1) refl

-- behind those that are done, the rest goes in
members_back : (done : List (Pair Data)) (ys : List (Pair With)) → all_members (pair_tests ys) ≡ true → AreRising (done ++ data_pairs ys)
    → of_members (members_outline (members_from (data_pairs ys))) (members_from done) ≡ Some (members_from (done ++ data_pairs ys))
members_back done [] e r = ap (λ ps. Some (members_from ps)) (sym (append-nil done))
members_back done (y ∷ ys) e r =
    let h = first_value _ _ _ e in
    let p : Pair Data = on_value data_of (on_value bare y) in
    let more = data_pairs ys in
    let joined : (done ++ p ∷ []) ++ more ≡ done ++ p ∷ more = append_assoc done (p ∷ []) more in
    rw ((y.value.1 h.0).0.back, put_last_value done p more r)
    (members_back (done ++ p ∷ []) ys h.1 (subst AreRising (sym joined) r) ∙ ap (λ ps. Some (members_from ps)) joined)

rising : (ys : List (Pair With)) → are_rising (pair_tests ys) ≡ true → AreRising (data_pairs ys)
rising ys e =
    let tested = AreRising-from_test (pair_tests ys) e in
    let bare_keys = subst Rise (keys_on_values is_token (map (on_value bare) ys)) tested in
    subst Rise (sym (keys_on_values data_of (map (on_value bare) ys))) bare_keys

-- ---- one level

abbrev Level : Token-F Token → Type 0
Level x =
    let d = data_step (map-Token Token Data data_of x) in
    is_token_step (map-Token Token Bool is_token x) ≡ true → Plain d × (token_of d ≡ Some (roll-Token x))

-- integers of 64 signed bits
int_number : (n : ℤ) → has_64_bits n ≡ true → IsNumber (signed_decimal n)
int_number (pos n) e = let h = ltb-true n (2 ^ 63) e in IsNumber-decimal n (omega arith)
int_number (negsuc n) e = let h = ltb-true n (2 ^ 63) e in IsNumber-signed_decimal (negsuc n) h

int_level : (n : ℤ) → Level (Token-F.Int n)
int_level (pos n) e =
    let h = ltb-true n (2 ^ 63) e in
    (record { numbers = int_number (pos n) e; back = ap (option_map number) (number_of-decimal n (omega arith)) }, rw e (ap Some (sym (rolls-Int (pos n)))))
int_level (negsuc n) e =
    let h = ltb-true n (2 ^ 63) e in
    (record { numbers = int_number (negsuc n) e; back = ap (option_map number) (number_of-negative n h) }, ap Some (sym (rolls-Int (negsuc n))))

level : (y : Token-F With) → Level (map-Token With Token bare y)
level Token-F.Null e = (record { numbers = tt; back = refl }, ap Some (sym rolls-Null))
level (Token-F.Bool b) e = (record { numbers = tt; back = refl }, ap Some (sym (rolls-Bool b)))
level (Token-F.Int n) e = int_level n e
level (Token-F.Text s) e = (record { numbers = tt; back = refl }, ap Some (sym (rolls-Text s)))
level (Token-F.List ys) e = (
  record { numbers = items_numbers ys e; back = ap (option_map array) (items_back ys e) },
  ap (option_map variants.List) (items_token ys e) ∙ ap Some (sym (rolls-List (map bare ys))),
)
level (Token-F.Dict ys) e =
    let h = and_parts _ _ e in (
      record { numbers = members_numbers ys h.1; back = ap (option_map object) (members_back [] ys h.1 (rising ys h.0)) },
      ap (option_map variants.Dict) (members_token ys h.1) ∙ ap Some (sym (rolls-Dict (map (on_value bare) ys))),
    )

rolled : (x : Token-F Token) → Level x → Keeps (roll-Token x)
rolled x l e =
    let d = fold-roll-Token Data data_step x in
    let h = l (sym (fold-roll-Token Bool is_token_step x) ∙ e) in
    (subst Plain (sym d) h.0, ap token_of d ∙ h.1)

pub keeps : (t : Token) → is_token t ≡ true → Plain (data_of t) × (token_of (data_of t) ≡ Some t)
keeps = ind-Token Keeps (λ x y is. subst (λ z. Keeps (roll-Token z)) is (rolled (map-Token With Token bare y) (level y)))
