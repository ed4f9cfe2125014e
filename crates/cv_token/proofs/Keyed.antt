-- The pairs of an object have its keys, which rise.
use Rattle.std.proofs.Common.{◌≡◌, ℕ, List, [], ◌∷◌, ◌++◌, map, Option, Some, None, option_map, option_and_then, Less, nat_cmp, String, Global, string_bytes, string_cmp, refl, sym, ap, ◌∙◌, subst, append_assoc}
use Rattle.std.specs.Cmp.Lexicographic.{slice_cmp}
use Rattle.std.specs.List.{AllByRecursion}
use Rattle.std.specs.List.Sorted.{IsStrictlySortedBy}
use Rattle.std.specs.Map.{keys_of}
use Rattle.serde_json.specs.View.{view, members_view}
use Rattle.serde_json.specs.declared.value.Value.{Value}
use Rattle.cv_token.specs.declared.pairs.Pair.{Pair}
use Rattle.cv_token.specs.declared.token.Token.{Token}
use Rattle.cv_token.specs.Rising.{keys, Rise, AreRising}
use Rattle.cv_token.specs.Forms.{token_of, pairs_of}

-- what was found moves on by one
pub moved : {X : Type 0} → (xs : List X) (x : X) (o : Option (List X)) → option_map (λ ys. (xs ++ x ∷ []) ++ ys) o ≡ option_map (λ ys. xs ++ ys) (option_map (λ ys. x ∷ ys) o)
moved xs x None = refl
moved xs x (Some ys) = ap Some (append_assoc xs (x ∷ []) ys)

abbrev Entry : Type 0
Entry = String Global × Value

-- the parts of a first pair
parts : (k : List ℕ) (t : Option Token) (o : Option (List (Pair Token))) (ps : List (Pair Token))
    → option_and_then (λ t. option_map (λ ps. record { key = k; value = t } ∷ ps) o) t ≡ Some ps → (qs : List (Pair Token)) × (o ≡ Some qs) × (keys ps ≡ k ∷ keys qs)
parts k None o ps e = cc
parts k (Some t) None ps e = cc
parts k (Some t) (Some qs) ps e = let same : record { key = k; value = t } ∷ qs ≡ ps = cc in (qs, refl, ap keys (sym same))

below_keys : (k : String Global) (ks : List (String Global)) → AllByRecursion (λ y. string_cmp k y ≡ Less) ks → AllByRecursion (λ y. slice_cmp nat_cmp (string_bytes k) y ≡ Less) (map string_bytes ks)
below_keys k [] h = tt
below_keys k (l ∷ ks) h = (h.0, below_keys k ks h.1)

keys_rise : (ks : List (String Global)) → IsStrictlySortedBy string_cmp ks → Rise (map string_bytes ks)
unfolding IsStrictlySortedBy
keys_rise [] h = tt
keys_rise (k ∷ ks) h = (below_keys k ks h.0, keys_rise ks h.1)

same_keys : (es : List Entry) (ps : List (Pair Token)) → pairs_of (members_view es) ≡ Some ps → keys ps ≡ map string_bytes (keys_of es)
same_keys [] ps e = let same : [] ≡ ps = cc in ap keys (sym same)
same_keys (x ∷ es) ps e =
    let p = parts (string_bytes x.0) (token_of (view x.1)) (pairs_of (members_view es)) ps e in
    p.2 ∙ ap (λ ks. string_bytes x.0 ∷ ks) (same_keys es p.0 p.1)

pub AreRising-pairs_of : (es : List Entry) (ps : List (Pair Token)) → pairs_of (members_view es) ≡ Some ps → IsStrictlySortedBy string_cmp (keys_of es) → AreRising ps
AreRising-pairs_of es ps e h = subst Rise (sym (same_keys es ps e)) (keys_rise (keys_of es) h)
