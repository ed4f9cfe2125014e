-- `are_same` decides whether two tokens are one tree.
use Rattle.std.proofs.Common.{◌≡◌, ℕ, Bool, true, false, ◌&&◌, List, [], ◌∷◌, map, refl, sym, ap, ap₂, ◌∙◌, subst}
use Rattle.std.proofs.lemmas.Bool.{and_parts}
use Rattle.std.proofs.lemmas.Bool.Decides.{Decides-int_eq}
use Rattle.std.proofs.lemmas.Slice.Eq.{bytes_eq-Decides}
use Rattle.std.specs.Bool.{Decides}
use Rattle.cv_token.specs.declared.pairs.Pair.{Pair}
use Rattle.cv_token.specs.declared.token.Token.{Token, map-Token}
use Rattle.cv_token.specs.declared.token.Token.TheOpen.{Token-F}
use Rattle.cv_token.specs.declared.token.Token.TheViews.{out-Token, roll-Token, out-roll-Token, roll-out-Token}
use Rattle.cv_token.specs.declared.token.Token.TheFolds.{ind-Token, fold-roll-Token}
use Rattle.cv_token.specs.formers.pairs.PairsOf.{on_value}
use Rattle.cv_behave.specs.Values.{are_same, same_bool, same_items, same_pairs, same_level}

abbrev Is : Token → Type 0
Is t = ((u : Token) → are_same t u ≡ true → t ≡ u) × (are_same t t ≡ true)

abbrev With : Type 0
With = (t : Token) × Is t

abbrev bare : With → Token
bare y = y.0

abbrev made : List ℕ → Token → Pair Token
made k v = record { key = k; value = v }

bools : (a b : Bool) → same_bool a b ≡ true → a ≡ b
bools true true e = refl
bools true false e = cc
bools false true e = cc
bools false false e = refl

bool_itself : (a : Bool) → same_bool a a ≡ true
bool_itself true = refl
bool_itself false = refl

items : (ys : List With) (ts : List Token) → same_items (map are_same (map bare ys)) ts ≡ true → map bare ys ≡ ts
items [] [] e = refl
items [] (t ∷ ts) e = cc
items (y ∷ ys) [] e = cc
items (y ∷ ys) (t ∷ ts) e = let h = and_parts _ _ e in ap₂ (λ (x : Token) (xs : List Token). x ∷ xs) (y.1.0 t h.0) (items ys ts h.1)

both : (a b : Bool) → a ≡ true → b ≡ true → (a && b) ≡ true
both a b e f = rw (e, f) refl

items_itself : (ys : List With) → same_items (map are_same (map bare ys)) (map bare ys) ≡ true
items_itself [] = refl
items_itself (y ∷ ys) = both _ _ y.1.1 (items_itself ys)

pairs : (ys : List (Pair With)) (qs : List (Pair Token)) → same_pairs (map (on_value are_same) (map (on_value bare) ys)) qs ≡ true → map (on_value bare) ys ≡ qs
pairs [] [] e = refl
pairs [] (q ∷ qs) e = cc
pairs (y ∷ ys) [] e = cc
pairs (y ∷ ys) (q ∷ qs) e =
    let h = and_parts _ _ e in
    let g = and_parts _ _ h.1 in
    ap₂ (λ (x : Pair Token) (xs : List (Pair Token)). x ∷ xs) (ap₂ made ((bytes_eq-Decides y.key q.key).0 h.0) (y.value.1.0 q.value g.0)) (pairs ys qs g.1)

pairs_itself : (ys : List (Pair With)) → same_pairs (map (on_value are_same) (map (on_value bare) ys)) (map (on_value bare) ys) ≡ true
pairs_itself [] = refl
pairs_itself (y ∷ ys) = both _ _ ((bytes_eq-Decides y.key y.key).1 refl) (both _ _ y.value.1.1 (pairs_itself ys))

abbrev tests : Token-F Token → Token-F (Token → Bool)
tests = map-Token Token (Token → Bool) are_same

sound : (y : Token-F With) (z : Token-F Token) → same_level (tests (map-Token With Token bare y)) z ≡ true → map-Token With Token bare y ≡ z
sound Token-F.Null Token-F.Null e = refl
sound (Token-F.Bool a) (Token-F.Bool b) e = ap Token-F.Bool (bools a b e)
sound (Token-F.Int a) (Token-F.Int b) e = ap Token-F.Int ((Decides-int_eq a b).0 e)
sound (Token-F.Text a) (Token-F.Text b) e = ap Token-F.Text ((bytes_eq-Decides a b).0 e)
sound (Token-F.List ys) (Token-F.List ts) e = ap Token-F.List (items ys ts e)
sound (Token-F.Dict ys) (Token-F.Dict qs) e = ap Token-F.Dict (pairs ys qs e)
sound _ _ e = cc

itself : (y : Token-F With) → same_level (tests (map-Token With Token bare y)) (map-Token With Token bare y) ≡ true
itself Token-F.Null = refl
itself (Token-F.Bool a) = bool_itself a
itself (Token-F.Int a) = (Decides-int_eq a a).1 refl
itself (Token-F.Text a) = (bytes_eq-Decides a a).1 refl
itself (Token-F.List ys) = items_itself ys
itself (Token-F.Dict ys) = pairs_itself ys

abbrev Level : Token-F Token → Type 0
Level x = ((z : Token-F Token) → same_level (tests x) z ≡ true → x ≡ z) × (same_level (tests x) x ≡ true)

same_at : (x : Token-F Token) (u : Token) → are_same (roll-Token x) u ≡ same_level (tests x) (out-Token u)
unfolding are_same
same_at x u = ap (λ (f : Token → Bool). f u) (fold-roll-Token (Token → Bool) (λ level t. same_level level (out-Token t)) x)

rolled : (x : Token-F Token) → Level x → Is (roll-Token x)
rolled x l = (
  λ u e. ap roll-Token (l.0 (out-Token u) (sym (same_at x u) ∙ e)) ∙ roll-out-Token u,
  same_at x (roll-Token x) ∙ ap (same_level (tests x)) (out-roll-Token x) ∙ l.1,
)

each : (t : Token) → Is t
each = ind-Token Is (λ x y is. subst (λ z. Is (roll-Token z)) is (rolled (map-Token With Token bare y) (sound y, itself y)))

pub Decides-are_same : (a b : Token) → Decides (are_same a b) (a ≡ b)
Decides-are_same a b = ((each a).0 b, λ e. subst (λ u. are_same a u ≡ true) e (each a).1)
