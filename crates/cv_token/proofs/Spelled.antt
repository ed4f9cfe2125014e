-- The compact text of a token's JSON value is the token's spelling.
use Rattle.std.proofs.Common.{◌≡◌, ℕ, pos, negsuc, List, [], ◌∷◌, ◌++◌, false, true, map, refl, sym, ap, ap₂, ◌∙◌, subst, append_assoc}
use Rattle.json.specs.Print.{quoted}
use Rattle.serde_json.specs.Data.{Data}
use Rattle.serde_json.specs.View.{items_of}
use Rattle.serde_json.specs.Written.{has_float, items_have_float, members_have_float, compact_text, items_text, members_text}
use Rattle.cv_token.specs.declared.pairs.Pair.{Pair}
use Rattle.cv_token.specs.declared.token.Token.{Token, map-Token}
use Rattle.cv_token.specs.declared.token.Token.TheOpen.{Token-F}
use Rattle.cv_token.specs.declared.token.Token.TheViews.{roll-Token}
use Rattle.cv_token.specs.declared.token.Token.TheFolds.{ind-Token, fold-roll-Token}
use Rattle.cv_token.specs.formers.pairs.PairsOf.{on_value}
use Rattle.cv_token.specs.Forms.{data_of, data_step, members_from}
use Rattle.cv_token.specs.Spelling.{spelling, spelling_step, separated, behind_commas, members}

abbrev pub Spelled : Token → Type 0
Spelled t = (has_float (data_of t) ≡ false) × (compact_text (data_of t) ≡ spelling t)

abbrev With : Type 0
With = (t : Token) × Spelled t

abbrev tree : With → Token
tree y = y.0

-- ---- lists

items_plain : (ys : List With) → items_have_float (items_of (map data_of (map tree ys))) ≡ false
items_plain [] = refl
items_plain (y ∷ ys) = rw (y.1.0) (items_plain ys)

items_behind : (ys : List With) → items_text true (items_of (map data_of (map tree ys))) ≡ behind_commas (map spelling (map tree ys)) ++ 93 ∷ []
items_behind [] = refl
items_behind (y ∷ ys) = ap (λ s. 44 ∷ s) (ap₂ ◌++◌ y.1.1 (items_behind ys) ∙ sym (append_assoc (spelling y.0) _ _))

items_spelled : (ys : List With) → items_text false (items_of (map data_of (map tree ys))) ≡ separated (map spelling (map tree ys)) ++ 93 ∷ []
items_spelled [] = refl
items_spelled (y ∷ ys) = ap₂ ◌++◌ y.1.1 (items_behind ys) ∙ sym (append_assoc (spelling y.0) _ _)

-- ---- dictionaries

regroup : (q v b e : List ℕ) → q ++ 58 ∷ (v ++ (b ++ e)) ≡ ((q ++ 58 ∷ v) ++ b) ++ e
regroup q v b e = sym (simp append_assoc)

abbrev data_pairs : List (Pair With) → List (Pair Data)
data_pairs ys = map (on_value data_of) (map (on_value tree) ys)

abbrev text_pairs : List (Pair With) → List (Pair (List ℕ))
text_pairs ys = map (on_value spelling) (map (on_value tree) ys)

pairs_plain : (ys : List (Pair With)) → members_have_float (members_from (data_pairs ys)) ≡ false
pairs_plain [] = refl
pairs_plain (y ∷ ys) = rw (y.value.1.0) (pairs_plain ys)

pairs_behind : (ys : List (Pair With)) → members_text true (members_from (data_pairs ys)) ≡ behind_commas (members (text_pairs ys)) ++ 125 ∷ []
pairs_behind [] = refl
pairs_behind (y ∷ ys) = ap (λ s. 44 ∷ (quoted y.key ++ 58 ∷ s)) (ap₂ ◌++◌ y.value.1.1 (pairs_behind ys)) ∙ ap (λ s. 44 ∷ s) (regroup (quoted y.key) (spelling y.value.0) _ _)

pairs_spelled : (ys : List (Pair With)) → members_text false (members_from (data_pairs ys)) ≡ separated (members (text_pairs ys)) ++ 125 ∷ []
pairs_spelled [] = refl
pairs_spelled (y ∷ ys) = ap (λ s. quoted y.key ++ 58 ∷ s) (ap₂ ◌++◌ y.value.1.1 (pairs_behind ys)) ∙ regroup (quoted y.key) (spelling y.value.0) _ _

-- ---- one level

abbrev Level : Token-F Token → Type 0
Level x =
    let d = data_step (map-Token Token Data data_of x) in
    (has_float d ≡ false) × (compact_text d ≡ spelling_step (map-Token Token (List ℕ) spelling x))

level : (y : Token-F With) → Level (map-Token With Token tree y)
level Token-F.Null = (refl, refl)
level (Token-F.Bool true) = (refl, refl)
level (Token-F.Bool false) = (refl, refl)
level (Token-F.Int (pos n)) = (refl, refl)
level (Token-F.Int (negsuc n)) = (refl, refl)
level (Token-F.Text s) = (refl, refl)
level (Token-F.List ys) = (items_plain ys, ap (λ s. 91 ∷ s) (items_spelled ys))
level (Token-F.Dict ys) = (pairs_plain ys, ap (λ s. 123 ∷ s) (pairs_spelled ys))

rolled : (x : Token-F Token) → Level x → Spelled (roll-Token x)
rolled x l =
    let d = fold-roll-Token Data data_step x in
    (ap has_float d ∙ l.0, ap compact_text d ∙ l.1 ∙ sym (fold-roll-Token (List ℕ) spelling_step x))

pub spelled : (t : Token) → Spelled t
spelled = ind-Token Spelled (λ x y is. subst (λ z. Spelled (roll-Token z)) is (rolled (map-Token With Token tree y) (level y)))
