-- A token's text is UTF-8.
use Rattle.std.proofs.Common.{◌≡◌, ℕ, suc, ◌^◌, pos, negsuc, List, [], ◌∷◌, ◌++◌, false, true, Bool, ◌&&◌, map, IsUtf8, refl, sym, ◌∙◌, subst, arith, decimal, ltb-true}
use Rattle.std.proofs.lemmas.Bool.{and_parts}
use Rattle.std.proofs.lemmas.Fmt.{IsAscii-decimal}
use Rattle.std.proofs.lemmas.Str.{IsUtf8-append, IsUtf8-from_ascii, IsUtf8-from_is_utf8}
use Rattle.std.specs.Str.{is_utf8}
use Rattle.json.specs.Print.{quoted}
use Rattle.json.proofs.Printed.Utf8.{are_ascii, IsUtf8-are_ascii, IsUtf8-quoted}
use Rattle.cv_token.specs.declared.pairs.Pair.{Pair}
use Rattle.cv_token.specs.declared.token.Token.{Token, map-Token}
use Rattle.cv_token.specs.declared.token.Token.TheOpen.{Token-F}
use Rattle.cv_token.specs.declared.token.Token.TheViews.{roll-Token}
use Rattle.cv_token.specs.declared.token.Token.TheFolds.{ind-Token, fold-roll-Token}
use Rattle.cv_token.specs.formers.pairs.PairsOf.{on_value}
use Rattle.cv_token.specs.Shape.{is_token, is_token_step, all_true, all_members}
use Rattle.cv_token.specs.Spelling.{spelling, spelling_step, separated, behind_commas, members}

abbrev Is : Token → Type 0
Is t = is_token t ≡ true → IsUtf8 (spelling t)

abbrev With : Type 0
With = (t : Token) × Is t

abbrev bare : With → Token
bare y = y.0

-- an ASCII byte before, and one behind
before : (c : ℕ) (s : List ℕ) → are_ascii (c ∷ []) ≡ true → IsUtf8 s → IsUtf8 (c ∷ s)
before c s e u = IsUtf8-append (c ∷ []) s (IsUtf8-are_ascii (c ∷ []) e) u

closed : (o c : ℕ) (s : List ℕ) → are_ascii (o ∷ []) ≡ true → are_ascii (c ∷ []) ≡ true → IsUtf8 s → IsUtf8 (o ∷ (s ++ c ∷ []))
closed o c s e f u = before o (s ++ c ∷ []) e (IsUtf8-append s (c ∷ []) u (IsUtf8-are_ascii (c ∷ []) f))

nothing : IsUtf8 []
nothing = IsUtf8-are_ascii [] refl

abbrev texts : List With → List (List ℕ)
texts ys = map spelling (map bare ys)

abbrev tests : List With → List Bool
tests ys = map is_token (map bare ys)

behind : (ys : List With) → all_true (tests ys) ≡ true → IsUtf8 (behind_commas (texts ys))
behind [] e = nothing
behind (y ∷ ys) e = let h = and_parts _ _ e in before 44 _ refl (IsUtf8-append (spelling y.0) _ (y.1 h.0) (behind ys h.1))

whole : (ys : List With) → all_true (tests ys) ≡ true → IsUtf8 (separated (texts ys))
whole [] e = nothing
whole (y ∷ ys) e = let h = and_parts _ _ e in IsUtf8-append (spelling y.0) _ (y.1 h.0) (behind ys h.1)

abbrev member_texts : List (Pair With) → List (List ℕ)
member_texts ys = members (map (on_value spelling) (map (on_value bare) ys))

abbrev member_tests : List (Pair With) → List (Pair Bool)
member_tests ys = map (on_value is_token) (map (on_value bare) ys)

a_member : (y : Pair With) (b : Bool) → (is_utf8 y.key && (is_token y.value.0 && b)) ≡ true → IsUtf8 (quoted y.key ++ 58 ∷ spelling y.value.0) × (b ≡ true)
a_member y b e =
    let h = and_parts _ _ e in
    let v = and_parts _ _ h.1 in
    (IsUtf8-append (quoted y.key) _ (IsUtf8-quoted y.key (IsUtf8-from_is_utf8 y.key h.0)) (before 58 _ refl (y.value.1 v.0)), v.1)

members_behind : (ys : List (Pair With)) → all_members (member_tests ys) ≡ true → IsUtf8 (behind_commas (member_texts ys))
members_behind [] e = nothing
members_behind (y ∷ ys) e = let h = a_member y _ e in before 44 _ refl (IsUtf8-append (quoted y.key ++ 58 ∷ spelling y.value.0) _ h.0 (members_behind ys h.1))

members_whole : (ys : List (Pair With)) → all_members (member_tests ys) ≡ true → IsUtf8 (separated (member_texts ys))
members_whole [] e = nothing
members_whole (y ∷ ys) e = let h = a_member y _ e in IsUtf8-append (quoted y.key ++ 58 ∷ spelling y.value.0) _ h.0 (members_behind ys h.1)

abbrev Level : Token-F Token → Type 0
Level x = is_token_step (map-Token Token Bool is_token x) ≡ true → IsUtf8 (spelling_step (map-Token Token (List ℕ) spelling x))

level : (y : Token-F With) → Level (map-Token With Token bare y)
level Token-F.Null e = IsUtf8-are_ascii _ refl
level (Token-F.Bool true) e = IsUtf8-are_ascii _ refl
level (Token-F.Bool false) e = IsUtf8-are_ascii _ refl
level (Token-F.Int (pos n)) e = let h = ltb-true n (2 ^ 63) e in IsUtf8-from_ascii (decimal n) (IsAscii-decimal n (omega arith))
level (Token-F.Int (negsuc n)) e = let h = ltb-true n (2 ^ 63) e in before 45 _ refl (IsUtf8-from_ascii (decimal (suc n)) (IsAscii-decimal (suc n) (omega arith)))
level (Token-F.Text s) e = IsUtf8-quoted s (IsUtf8-from_is_utf8 s e)
level (Token-F.List ys) e = closed 91 93 (separated (texts ys)) refl refl (whole ys e)
level (Token-F.Dict ys) e = closed 123 125 (separated (member_texts ys)) refl refl (members_whole ys (and_parts _ _ e).1)

rolled : (x : Token-F Token) → Level x → Is (roll-Token x)
rolled x l e = subst IsUtf8 (sym (fold-roll-Token (List ℕ) spelling_step x)) (l (sym (fold-roll-Token Bool is_token_step x) ∙ e))

pub IsUtf8-spelling : (t : Token) → is_token t ≡ true → IsUtf8 (spelling t)
IsUtf8-spelling = ind-Token Is (λ x y is. subst (λ z. Is (roll-Token z)) is (rolled (map-Token With Token bare y) (level y)))
