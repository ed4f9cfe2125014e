-- No line feed stands in the text of a token.
use Rattle.std.proofs.Common.{◌≡◌, ◌≢◌, ℕ, suc, ◌+◌, ◌/◌, ◌%◌, ◌==◌, ◌^◌, pos, negsuc, List, [], ◌∷◌, ◌++◌, false, true, Bool, ◌&&◌, ◌||◌, cond, nat_lt, map, codes, refl, sym, ◌∙◌, subst, arith, ltb-true, inl}
use Rattle.std.proofs.lemmas.Bool.{and_parts, eqb-true}
use Rattle.std.proofs.lemmas.List.Elements.{All-append, All-cons, All-nil}
use Rattle.std.specs.Char.{digit_char}
use Rattle.std.specs.Str.{is_utf8}
use Rattle.json.specs.Print.{escape, escape_byte, escape_letter, quoted}
use Rattle.cv_token.specs.declared.pairs.Pair.{Pair}
use Rattle.cv_token.specs.declared.token.Token.{Token, map-Token}
use Rattle.cv_token.specs.declared.token.Token.TheOpen.{Token-F}
use Rattle.cv_token.specs.declared.token.Token.TheViews.{roll-Token}
use Rattle.cv_token.specs.declared.token.Token.TheFolds.{ind-Token, fold-roll-Token}
use Rattle.cv_token.specs.formers.pairs.PairsOf.{on_value}
use Rattle.cv_token.specs.Shape.{is_token, is_token_step, all_true, all_members}
use Rattle.cv_token.specs.Spelling.{spelling, spelling_step, separated, behind_commas, members}
use Rattle.cv_frame.specs.laws.Far.{lacks_digits}
use Rattle.cv_record.specs.Faults.{IsWithinLine}

abbrev Other : ℕ → Type 0
Other b = b ≢ 10

-- ---- bytes

one : (b : ℕ) (bs : List ℕ) → b ≢ 10 → IsWithinLine bs → IsWithinLine (b ∷ bs)
one b bs h rest = All-cons Other b bs h rest

none : IsWithinLine []
none = All-nil Other

two : (xs ys : List ℕ) → IsWithinLine xs → IsWithinLine ys → IsWithinLine (xs ++ ys)
two xs ys h k = All-append Other xs ys h k

-- a list of bytes none of which is a line feed, as a test
abbrev are_others : List ℕ → Bool
are_others [] = true
are_others (b ∷ bs) = cond (b == 10) false (are_others bs)

others : (b : ℕ) (bs : List ℕ) (r : Bool) → (b == 10) ≡ r → (are_others bs ≡ true → IsWithinLine bs) → cond r false (are_others bs) ≡ true → IsWithinLine (b ∷ bs)
others b bs true e rest h = absurd (let no : false ≡ true = h in cc)
others b bs false e rest h = one b bs (λ is. let t : (10 == 10) ≡ false = subst (λ (x : ℕ). (x == 10) ≡ false) is e in cc) (rest h)

known : (bs : List ℕ) → are_others bs ≡ true → IsWithinLine bs
known [] e = none
known (b ∷ bs) e = others b bs (b == 10) refl (known bs) e

-- ---- texts

either : (c : Bool) (a b : ℕ) → a ≢ 10 → b ≢ 10 → cond c a b ≢ 10
either true a b h k = h
either false a b h k = k

either_text : (c : Bool) (xs ys : List ℕ) → IsWithinLine xs → IsWithinLine ys → IsWithinLine (cond c xs ys)
either_text true xs ys h k = h
either_text false xs ys h k = k

letter : (x : ℕ) → x ≢ 10 → escape_letter x ≢ 10
letter x other =
    either ((x == 34) || (x == 92)) x _ other
    (either (x == 8) 98 _ (λ e. omega arith)
    (either (x == 12) 102 _ (λ e. omega arith)
    (either (x == 10) 110 _ (λ e. omega arith) (either (x == 13) 114 _ (λ e. omega arith) (either (x == 9) 116 0 (λ e. omega arith) (λ e. omega arith))))))

digit : (d : ℕ) → digit_char d ≢ 10
digit d = either (nat_lt d 10) (48 + d) (87 + d) (λ e. omega arith) (λ e. omega arith)

of_byte : (x : ℕ) (r : Bool) → (x == 10) ≡ r → IsWithinLine (escape_byte x)
unfolding escape_byte
of_byte x true e = subst (λ (y : ℕ). IsWithinLine (escape_byte y)) (sym (eqb-true x 10 e)) (known (92 ∷ 110 ∷ []) refl)
of_byte x false e =
    let other : x ≢ 10 = λ is. let t : (10 == 10) ≡ false = subst (λ (y : ℕ). (y == 10) ≡ false) is e in cc in
    let high = digit_char (x / 16) in
    let low = digit_char (x % 16) in
    either_text (nat_lt 0 (escape_letter x)) _ _ (one 92 (escape_letter x ∷ []) (λ is. omega arith) (one (escape_letter x) [] (letter x other) none))
    (either_text (nat_lt x 32) _ _
    (two (92 ∷ 117 ∷ 48 ∷ 48 ∷ []) (high ∷ low ∷ []) (known (92 ∷ 117 ∷ 48 ∷ 48 ∷ []) refl) (one high (low ∷ []) (digit (x / 16)) (one low [] (digit (x % 16)) none)))
    (one x [] other none))

of_escaped : (s : List ℕ) → IsWithinLine (escape s)
of_escaped [] = none
of_escaped (x ∷ s) = two (escape_byte x) (escape s) (of_byte x (x == 10) refl) (of_escaped s)

of_quoted : (s : List ℕ) → IsWithinLine (quoted s)
of_quoted s = one 34 _ (λ e. omega arith) (two (escape s) (34 ∷ []) (of_escaped s) (known (34 ∷ []) refl))

-- ---- trees

abbrev Is : Token → Type 0
Is t = is_token t ≡ true → IsWithinLine (spelling t)

abbrev With : Type 0
With = (t : Token) × Is t

abbrev bare : With → Token
bare y = y.0

abbrev texts : List With → List (List ℕ)
texts ys = map spelling (map bare ys)

abbrev tests : List With → List Bool
tests ys = map is_token (map bare ys)

behind : (ys : List With) → all_true (tests ys) ≡ true → IsWithinLine (behind_commas (texts ys))
behind [] e = none
behind (y ∷ ys) e = let h = and_parts _ _ e in one 44 _ (λ is. omega arith) (two (spelling y.0) _ (y.1 h.0) (behind ys h.1))

whole : (ys : List With) → all_true (tests ys) ≡ true → IsWithinLine (separated (texts ys))
whole [] e = none
whole (y ∷ ys) e = let h = and_parts _ _ e in two (spelling y.0) _ (y.1 h.0) (behind ys h.1)

abbrev member_texts : List (Pair With) → List (List ℕ)
member_texts ys = members (map (on_value spelling) (map (on_value bare) ys))

abbrev member_tests : List (Pair With) → List (Pair Bool)
member_tests ys = map (on_value is_token) (map (on_value bare) ys)

colon : Other 58
colon is = omega arith

a_member : (y : Pair With) (b : Bool) → (is_utf8 y.key && (is_token y.value.0 && b)) ≡ true → IsWithinLine (quoted y.key ++ 58 ∷ spelling y.value.0) × (b ≡ true)
a_member y b e =
    let h = and_parts _ _ e in
    let v = and_parts _ _ h.1 in
    (two (quoted y.key) _ (of_quoted y.key) (one 58 (spelling y.value.0) colon (y.value.1 v.0)), v.1)

members_behind : (ys : List (Pair With)) → all_members (member_tests ys) ≡ true → IsWithinLine (behind_commas (member_texts ys))
members_behind [] e = none
members_behind (y ∷ ys) e =
    let h = a_member y _ e in
    one 44 ((quoted y.key ++ 58 ∷ spelling y.value.0) ++ behind_commas (member_texts ys)) (λ is. omega arith) (two (quoted y.key ++ 58 ∷ spelling y.value.0) _ h.0 (members_behind ys h.1))

members_whole : (ys : List (Pair With)) → all_members (member_tests ys) ≡ true → IsWithinLine (separated (member_texts ys))
members_whole [] e = none
members_whole (y ∷ ys) e = let h = a_member y _ e in two (quoted y.key ++ 58 ∷ spelling y.value.0) _ h.0 (members_behind ys h.1)

closed : (o c : ℕ) (s : List ℕ) → o ≢ 10 → c ≢ 10 → IsWithinLine s → IsWithinLine (o ∷ (s ++ c ∷ []))
closed o c s h k within = one o _ h (two s (c ∷ []) within (one c [] k none))

abbrev Level : Token-F Token → Type 0
Level x = is_token_step (map-Token Token Bool is_token x) ≡ true → IsWithinLine (spelling_step (map-Token Token (List ℕ) spelling x))

level : (y : Token-F With) → Level (map-Token With Token bare y)
level Token-F.Null e = known (codes "null") refl
level (Token-F.Bool true) e = known (codes "true") refl
level (Token-F.Bool false) e = known (codes "false") refl
level (Token-F.Int (pos n)) e = let h = ltb-true n (2 ^ 63) e in lacks_digits 10 n (omega arith) (inl (omega arith))
level (Token-F.Int (negsuc n)) e = let h = ltb-true n (2 ^ 63) e in one 45 _ (λ is. omega arith) (lacks_digits 10 (suc n) (omega arith) (inl (omega arith)))
level (Token-F.Text s) e = of_quoted s
level (Token-F.List ys) e = closed 91 93 (separated (texts ys)) (λ is. omega arith) (λ is. omega arith) (whole ys e)
level (Token-F.Dict ys) e = closed 123 125 (separated (member_texts ys)) (λ is. omega arith) (λ is. omega arith) (members_whole ys (and_parts _ _ e).1)

rolled : (x : Token-F Token) → Level x → Is (roll-Token x)
rolled x l e = subst IsWithinLine (sym (fold-roll-Token (List ℕ) spelling_step x)) (l (sym (fold-roll-Token Bool is_token_step x) ∙ e))

pub within_line : (t : Token) → is_token t ≡ true → IsWithinLine (spelling t)
within_line = ind-Token Is (λ x y is. subst (λ z. Is (roll-Token z)) is (rolled (map-Token With Token bare y) (level y)))
