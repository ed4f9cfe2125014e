-- What is found at the front of a text stands there.
use Rattle.std.proofs.Common.{◌≡◌, ◌≢◌, ℕ, zero, suc, ◌+◌, ◌<◌, ◌≤◌, true, false, cond, eqb, ◌⊎◌, Option, Some, None, List, [], ◌∷◌, ◌++◌, length, get_or, take, drop, refl, sym, ap, ◌∙◌, subst, inl, inr, arith}
use Rattle.std.specs.Prelude.{nat_eq}
use Rattle.std.specs.List.{prefix_len, starts_with}
use Rattle.std.proofs.lemmas.Bool.{cond_both, eqb-true, eqb-false, true≢false}
use Rattle.std.proofs.lemmas.List.{length-drop, length-append, take-append-drop}
use Rattle.std.proofs.lemmas.List.Sums.{prefix_len-le-length}
use Rattle.cv_lex.specs.declared.lexeme.Sort.TheVariants as sorts
use Rattle.cv_lex.specs.Bytes.{is_blank_byte, is_name_start, is_name_byte, is_digit, is_mark_byte, is_in_line}
use Rattle.cv_lex.specs.Fronts.{fraction_len}
use Rattle.cv_lex.specs.Shapes.{AreDigits, IsInt, IsClosed, IsBlank, space, line, block, quotes, IsAt}
use Rattle.cv_lex.specs.Spans.{closing, place_of}
use Rattle.cv_lex.proofs.Insides.{closing_inside}
use Rattle.cv_lex.proofs.Places.{starts_so, starts_from, place_found, first_is}
use Rattle.cv_lex.proofs.Runs.{each_run, digits_from}
use Rattle.cv_lex.proofs.Sizes.{Size, number_size, minus_size, closed_size, slash_size, text_size, quote_size, size_of}

-- what is found is within the text, and stands there
abbrev pub IsRight : List ℕ → Size → Type 0
IsRight bytes None = Unit {0}
IsRight bytes (Some found) = (0 < found.1) × (found.1 ≤ length bytes) × IsAt found.0 (take found.1 bytes) (drop found.1 bytes)

take-nil : (n : ℕ) → take {A = ℕ} n [] ≡ []
take-nil zero = refl
take-nil (suc n) = refl

-- the first bytes of what is left
take-more : (m n : ℕ) (bytes : List ℕ) → take (m + n) bytes ≡ take m bytes ++ take n (drop m bytes)
take-more zero n bytes = ap (λ k. take k bytes) (omega arith)
take-more (suc m) n [] = let none : take (suc m + n) [] ≡ [] = take-nil (suc m + n) in none ∙ sym (take-nil n)
take-more (suc m) n (b ∷ bytes) =
    let count : suc m + n ≡ suc (m + n) = omega arith in
    ap (λ k. take k (b ∷ bytes)) count ∙ ap (λ xs. b ∷ xs) (take-more m n bytes)

-- a front taken
pub take-front : (xs ys : List ℕ) → take (length xs) (xs ++ ys) ≡ xs
take-front [] ys = refl
take-front (x ∷ xs) ys = ap (λ (zs : List ℕ). x ∷ zs) (take-front xs ys)

-- an integer goes as far as its digits
int_is : (b : ℕ) (rest : List ℕ) → (is_digit b ≡ true) ⊎ ((b ≡ 45) × (is_digit (get_or rest 0 0) ≡ true)) → IsInt (b ∷ take (prefix_len is_digit rest) rest)
int_is b rest (inl digit) = inl (digit, each_run is_digit rest)
int_is b [] (inr minus) = let no : is_digit 0 ≡ true = minus.1 in cc
int_is b (d ∷ rest) (inr minus) =
    let run : 0 < prefix_len is_digit (d ∷ rest) = rw minus.1 (omega arith) in
    inr (minus.0, digits_from (prefix_len is_digit (d ∷ rest)) (d ∷ rest) run (prefix_len-le-length is_digit (d ∷ rest)) (each_run is_digit (d ∷ rest)))

-- a dot and digits
fraction_is : (bytes : List ℕ) (n : ℕ) → fraction_len bytes ≡ suc n → (suc n ≤ length bytes) × (part : List ℕ) × AreDigits part × (take (suc n) bytes ≡ 46 ∷ part)
fraction_is [] n h = absurd (omega (arith, h))
fraction_is (b ∷ bytes) n h =
    let digits = prefix_len is_digit bytes in
    let P : ℕ → Type 0 = λ m. m ≡ suc n → (suc n ≤ length (b ∷ bytes)) × (part : List ℕ) × AreDigits part × (take (suc n) (b ∷ bytes) ≡ 46 ∷ part) in
    cond_both (eqb b 46) (cond (eqb digits 0) 0 (digits + 1)) 0 P
    (λ dot. cond_both (eqb digits 0) 0 (digits + 1) P
    (λ _ e. absurd (omega (arith, e)))
    (λ some e.
    let count : n ≡ digits = omega (arith, e) in
    let within = prefix_len-le-length is_digit bytes in
    let R : ℕ → Type 0 = λ k. AreDigits (take k bytes) in
    let are : AreDigits (take digits bytes) = digits_from digits bytes (omega (arith, eqb-false digits 0 some)) within (each_run is_digit bytes) in
    (omega (arith, count), take n bytes, subst R (sym count) are, ap (λ x. x ∷ take n bytes) (eqb-true b 46 dot))))
    (λ _ e. absurd (omega (arith, e))) h

fraction_right : (b : ℕ) (rest : List ℕ) (fraction : ℕ) → fraction_len (drop (prefix_len is_digit rest) rest) ≡ fraction → (is_digit b ≡ true) ⊎ ((b ≡ 45) × (is_digit (get_or rest 0 0) ≡ true)) → IsRight (b ∷ rest) (cond (eqb fraction 0) (Some (Some sorts.Int, suc (prefix_len is_digit rest))) (Some (Some sorts.Fraction, suc (prefix_len is_digit rest + fraction))))
fraction_right b rest zero e s = (omega arith, omega (arith, prefix_len-le-length is_digit rest), int_is b rest s)
fraction_right b rest (suc n) e s =
    let more = prefix_len is_digit rest in
    let f = fraction_is (drop more rest) n e in
    let written : b ∷ take (more + suc n) rest ≡ (b ∷ take more rest) ++ 46 ∷ f.1 =
    ap (λ (xs : List ℕ). b ∷ xs) (take-more more (suc n) rest ∙ ap (λ (xs : List ℕ). take more rest ++ xs) f.3) in
    cond_both (eqb (suc n) 0) _ _ (IsRight (b ∷ rest))
    (λ z. let impossible = eqb-true (suc n) 0 z in absurd (omega arith))
    (λ _. (omega arith, omega (arith, f.0, length-drop more rest, prefix_len-le-length is_digit rest), (b ∷ take more rest, f.1, int_is b rest s, f.2, written)))

number_right : (b : ℕ) (rest : List ℕ) → (is_digit b ≡ true) ⊎ ((b ≡ 45) × (is_digit (get_or rest 0 0) ≡ true)) → IsRight (b ∷ rest) (number_size rest)
number_right b rest s = fraction_right b rest _ refl s

arrow_right : (b : ℕ) (rest : List ℕ) → b ≡ 45 → get_or rest 0 0 ≡ 62 → IsRight (b ∷ rest) (Some (Some sorts.Mark, 2))
arrow_right b [] e f = absurd (omega (arith, f))
arrow_right b (c ∷ rest) e f = (omega arith, omega arith, (e, f))

minus_right : (b : ℕ) (rest : List ℕ) → b ≡ 45 → IsRight (b ∷ rest) (minus_size rest)
minus_right b rest e =
    cond_both (is_digit (get_or rest 0 0)) _ _ (IsRight (b ∷ rest)) (λ d. number_right b rest (inr (e, d))) (λ _.
    cond_both (eqb (get_or rest 0 0) 62) _ _ (IsRight (b ∷ rest)) (λ f. arrow_right b rest e (eqb-true _ 62 f)) (λ _. tt))

-- an opening, and the bytes behind it up to the first closing
closed_is : (opening close bytes : List ℕ) (n : ℕ) → place_of 0 close bytes ≡ Some n → (n + length close ≤ length bytes) × IsClosed opening close (opening ++ take (n + length close) bytes)
closed_is opening close bytes n h =
    let f = place_found 0 close bytes n h in
    let same : n ≡ f.0 = omega (arith, f.1) in
    let P : ℕ → Type 0 = λ k. drop k bytes ≡ close ++ drop (length close) (drop k bytes) in
    let there : drop n bytes ≡ close ++ drop (length close) (drop n bytes) = subst P (sym same) f.3 in
    let front : take (length close) (drop n bytes) ≡ close = ap (take (length close)) there ∙ take-front close (drop (length close) (drop n bytes)) in
    let whole : take (n + length close) bytes ≡ take n bytes ++ close = take-more n (length close) bytes ∙ ap (λ (xs : List ℕ). take n bytes ++ xs) front in
    let size = ap length there ∙ length-append close (drop (length close) (drop n bytes)) in
    (omega (arith, size, length-drop n bytes, f.2, same), (take n bytes, first_is close bytes n h, ap (λ (xs : List ℕ). opening ++ xs) whole))

block_right : (bytes : List ℕ) (place : Option ℕ) → place_of 0 (42 ∷ 47 ∷ []) bytes ≡ place → IsRight (47 ∷ 42 ∷ bytes) (closed_size 4 place)
block_right bytes None e = tt
block_right bytes (Some n) e =
    let c = closed_is (47 ∷ 42 ∷ []) (42 ∷ 47 ∷ []) bytes n e in
    let P : ℕ → Type 0 = λ k. (0 < k) × (k ≤ length (47 ∷ 42 ∷ bytes)) × IsBlank (take k (47 ∷ 42 ∷ bytes)) in
    let count : suc (suc (n + 2)) ≡ n + 4 = omega arith in
    let here : P (suc (suc (n + 2))) = (omega arith, omega (arith, c.0), block c.1) in
    subst P count here

quotes_right : (bytes : List ℕ) (place : Option ℕ) → place_of 0 (34 ∷ 34 ∷ 34 ∷ []) bytes ≡ place → IsRight (34 ∷ 34 ∷ 34 ∷ bytes) (closed_size 6 place)
quotes_right bytes None e = tt
quotes_right bytes (Some n) e =
    let c = closed_is (34 ∷ 34 ∷ 34 ∷ []) (34 ∷ 34 ∷ 34 ∷ []) bytes n e in
    let P : ℕ → Type 0 = λ k. (0 < k) × (k ≤ length (34 ∷ 34 ∷ 34 ∷ bytes)) × IsBlank (take k (34 ∷ 34 ∷ 34 ∷ bytes)) in
    let count : suc (suc (suc (n + 3))) ≡ n + 6 = omega arith in
    let here : P (suc (suc (suc (n + 3)))) = (omega arith, omega (arith, c.0), quotes c.1) in
    subst P count here

line_right : (bytes : List ℕ) → IsRight (47 ∷ 47 ∷ bytes) (Some (None, prefix_len is_in_line bytes + 2))
line_right bytes =
    let n = prefix_len is_in_line bytes in
    let P : ℕ → Type 0 = λ k. (0 < k) × (k ≤ length (47 ∷ 47 ∷ bytes)) × IsBlank (take k (47 ∷ 47 ∷ bytes)) in
    let count : suc (suc n) ≡ n + 2 = omega arith in
    let here : P (suc (suc n)) = (omega arith, omega (arith, prefix_len-le-length is_in_line bytes), line (take n bytes) (each_run is_in_line bytes) refl) in
    subst P count here

slash_right : (rest : List ℕ) → IsRight (47 ∷ rest) (slash_size rest)
slash_right [] = tt
slash_right (c ∷ rest) =
    let P : ℕ → Type 0 = λ x. IsRight (47 ∷ x ∷ rest) (Some (None, prefix_len is_in_line rest + 2)) in
    let Q : ℕ → Type 0 = λ x. IsRight (47 ∷ x ∷ rest) (closed_size 4 (place_of 0 (42 ∷ 47 ∷ []) rest)) in
    cond_both (eqb c 47) _ _ (IsRight (47 ∷ c ∷ rest)) (λ e. subst P (sym (eqb-true c 47 e)) (line_right rest)) (λ _.
    cond_both (eqb c 42) _ _ (IsRight (47 ∷ c ∷ rest)) (λ e. subst Q (sym (eqb-true c 42 e)) (block_right rest _ refl)) (λ _. tt))

-- a text that does not begin with three quotes
text_right : (rest : List ℕ) (place : Option ℕ) → starts_with nat_eq (34 ∷ rest) (34 ∷ 34 ∷ 34 ∷ []) ≡ false → closing 0 false rest ≡ place → IsRight (34 ∷ rest) (text_size place)
text_right rest None other e = tt
text_right rest (Some place) other e =
    let q = closing_inside 0 rest place e in
    let P : ℕ → Type 0 = λ k. (0 < k) × (k ≤ length (34 ∷ rest)) × IsAt (Some sorts.Text) (take k (34 ∷ rest)) (drop k (34 ∷ rest)) in
    let n = q.0 in
    let count : suc (n + 1) ≡ place + 2 = omega (arith, q.1) in
    let quote : take 1 (drop n rest) ≡ 34 ∷ [] = ap (take 1) q.2.1 in
    let written : 34 ∷ take (n + 1) rest ≡ 34 ∷ (take n rest ++ 34 ∷ []) = ap (λ (xs : List ℕ). 34 ∷ xs) (take-more n 1 rest ∙ ap (λ (xs : List ℕ). take n rest ++ xs) quote) in
    let alone : (tail : List ℕ) → take (suc (n + 1)) (34 ∷ rest) ++ drop (suc (n + 1)) (34 ∷ rest) ≢ 34 ∷ 34 ∷ 34 ∷ tail =
    λ tail three. true≢false (sym (starts_from (34 ∷ rest) (34 ∷ 34 ∷ 34 ∷ []) tail (sym (take-append-drop (suc (n + 1)) (34 ∷ rest)) ∙ three)) ∙ other) in
    let here : P (suc (n + 1)) = (omega arith, omega (arith, q.2.2), ((take n rest, q.2.0, written), alone)) in
    subst P count here

-- three quotes
three_right : (rest : List ℕ) → starts_with nat_eq (34 ∷ rest) (34 ∷ 34 ∷ 34 ∷ []) ≡ true → IsRight (34 ∷ rest) (closed_size 6 (place_of 0 (34 ∷ 34 ∷ 34 ∷ []) (drop 2 rest)))
three_right rest three =
    let so = starts_so (34 ∷ rest) (34 ∷ 34 ∷ 34 ∷ []) three in
    let behind : rest ≡ 34 ∷ 34 ∷ drop 2 rest = ap (drop 1) so in
    let P : List ℕ → Type 0 = λ xs. IsRight (34 ∷ xs) (closed_size 6 (place_of 0 (34 ∷ 34 ∷ 34 ∷ []) (drop 2 rest))) in
    subst P (sym behind) (quotes_right (drop 2 rest) _ refl)

quote_right : (rest : List ℕ) → IsRight (34 ∷ rest) (quote_size 34 rest)
quote_right rest =
    cond_both (starts_with nat_eq (34 ∷ rest) (34 ∷ 34 ∷ 34 ∷ [])) _ _ (IsRight (34 ∷ rest)) (λ three. three_right rest three) (λ other. text_right rest _ other refl)

-- what is found at the front stands there
pub size_right : (b : ℕ) (rest : List ℕ) → IsRight (b ∷ rest) (size_of b rest)
size_right b rest =
    let P : ℕ → Type 0 = λ x. IsRight (x ∷ rest) (quote_size x rest) in
    let Q : ℕ → Type 0 = λ x. IsRight (x ∷ rest) (slash_size rest) in
    cond_both (is_blank_byte b) _ _ (IsRight (b ∷ rest)) (λ e. (omega arith, omega arith, space b e refl)) (λ _.
    cond_both (is_name_start b) _ _ (IsRight (b ∷ rest)) (λ e. (omega arith, omega (arith, prefix_len-le-length is_name_byte rest), (e, each_run is_name_byte rest))) (λ _.
    cond_both (is_digit b) _ _ (IsRight (b ∷ rest)) (λ e. number_right b rest (inl e)) (λ _.
    cond_both (eqb b 45) _ _ (IsRight (b ∷ rest)) (λ e. minus_right b rest (eqb-true b 45 e)) (λ _.
    cond_both (eqb b 34) _ _ (IsRight (b ∷ rest)) (λ e. subst P (sym (eqb-true b 34 e)) (quote_right rest)) (λ _.
    cond_both (eqb b 47) _ _ (IsRight (b ∷ rest)) (λ e. subst Q (sym (eqb-true b 47 e)) (slash_right rest)) (λ _.
    cond_both (is_mark_byte b) _ _ (IsRight (b ∷ rest)) (λ e. (omega arith, omega arith, e)) (λ _. tt)))))))
