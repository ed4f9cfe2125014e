-- Each lexeme of a text is a part of it that splits no character.
use Rattle.std.proofs.Common.{◌≡◌, ℕ, zero, suc, ◌+◌, ◌<◌, ◌≤◌, Bool, true, false, cond, not, eqb, ltb, Option, Some, None, List, [], ◌∷◌, length, get_or, take, drop, refl, ap, ◌∙◌, add-one, arith}
use Rattle.std.specs.Prelude.{is_some, nat_eq}
use Rattle.std.specs.List.{prefix_len, starts_with}
use Rattle.std.proofs.lemmas.Bool.{cond_both, eqb-true, and_parts}
use Rattle.std.proofs.lemmas.Bool.Decides.{nat_tests}
use Rattle.std.proofs.lemmas.List.{get_or-drop, length-drop}
use Rattle.std.proofs.lemmas.List.Sums.{prefix_len_passes, prefix_len-le-length}
use Rattle.cv_lex.specs.declared.fronts.Front.{Front}
use Rattle.cv_lex.specs.declared.fronts.Front.TheVariants as fronts
use Rattle.cv_lex.specs.declared.lexeme.Sort.TheVariants as sorts
use Rattle.cv_lex.specs.Bytes.{is_blank_byte, is_name_start, is_name_byte, is_digit, is_mark_byte}
use Rattle.cv_lex.specs.Fronts.{front_of, name_front, fraction_len, int_front, number_front, minus_front, comment_front, slash_front, inside_front, text_front, quote_front}
use Rattle.cv_lex.specs.Numbers.{int_of}
use Rattle.cv_lex.specs.Spans.{ends_text, hides_next, closing}

-- a lexeme at the front is within the text, and begins and ends with a byte of ASCII
abbrev pub IsPiece : List ℕ → Front → Type 0
IsPiece bytes (fronts.Blank more) = Unit {0}
IsPiece bytes (fronts.Lexeme sort more) = (more < length bytes) × (get_or bytes 0 0 < 128) × (get_or bytes more 0 < 128) × (sort ≡ sorts.Text → 0 < more)
IsPiece bytes (fronts.Flaw fault) = Unit {0}

name_start-ascii : (b : ℕ) → is_name_start b ≡ true → b < 128
name_start-ascii b h = grind (arith, nat_tests)

name_byte-ascii : (b : ℕ) → is_name_byte b ≡ true → b < 128
name_byte-ascii b h = grind (arith, nat_tests)

digit-ascii : (b : ℕ) → is_digit b ≡ true → b < 128
digit-ascii b h = grind (arith, nat_tests)

mark-ascii : (b : ℕ) → is_mark_byte b ≡ true → b < 128
mark-ascii b h = grind (arith, nat_tests)

-- a run of bytes of ASCII ends with one
run_end : (p : ℕ → Bool) → ((b : ℕ) → p b ≡ true → b < 128) → (x : ℕ) (rest : List ℕ) (more : ℕ) → more ≤ prefix_len p rest → x < 128 → get_or (x ∷ rest) more 0 < 128
run_end p ascii x rest zero h s = s
run_end p ascii x rest (suc k) h s = ascii (get_or rest k 0) (prefix_len_passes p rest k 0 (omega arith))

run_piece : (p : ℕ → Bool) → ((b : ℕ) → p b ≡ true → b < 128) → (bytes : List ℕ) → 0 < length bytes → get_or bytes 0 0 < 128 → (prefix_len p (drop 1 bytes) < length bytes) × (get_or bytes 0 0 < 128) × (get_or bytes (prefix_len p (drop 1 bytes)) 0 < 128)
run_piece p ascii [] h s = absurd (omega arith)
run_piece p ascii (x ∷ rest) h s = (omega (arith, prefix_len-le-length p rest), s, run_end p ascii x rest (prefix_len p rest) (omega arith) s)

name_piece : (at : ℕ) (bytes : List ℕ) → 0 < length bytes → get_or bytes 0 0 < 128 → IsPiece bytes (name_front at bytes)
name_piece at bytes h s =
    cond_both (ltb (prefix_len is_name_byte (drop 1 bytes)) 64) _ _ (IsPiece bytes)
    (λ _. let p = run_piece is_name_byte name_byte-ascii bytes h s in (p.0, p.1, p.2, λ e. cc)) (λ _. tt)

-- a fraction's last byte is a digit
fraction_last : (bytes : List ℕ) (n : ℕ) → fraction_len bytes ≡ suc n → (n < length bytes) × (get_or bytes n 0 < 128)
fraction_last [] n h = absurd (omega (arith, h))
fraction_last (x ∷ rest) n h =
    let digits = prefix_len is_digit rest in
    let P : ℕ → Type 0 = λ m. m ≡ suc n → (n < length (x ∷ rest)) × (get_or (x ∷ rest) n 0 < 128) in
    cond_both (eqb x 46) (cond (eqb digits 0) 0 (digits + 1)) 0 P
    (λ dot. cond_both (eqb digits 0) 0 (digits + 1) P
    (λ _ e. absurd (omega (arith, e)))
    (λ _ e. (omega (arith, e, prefix_len-le-length is_digit rest), run_end is_digit digit-ascii x rest n (omega (arith, e)) (omega (arith, eqb-true x 46 dot)))))
    (λ _ e. absurd (omega (arith, e))) h

int_piece : (at : ℕ) (bytes : List ℕ) → 0 < length bytes → get_or bytes 0 0 < 128 → IsPiece bytes (int_front at bytes (prefix_len is_digit (drop 1 bytes)))
int_piece at bytes h s =
    cond_both (is_some (int_of (take (prefix_len is_digit (drop 1 bytes) + 1) bytes))) _ _ (IsPiece bytes)
    (λ _. let p = run_piece is_digit digit-ascii bytes h s in (p.0, p.1, p.2, λ e. cc)) (λ _. tt)

-- a fraction ends where its digits do
fraction_piece : (bytes : List ℕ) (more n : ℕ) → get_or bytes 0 0 < 128 → fraction_len (drop (more + 1) bytes) ≡ suc n → IsPiece bytes (fronts.Lexeme sorts.Fraction (more + fraction_len (drop (more + 1) bytes)))
fraction_piece bytes more n s h =
    let p = fraction_last (drop (more + 1) bytes) n h in
    let size = length-drop (more + 1) bytes in
    let last : get_or (drop (more + 1) bytes) n 0 ≡ get_or bytes (more + fraction_len (drop (more + 1) bytes)) 0 =
    get_or-drop (more + 1) bytes n 0 ∙ ap (λ k. get_or bytes k 0) (omega (arith, h)) in
    (omega (arith, p.0, h), s, omega (arith, p.1, last), λ e. cc)

fraction_cases : (at : ℕ) (bytes : List ℕ) (fraction : ℕ) → fraction_len (drop (prefix_len is_digit (drop 1 bytes) + 1) bytes) ≡ fraction → 0 < length bytes → get_or bytes 0 0 < 128 → IsPiece bytes (number_front at bytes)
fraction_cases at bytes zero e h s = rw e (int_piece at bytes h s)
fraction_cases at bytes (suc n) e h s =
    let more = prefix_len is_digit (drop 1 bytes) in
    cond_both (eqb (fraction_len (drop (more + 1) bytes)) 0) _ _ (IsPiece bytes)
    (λ z. absurd (omega (arith, e, eqb-true (fraction_len (drop (more + 1) bytes)) 0 z)))
    (λ _. fraction_piece bytes more n s e)

number_piece : (at : ℕ) (bytes : List ℕ) → 0 < length bytes → get_or bytes 0 0 < 128 → IsPiece bytes (number_front at bytes)
number_piece at bytes h s = fraction_cases at bytes _ refl h s

-- `->` has two bytes
arrow_piece : (bytes : List ℕ) → get_or bytes 1 0 ≡ 62 → get_or bytes 0 0 < 128 → IsPiece bytes (fronts.Lexeme sorts.Mark 1)
arrow_piece [] e s = absurd (omega (arith, e))
arrow_piece (x ∷ []) e s = absurd (omega (arith, e))
arrow_piece (x ∷ y ∷ rest) e s = (omega arith, s, omega (arith, e), λ t. cc)

minus_piece : (at : ℕ) (bytes : List ℕ) → 0 < length bytes → get_or bytes 0 0 < 128 → IsPiece bytes (minus_front at bytes)
minus_piece at bytes h s =
    cond_both (is_digit (get_or bytes 1 0)) _ _ (IsPiece bytes) (λ _. number_piece at bytes h s) (λ _.
    cond_both (eqb (get_or bytes 1 0) 62) _ _ (IsPiece bytes) (λ e. arrow_piece bytes (eqb-true _ 62 e) s) (λ _. tt))

-- the place of the quote that ends a text
closing_quote : (i : ℕ) (hidden : Bool) (bytes : List ℕ) (place : ℕ) → closing i hidden bytes ≡ Some place → (n : ℕ) × (place ≡ i + n) × (n < length bytes) × (get_or bytes n 0 ≡ 34)
closing_quote i hidden [] place h = cc
closing_quote i hidden (b ∷ bytes) place h =
    let P : Option ℕ → Type 0 = λ r. r ≡ Some place → (n : ℕ) × (place ≡ i + n) × (n < length (b ∷ bytes)) × (get_or (b ∷ bytes) n 0 ≡ 34) in
    cond_both (ends_text hidden b) (Some i) (closing (i + 1) (hides_next hidden b) bytes) P
    (λ ends e. let same : i ≡ place = cc in (0, omega (arith, same), omega arith, eqb-true b 34 (and_parts (not hidden) (eqb b 34) ends).1))
    (λ _ e. let q = closing_quote (i + 1) (hides_next hidden b) bytes place e in (suc q.0, omega (arith, q.1), omega (arith, q.2), q.3)) h

comment_piece : (bytes : List ℕ) (at more : ℕ) (place : Option ℕ) → IsPiece bytes (comment_front at more place)
comment_piece bytes at more None = tt
comment_piece bytes at more (Some place) = tt

inside_piece : (at x : ℕ) (inside : List ℕ) (place : ℕ) (bad : Option ℕ) → x < 128 → place < length inside → get_or inside place 0 ≡ 34 → IsPiece (x ∷ inside) (inside_front at place bad)
inside_piece at x inside place None s h q =
    let last : get_or (x ∷ inside) (place + 1) 0 ≡ 34 = rw (add-one place) q in
    (omega (arith, h), s, omega (arith, last), λ _. omega arith)
inside_piece at x inside place (Some bad) s h q = tt

text_piece : (at x : ℕ) (inside : List ℕ) (place : Option ℕ) → x < 128 → closing 0 false inside ≡ place → IsPiece (x ∷ inside) (text_front at inside place)
text_piece at x inside None s e = tt
text_piece at x inside (Some place) s e =
    let q = closing_quote 0 false inside place e in
    let same : place ≡ q.0 = omega (arith, q.1) in
    inside_piece at x inside place _ s (omega (arith, q.2, same)) (ap (λ k. get_or inside k 0) same ∙ q.3)

quote_piece : (at : ℕ) (bytes : List ℕ) → 0 < length bytes → get_or bytes 0 0 < 128 → IsPiece bytes (quote_front at bytes)
quote_piece at [] h s = absurd (omega arith)
quote_piece at (x ∷ rest) h s =
    cond_both (starts_with nat_eq (x ∷ rest) (34 ∷ 34 ∷ 34 ∷ [])) _ _ (IsPiece (x ∷ rest))
    (λ _. comment_piece (x ∷ rest) at 5 _) (λ _. text_piece at x rest _ s refl)

slash_piece : (at : ℕ) (bytes : List ℕ) → IsPiece bytes (slash_front at bytes)
slash_piece at bytes =
    cond_both (eqb (get_or bytes 1 0) 47) _ _ (IsPiece bytes) (λ _. tt) (λ _.
    cond_both (eqb (get_or bytes 1 0) 42) _ _ (IsPiece bytes) (λ _. comment_piece bytes at 3 _) (λ _. tt))

-- what stands at the front of a text, if it is a lexeme
pub piece : (at : ℕ) (bytes : List ℕ) → 0 < length bytes → IsPiece bytes (front_of at bytes)
piece at bytes h =
    let x = get_or bytes 0 0 in
    cond_both (is_blank_byte x) _ _ (IsPiece bytes) (λ _. tt) (λ _.
    cond_both (is_name_start x) _ _ (IsPiece bytes) (λ e. name_piece at bytes h (name_start-ascii x e)) (λ _.
    cond_both (is_digit x) _ _ (IsPiece bytes) (λ e. number_piece at bytes h (digit-ascii x e)) (λ _.
    cond_both (eqb x 45) _ _ (IsPiece bytes) (λ e. minus_piece at bytes h (omega (arith, eqb-true x 45 e))) (λ _.
    cond_both (eqb x 34) _ _ (IsPiece bytes) (λ e. quote_piece at bytes h (omega (arith, eqb-true x 34 e))) (λ _.
    cond_both (eqb x 47) _ _ (IsPiece bytes) (λ _. slash_piece at bytes) (λ _.
    cond_both (is_mark_byte x) _ _ (IsPiece bytes) (λ e. (h, mark-ascii x e, mark-ascii x e, λ t. cc)) (λ _. tt)))))))
