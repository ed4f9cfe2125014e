-- Texts in quotes are read as the same texts.
use Rattle.std.proofs.Common.{◌≡◌, ◌≢◌, ℕ, zero, ◌+◌, ◌-◌, ◌≤◌, ◌||◌, ◌⊎◌, ◌/◌, ◌%◌, eqb, ltb, cond, false, Ok, List, [], ◌∷◌, ◌++◌, length, take, drop, refl, sym, ap, ◌∙◌, subst, inl, inr, append_assoc, arith}
use lib.Utf8.{encode}
use Rattle.std.proofs.lemmas.Bool.{cond_both, ne_eqb}
use Rattle.std.proofs.lemmas.Bool.Decides.{nat_tests}
use Rattle.std.proofs.lemmas.List.{length-append}
use Rattle.cv_lex.specs.Shapes.{IsInside, nothing, plain, hidden, IsText}
use Rattle.cv_lex.specs.Texts.{said_from}
use Rattle.cv_lex.proofs.Right.{take-front}
use Rattle.cv_writing.specs.Written.{escape_byte, escaped, quoted}

-- ---- the escape of a byte

-- a byte is hidden or plain
by_byte : (P : List ℕ → Type 0) (b : ℕ) → ((b ≡ 34) ⊎ (b ≡ 92) → P (92 ∷ b ∷ [])) → (b ≢ 34 → b ≢ 92 → P (b ∷ [])) → P (escape_byte b)
by_byte P b hide show =
    cond_both (eqb b 34 || eqb b 92) (92 ∷ b ∷ []) (b ∷ []) P
    (λ h. hide (grind (arith, nat_tests)))
    (λ h. show (λ e. grind (arith, nat_tests)) (λ e. grind (arith, nat_tests)))

pub escaped_append : (xs ys : List ℕ) → escaped (xs ++ ys) ≡ escaped xs ++ escaped ys
escaped_append [] ys = refl
escaped_append (x ∷ xs) ys = ap (λ z. escape_byte x ++ z) (escaped_append xs ys) ∙ sym (append_assoc (escape_byte x) (escaped xs) (escaped ys))

-- ---- the characters of a text

byte_stays : (b : ℕ) (bytes : List ℕ) → b ≢ 34 → b ≢ 92 → escaped (b ∷ bytes) ≡ b ∷ escaped bytes
byte_stays b bytes p q = let e : eqb b 34 || eqb b 92 ≡ false = grind (arith, nat_tests) in rw e refl

high_stays : (b : ℕ) (bytes : List ℕ) → 128 ≤ b → escaped bytes ≡ bytes → escaped (b ∷ bytes) ≡ b ∷ bytes
high_stays b bytes h e = byte_stays b bytes (λ k. omega arith) (λ k. omega arith) ∙ ap (λ z. b ∷ z) e

high_two : (b c : ℕ) (bytes : List ℕ) → 128 ≤ b → 128 ≤ c → escaped bytes ≡ bytes → escaped (b ∷ c ∷ bytes) ≡ b ∷ c ∷ bytes
high_two b c bytes h k e = high_stays b (c ∷ bytes) h (high_stays c bytes k e)

pub char_stays : (c : ℕ) → c ≢ 34 → c ≢ 92 → escaped (encode c) ≡ encode c
unfolding encode
char_stays c p q =
    let P : List ℕ → Type 0 = λ bytes. escaped bytes ≡ bytes in
    let two = (192 + c / 64) ∷ (128 + c % 64) ∷ [] in
    let three = (224 + c / 4096) ∷ (128 + c / 64 % 64) ∷ (128 + c % 64) ∷ [] in
    let four = (240 + c / 262144) ∷ (128 + c / 4096 % 64) ∷ (128 + c / 64 % 64) ∷ (128 + c % 64) ∷ [] in
    cond_both (ltb c 128) (c ∷ []) (cond (ltb c 2048) two (cond (ltb c 65536) three four)) P
    (λ _. byte_stays c [] p q)
    (λ _. cond_both (ltb c 2048) two (cond (ltb c 65536) three four) P
    (λ _. high_two (192 + c / 64) (128 + c % 64) [] (omega arith) (omega arith) refl)
    (λ _. cond_both (ltb c 65536) three four P
    (λ _. high_stays (224 + c / 4096) _ (omega arith) (high_two (128 + c / 64 % 64) (128 + c % 64) [] (omega arith) (omega arith) refl))
    (λ _. high_two (240 + c / 262144) (128 + c / 4096 % 64) _ (omega arith) (omega arith) (high_two (128 + c / 64 % 64) (128 + c % 64) [] (omega arith) (omega arith) refl))))

pub quote_hides : escaped (encode 34) ≡ 92 ∷ 34 ∷ []
unfolding encode
quote_hides = refl

pub backslash_hides : escaped (encode 92) ≡ 92 ∷ 92 ∷ []
unfolding encode
backslash_hides = refl

-- one character more is written
pub char_more : (out next rest left whole : List ℕ) (c : ℕ) → out ++ escaped rest ≡ whole → next ≡ out ++ escaped (encode c) → rest ≡ encode c ++ left → next ++ escaped left ≡ whole
char_more out next rest left whole c h n r =
    ap (λ z. z ++ escaped left) n ∙ append_assoc out (escaped (encode c)) (escaped left)
    ∙ ap (λ z. out ++ z) (sym (escaped_append (encode c) left) ∙ ap escaped (sym r)) ∙ h

-- ---- what is read

inside_of : (text : List ℕ) → IsInside (escaped text)
inside_of [] = nothing
inside_of (b ∷ text) =
    by_byte (λ bytes. IsInside (bytes ++ escaped text)) b (λ h. hidden b (inside_of text)) (λ p q. plain b p q (inside_of text))

said_quote : (at : ℕ) (bytes text : List ℕ) → said_from (at + 1 + 1) zero bytes ≡ Ok text → said_from at zero (92 ∷ 34 ∷ bytes) ≡ Ok (34 ∷ text)
unfolding encode
said_quote at bytes text h = rw (ne_eqb (length (34 ∷ bytes)) 0 (λ k. omega arith), h) refl

said_backslash : (at : ℕ) (bytes text : List ℕ) → said_from (at + 1 + 1) zero bytes ≡ Ok text → said_from at zero (92 ∷ 92 ∷ bytes) ≡ Ok (92 ∷ text)
unfolding encode
said_backslash at bytes text h = rw (ne_eqb (length (92 ∷ bytes)) 0 (λ k. omega arith), h) refl

said_hidden : (at b : ℕ) (bytes text : List ℕ) → (b ≡ 34) ⊎ (b ≡ 92) → said_from (at + 1 + 1) zero bytes ≡ Ok text → said_from at zero (92 ∷ b ∷ bytes) ≡ Ok (b ∷ text)
said_hidden at b bytes text (inl e) h = subst (λ c. said_from at zero (92 ∷ c ∷ bytes) ≡ Ok (c ∷ text)) (sym e) (said_quote at bytes text h)
said_hidden at b bytes text (inr e) h = subst (λ c. said_from at zero (92 ∷ c ∷ bytes) ≡ Ok (c ∷ text)) (sym e) (said_backslash at bytes text h)

said_plain : (at b : ℕ) (bytes : List ℕ) (text : List ℕ) → b ≢ 92 → said_from (at + 1) zero bytes ≡ Ok text → said_from at zero (b ∷ bytes) ≡ Ok (b ∷ text)
said_plain at b bytes text q h = let e : eqb b 92 ≡ false = ne_eqb b 92 q in rw (e, h) refl

pub said_back : (at : ℕ) (text : List ℕ) → said_from at zero (escaped text) ≡ Ok text
said_back at [] = refl
said_back at (b ∷ text) =
    by_byte (λ bytes. said_from at zero (bytes ++ escaped text) ≡ Ok (b ∷ text)) b
    (λ h. said_hidden at b (escaped text) text h (said_back (at + 1 + 1) text))
    (λ p q. said_plain at b (escaped text) text q (said_back (at + 1) text))

pub quoted_text : (text : List ℕ) → IsText (quoted text)
quoted_text text = (escaped text, inside_of text, refl)

-- no comment begins with it
second_plain : (b : ℕ) (bytes tail : List ℕ) → b ≢ 34 → 34 ∷ b ∷ bytes ≢ 34 ∷ 34 ∷ 34 ∷ tail
second_plain b bytes tail p e = p (cc)

pub no_comment : (text rest tail : List ℕ) → quoted text ++ 32 ∷ rest ≢ 34 ∷ 34 ∷ 34 ∷ tail
no_comment [] rest tail e = let space : ◌≡◌ {A = ℕ} 32 34 = cc in omega arith
no_comment (b ∷ text) rest tail e =
    by_byte (λ bytes. 34 ∷ ((bytes ++ escaped text) ++ 34 ∷ []) ++ 32 ∷ rest ≢ 34 ∷ 34 ∷ 34 ∷ tail) b
    (λ h. second_plain 92 _ tail (λ k. let no : ◌≡◌ {A = ℕ} 92 34 = k in omega arith))
    (λ p q. second_plain b _ tail p) e

-- what stands between its quotes
pub quoted_inner : (text : List ℕ) → take (length (quoted text) - 2) (drop 1 (quoted text)) ≡ escaped text
quoted_inner text =
    let count : length (quoted text) - 2 ≡ length (escaped text) = omega (arith, length-append (escaped text) (34 ∷ [])) in
    ap (λ n. take n (escaped text ++ 34 ∷ [])) count ∙ take-front (escaped text) (34 ∷ [])
