-- What the front of a text says, and what the rest says.
use Rattle.std.proofs.Common.{◌≡◌, ℕ, zero, suc, ◌+◌, ◌-◌, ◌<◌, ◌≤◌, Bool, true, false, cond, eqb, Option, Some, None, Result, Ok, Err, List, [], ◌∷◌, ◌++◌, length, get_or, take, drop, refl, sym, ap, ◌∙◌, subst, add-one, append_assoc, inl, inr, arith}
use Rattle.std.specs.Prelude.{encode_utf8}
use Rattle.std.specs.Str.{IsUtf8, IsCharBoundary}
use Rattle.std.specs.List.{prefix_len}
use Rattle.std.proofs.lemmas.Bool.{cond_both, eqb-true, eq-eqb, not-true, not-false, cases_lt}
use Rattle.std.proofs.lemmas.List.Sums.{prefix_len_stops, prefix_len-le-length}
use Rattle.std.proofs.lemmas.Str.{IsCharBoundary-before_ascii, IsCharBoundary-after_ascii, IsCharBoundary-end}
use Rattle.std.proofs.lemmas.List.{length-drop}
use Rattle.std.proofs.lemmas.Grind.{get_or_after_one}
use Rattle.cv_lex.specs.declared.escapes.Escape.{Escape}
use Rattle.cv_lex.specs.Bytes.{is_plain}
use Rattle.cv_lex.specs.Texts.{escape_of, with_bytes, by_escape, said_from, bad_of, good_of}

-- the skipped bytes only move the place
said_from-skip : (at k : ℕ) (bytes : List ℕ) → said_from at k bytes ≡ said_from (at + k) 0 (drop k bytes)
said_from-skip at zero bytes = ap (λ n. said_from n 0 bytes) (omega arith)
said_from-skip at (suc k) [] = refl
said_from-skip at (suc k) (b ∷ bytes) = said_from-skip (at + 1) k bytes ∙ ap (λ n. said_from n 0 (drop k bytes)) (omega arith)

-- an escape is said, and then what follows it
pub said_from-escape : (at : ℕ) (bytes : List ℕ) (escape : Escape) → get_or bytes 0 0 ≡ 92 → Some escape ≡ escape_of (drop 1 bytes) → said_from at 0 bytes ≡ with_bytes (encode_utf8 escape.code) (said_from (at + (escape.len + 1)) 0 (drop (escape.len + 1) bytes))
said_from-escape at [] escape h e = absurd (omega (arith, h))
said_from-escape at (b ∷ bytes) escape h e =
    rw (eq-eqb b 92 h, ← e)
    (ap (with_bytes (encode_utf8 escape.code))
    (said_from-skip (at + 1) escape.len bytes ∙ rw (add-one escape.len) (ap (λ n. said_from n 0 (drop escape.len bytes)) (omega arith))))

-- a plain byte is said as it stands
pub said_from-plain : (at : ℕ) (b : ℕ) (bytes : List ℕ) → is_plain b ≡ true → said_from at 0 (b ∷ bytes) ≡ with_bytes (b ∷ []) (said_from (at + 1) 0 bytes)
said_from-plain at b bytes h = rw (not-true (eqb b 92) h) refl

-- a bad escape
pub said_from-bad : (at : ℕ) (bytes : List ℕ) → get_or bytes 0 0 ≡ 92 → None ≡ escape_of (drop 1 bytes) → said_from at 0 bytes ≡ Err at
said_from-bad at [] h e = absurd (omega (arith, h))
said_from-bad at (b ∷ bytes) h e = rw (eq-eqb b 92 h, ← e) refl

-- bytes in front of bytes
with_bytes-append : (xs ys : List ℕ) (r : Result (List ℕ) ℕ) → with_bytes xs (with_bytes ys r) ≡ with_bytes (xs ++ ys) r
with_bytes-append xs ys (Ok zs) = ap Ok (sym (append_assoc xs ys zs))
with_bytes-append xs ys (Err at) = refl

with_bytes-nil : (r : Result (List ℕ) ℕ) → r ≡ with_bytes [] r
with_bytes-nil (Ok xs) = refl
with_bytes-nil (Err at) = refl

-- what stands in front is not bad
pub bad_of-with_bytes : (xs : List ℕ) (r : Result (List ℕ) ℕ) → bad_of (with_bytes xs r) ≡ bad_of r
bad_of-with_bytes xs (Ok ys) = refl
bad_of-with_bytes xs (Err at) = refl

-- a run of plain bytes is said as it stands
said_from-run : (at : ℕ) (bytes : List ℕ) → said_from at 0 bytes ≡ with_bytes (take (prefix_len is_plain bytes) bytes) (said_from (at + prefix_len is_plain bytes) 0 (drop (prefix_len is_plain bytes) bytes))
said_from-run at [] = refl
said_from-run at (b ∷ bytes) =
    let P : ℕ → Type 0 = λ n. said_from at 0 (b ∷ bytes) ≡ with_bytes (take n (b ∷ bytes)) (said_from (at + n) 0 (drop n (b ∷ bytes))) in
    let n = prefix_len is_plain bytes in
    cond_both (is_plain b) (1 + n) 0 P
    (λ plain.
    let next : said_from (at + 1) 0 bytes ≡ with_bytes (take n bytes) (said_from (at + 1 + n) 0 (drop n bytes)) = said_from-run (at + 1) bytes in
    let count : suc n ≡ 1 + n = omega arith in
    let place : at + 1 + n ≡ at + suc n = omega arith in
    subst P count
    (said_from-plain at b bytes plain ∙ ap (with_bytes (b ∷ [])) next
    ∙ with_bytes-append (b ∷ []) (take n bytes) (said_from (at + 1 + n) 0 (drop n bytes))
    ∙ ap (λ m. with_bytes (b ∷ take n bytes) (said_from m 0 (drop n bytes))) place))
    (λ _. with_bytes-nil (said_from at 0 (b ∷ bytes)) ∙ ap (λ m. with_bytes [] (said_from m 0 (b ∷ bytes))) (omega arith))

-- what is said does not depend on the place
abbrev AlikeSaid : Result (List ℕ) ℕ → Result (List ℕ) ℕ → Type 0
AlikeSaid (Ok xs) (Ok ys) = xs ≡ ys
AlikeSaid (Ok xs) (Err n) = ⊥
AlikeSaid (Err m) (Ok ys) = ⊥
AlikeSaid (Err m) (Err n) = Unit {0}

alike_with : (xs : List ℕ) (r s : Result (List ℕ) ℕ) → AlikeSaid r s → AlikeSaid (with_bytes xs r) (with_bytes xs s)
alike_with xs (Ok ys) (Ok zs) h = ap (λ ws. xs ++ ws) h
alike_with xs (Ok ys) (Err n) h = h
alike_with xs (Err m) (Ok zs) h = h
alike_with xs (Err m) (Err n) h = tt

alike_escape : (m n : ℕ) (escape : Option Escape) (f g : ℕ → Result (List ℕ) ℕ) → ((k : ℕ) → AlikeSaid (f k) (g k)) → AlikeSaid (by_escape m escape f) (by_escape n escape g)
alike_escape m n None f g h = tt
alike_escape m n (Some escape) f g h = alike_with (encode_utf8 escape.code) (f escape.len) (g escape.len) (h escape.len)

alike_if : (b : Bool) (p q r s : Result (List ℕ) ℕ) → AlikeSaid p q → AlikeSaid r s → AlikeSaid (cond b p r) (cond b q s)
alike_if true p q r s h k = h
alike_if false p q r s h k = k

alike_places : (m n k : ℕ) (bytes : List ℕ) → AlikeSaid (said_from m k bytes) (said_from n k bytes)
alike_places m n k [] = refl
alike_places m n (suc k) (b ∷ bytes) = alike_places (m + 1) (n + 1) k bytes
alike_places m n zero (b ∷ bytes) =
    alike_if (eqb b 92) _ _ _ _ (alike_escape m n (escape_of bytes) (λ k. said_from (m + 1) k bytes) (λ k. said_from (n + 1) k bytes) (λ k. alike_places (m + 1) (n + 1) k bytes))
    (alike_with (b ∷ []) (said_from (m + 1) 0 bytes) (said_from (n + 1) 0 bytes) (alike_places (m + 1) (n + 1) 0 bytes))

good_of-alike : (xs : List ℕ) (r s : Result (List ℕ) ℕ) → AlikeSaid r s → good_of (with_bytes xs r) ≡ good_of (with_bytes xs s)
good_of-alike xs (Ok ys) (Ok zs) h = ap (λ ws. xs ++ ws) h
good_of-alike xs (Ok ys) (Err n) h = absurd h
good_of-alike xs (Err m) (Ok zs) h = absurd h
good_of-alike xs (Err m) (Err n) h = refl

-- what was said, bytes, and the rest
pub good_of-step : (old more rest behind : List ℕ) (at : ℕ) → said_from 0 0 rest ≡ with_bytes more (said_from at 0 behind) → good_of (with_bytes old (said_from 0 0 rest)) ≡ good_of (with_bytes (old ++ more) (said_from 0 0 behind))
good_of-step old more rest behind at h =
    ap (λ r. good_of (with_bytes old r)) h
    ∙ ap good_of (with_bytes-append old more (said_from at 0 behind))
    ∙ good_of-alike (old ++ more) (said_from at 0 behind) (said_from 0 0 behind) (alike_places at 0 0 behind)

-- n plain bytes in front
pub good_of-run : (old rest : List ℕ) (n : ℕ) → n ≡ prefix_len is_plain rest → good_of (with_bytes old (said_from 0 0 rest)) ≡ good_of (with_bytes (old ++ take n rest) (said_from 0 0 (drop n rest)))
good_of-run old rest n e =
    let P : ℕ → Type 0 = λ m. good_of (with_bytes old (said_from 0 0 rest)) ≡ good_of (with_bytes (old ++ take m rest) (said_from 0 0 (drop m rest))) in
    let run = prefix_len is_plain rest in
    subst P (sym e) (good_of-step old (take run rest) rest (drop run rest) (0 + run) (said_from-run 0 rest))

-- a text may be cut where a run of plain bytes ends
pub run_boundary : (rest : List ℕ) → IsCharBoundary rest (prefix_len is_plain rest)
run_boundary rest =
    let n = prefix_len is_plain rest in
    let below = prefix_len-le-length is_plain rest in
    elim (cases_lt n (length rest)) [
      | inl inside ↦ let stop = eqb-true (get_or rest n 0) 92 (not-false (eqb (get_or rest n 0) 92) (prefix_len_stops is_plain rest 0 inside)) in IsCharBoundary-before_ascii rest n inside (omega (arith, stop))
      | inr past ↦ let same : length rest ≡ n = omega arith in subst (IsCharBoundary rest) same (IsCharBoundary-end rest)
    ]

-- a text that begins with no plain byte begins with `\`
pub no_run : (rest : List ℕ) → 0 < length rest → prefix_len is_plain rest ≡ 0 → get_or rest 0 0 ≡ 92
no_run rest h e =
    let stop : is_plain (get_or rest (prefix_len is_plain rest) 0) ≡ false = prefix_len_stops is_plain rest 0 (omega (arith, e)) in
    let first : is_plain (get_or rest 0 0) ≡ false = ap (λ k. is_plain (get_or rest k 0)) (sym e) ∙ stop in
    eqb-true (get_or rest 0 0) 92 (not-false (eqb (get_or rest 0 0) 92) first)

-- a text may be cut where an escape ends
pub escape_boundary : (rest : List ℕ) (n : ℕ) → IsUtf8 rest → 0 < n → n ≤ length (drop 1 rest) → get_or (drop 1 rest) (n - 1) 0 < 128 → IsCharBoundary rest (n + 1)
escape_boundary rest n u h within ascii =
    let last : get_or (drop 1 rest) (n - 1) 0 ≡ get_or rest n 0 = get_or_after_one rest (n - 1) 0 ∙ ap (λ k. get_or rest k 0) (omega arith) in
    IsCharBoundary-after_ascii rest n u (omega (arith, length-drop 1 rest)) (omega (arith, last))
