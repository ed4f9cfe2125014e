-- Which tokens fit: numbers of 64 bits, and what rows compute.
use Rattle.std.proofs.Common.{◌≡◌, ◌≤◌, ◌<◌, ℕ, zero, suc, ◌^◌, ℤ, pos, negsuc, ◌+ℤ◌, Bool, true, false, ◌&&◌, if◌then◌else◌, List, [], ◌∷◌, length, Some, refl, sym, ◌∙◌, subst, arith, rules, le-leb, leb-true, lt-ltb, ltb-true, codes}
use Rattle.std.proofs.lemmas.Bool.{and_parts}
use Rattle.std.proofs.lemmas.Fmt.{length_signed_le}
use Rattle.std.proofs.lemmas.Str.{IsUtf8-nil, is_utf8-from_IsUtf8}
use Rattle.std.specs.Fmt.{signed_decimal}
use Rattle.std.specs.Int.Signed.{mag}
use Rattle.std.specs.Str.{is_utf8}
use Rattle.cv_token.specs.declared.token.Token.{Token, the_lemmas}
use Rattle.cv_token.specs.declared.token.Token.TheVariants as token
use Rattle.cv_token.specs.Bounds.{Fits}
use Rattle.cv_token.specs.Shape.{depth, is_token, has_64_bits}
use Rattle.cv_token.specs.Spelling.{spelling}
use Rattle.cv_behave.specs.Values.{all_fit, fallen, fitted, given_fit, grown, has_fit, item_of, next_number, number, sum_of}

pub both : (a b : Bool) → a ≡ true → b ≡ true → (a && b) ≡ true
both a b e f = rw (e, f) refl

-- ---- the bounds

pub from_bounds : (t : Token) → Fits t → has_fit t ≡ true
from_bounds t f = both (is_token t) _ f.token (both _ _ (le-leb (depth t) 16 f.shallow) (le-leb (length (spelling t)) 1024 f.short))

pub bounds_of : (t : Token) → has_fit t ≡ true → Fits t
bounds_of t e =
    let h = and_parts _ _ e in
    let g = and_parts _ _ h.1 in
    record { token = h.0; shallow = leb-true (depth t) 16 g.0; short = leb-true (length (spelling t)) 1024 g.1 }

bounded : (t : Token) (s : List ℕ) → is_token t ≡ true → depth t ≡ 0 → spelling t ≡ s → length s ≤ 1024 → has_fit t ≡ true
bounded t s known flat spelled short = from_bounds t (record { token = known; shallow = omega (arith, flat); short = subst (λ (x : List ℕ). length x ≤ 1024) (sym spelled) short })

-- ---- plain tokens

token-Null : is_token token.Null ≡ true
token-Null = search (rules, the_lemmas)

pub depth-Null : depth token.Null ≡ 0
depth-Null = search (rules, the_lemmas)

pub spelling-Null : spelling token.Null ≡ codes "null"
spelling-Null = search (rules, the_lemmas)

pub null_fits : has_fit token.Null ≡ true
null_fits = bounded token.Null (codes "null") token-Null depth-Null spelling-Null (omega arith)

token-Bool : (b : Bool) → is_token (token.Bool b) ≡ true
token-Bool b = search (rules, the_lemmas)

depth-Bool : (b : Bool) → depth (token.Bool b) ≡ 0
depth-Bool b = search (rules, the_lemmas)

spelling-true : spelling (token.Bool true) ≡ codes "true"
spelling-true = search (rules, the_lemmas)

spelling-false : spelling (token.Bool false) ≡ codes "false"
spelling-false = search (rules, the_lemmas)

pub bool_fits : (b : Bool) → has_fit (token.Bool b) ≡ true
bool_fits true = bounded (token.Bool true) (codes "true") (token-Bool true) (depth-Bool true) spelling-true (omega arith)
bool_fits false = bounded (token.Bool false) (codes "false") (token-Bool false) (depth-Bool false) spelling-false (omega arith)

token-Text : (s : List ℕ) → is_token (token.Text s) ≡ is_utf8 s
token-Text s = search (rules, the_lemmas)

depth-Text : (s : List ℕ) → depth (token.Text s) ≡ 0
depth-Text s = search (rules, the_lemmas)

spelling-empty : spelling (token.Text []) ≡ codes "\"\""
spelling-empty = search (rules, the_lemmas)

pub empty_text_fits : has_fit (token.Text []) ≡ true
empty_text_fits = bounded (token.Text []) (codes "\"\"") (token-Text [] ∙ is_utf8-from_IsUtf8 [] IsUtf8-nil) (depth-Text []) spelling-empty (omega arith)

token-Int : (z : ℤ) → is_token (token.Int z) ≡ has_64_bits z
token-Int z = search (rules, the_lemmas)

depth-Int : (z : ℤ) → depth (token.Int z) ≡ 0
depth-Int z = search (rules, the_lemmas)

spelling-Int : (z : ℤ) → spelling (token.Int z) ≡ signed_decimal z
spelling-Int z = search (rules, the_lemmas)

pub below : (z : ℤ) → has_64_bits z ≡ true → mag z < 2 ^ 63
below (pos n) e = ltb-true n (2 ^ 63) e
below (negsuc n) e = ltb-true n (2 ^ 63) e

few : (z : ℤ) → mag z < 2 ^ 63 → length (signed_decimal z) ≤ 1024
few z h = let l = length_signed_le 20 z (omega arith) h in omega arith

pub int_fits : (z : ℤ) → has_64_bits z ≡ true → has_fit (token.Int z) ≡ true
int_fits z e = bounded (token.Int z) (signed_decimal z) (token-Int z ∙ e) (depth-Int z) (spelling-Int z) (few z (below z e))

pub bits_of : (z : ℤ) → has_fit (token.Int z) ≡ true → has_64_bits z ≡ true
bits_of z e = sym (token-Int z) ∙ (bounds_of (token.Int z) e).token

-- ---- results

if_fits : (b : Bool) (t : Token) → (b ≡ true → has_fit t ≡ true) → has_fit (if b then t else token.Null) ≡ true
if_fits true t h = h refl
if_fits false t h = null_fits

pub number_fits : (z : ℤ) → has_fit (number z) ≡ true
number_fits z = if_fits (has_64_bits z) (token.Int z) (int_fits z)

pub fitted_fits : (t : Token) → has_fit (fitted t) ≡ true
fitted_fits t = if_fits (has_fit t) t (λ e. e)

unchanged : (b : Bool) (t : Token) → b ≡ true → t ≡ (if b then t else token.Null)
unchanged true t e = refl
unchanged false t e = cc

-- what fits stays
pub fitted_itself : (t : Token) → has_fit t ≡ true → t ≡ fitted t
fitted_itself t e = unchanged (has_fit t) t e

pub next_fits : (t : Token) → has_fit (next_number t) ≡ true
next_fits (token.Int z) = number_fits (z +ℤ pos 1)
next_fits _ = null_fits

pub sum_fits : (s t : Token) → has_fit (sum_of s t) ≡ true
sum_fits (token.Int x) (token.Int y) = number_fits (x +ℤ y)
sum_fits _ _ = null_fits

-- whichever it is
pub either_fits : (b : Bool) (s t : Token) → has_fit s ≡ true → has_fit t ≡ true → has_fit (if b then s else t) ≡ true
either_fits true s t e f = e
either_fits false s t e f = f

pub grown_fits : (new old : Token) → has_fit new ≡ true → has_fit old ≡ true → has_fit (grown new old) ≡ true
grown_fits token.Null old e f = f
grown_fits new old e f = e

pub fallen_fits : (t : Token) → has_fit t ≡ true → has_fit (fallen t) ≡ true
fallen_fits (token.Int (pos (suc n))) e = let h = below (pos (suc n)) (bits_of (pos (suc n)) e) in int_fits (pos n) (lt-ltb n (2 ^ 63) (omega arith))
fallen_fits t e = e

-- ---- lists of tokens that fit

pub item_fits : (ts : List Token) (i : ℕ) → all_fit ts ≡ true → has_fit (item_of ts i) ≡ true
item_fits [] i e = null_fits
item_fits (t ∷ ts) zero e = (and_parts _ _ e).0
item_fits (t ∷ ts) (suc i) e = item_fits ts i (and_parts _ _ e).1

pub one_given : (t : Token) → has_fit t ≡ true → given_fit (Some t ∷ []) ≡ true
one_given t e = both (has_fit t) true e refl
