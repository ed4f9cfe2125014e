-- What stands at the front of a text is found there, or something longer is.
use Rattle.std.proofs.Common.{◌≡◌, ◌≢◌, ℕ, suc, ◌+◌, ◌<◌, ◌≤◌, Bool, true, false, cond, eqb, ◌⊎◌, Option, Some, None, List, [], ◌∷◌, ◌++◌, length, drop, refl, sym, ap, ◌∙◌, subst, inl, inr, append_assoc, arith}
use Rattle.std.specs.Prelude.{nat_eq}
use Rattle.std.specs.List.{prefix_len, starts_with}
use Rattle.std.proofs.lemmas.Bool.{cond_both, cases_lt, eqb-true, eqb-false, ne_eqb}
use Rattle.std.proofs.lemmas.Bool.Decides.{nat_tests}
use Rattle.std.proofs.lemmas.List.{length-append}
use Rattle.cv_lex.specs.declared.lexeme.Sort.{Sort}
use Rattle.cv_lex.specs.declared.lexeme.Sort.TheVariants as sorts
use Rattle.cv_lex.specs.Bytes.{is_blank_byte, is_name_start, is_name_byte, is_digit, is_mark_byte, is_in_line}
use Rattle.cv_lex.specs.Fronts.{fraction_len}
use Rattle.cv_lex.specs.Shapes.{Each, IsName, AreDigits, IsInt, IsFraction, IsText, IsMark, FirstIs, IsBlank, space, line, block, quotes, IsAt}
use Rattle.cv_lex.specs.Spans.{place_of}
use Rattle.cv_lex.proofs.Insides.{closing_behind}
use Rattle.cv_lex.proofs.Places.{starts_so, place_first}
use Rattle.cv_lex.proofs.Runs.{run_over, run_stops}
use Rattle.cv_lex.proofs.Sizes.{Size, number_size, closed_size, text_size, size_of}

-- a thing of m bytes: something longer was found, or this
abbrev pub Covers : Option Sort → ℕ → Size → Type 0
Covers thing m None = ⊥
Covers thing m (Some found) = (m < found.1) ⊎ ((m ≡ found.1) × (thing ≡ found.0))

covers_le : (thing : Option Sort) (m n : ℕ) → m ≤ n → Covers thing m (Some (thing, n))
covers_le thing m n h = elim (cases_lt m n) [ inl less ↦ inl less | inr more ↦ inr (omega arith, refl) ]

covers_same : (thing : Option Sort) (m n : ℕ) → m ≡ n → Covers thing m (Some (thing, n))
covers_same thing m n e = inr (e, refl)

-- the tests of a first byte
pub at_true : {A : Type 0} (P : A → Type 0) (b : Bool) (x y : A) → b ≡ true → P x → P (cond b x y)
at_true P true x y e h = h
at_true P false x y e h = cc

pub at_false : {A : Type 0} (P : A → Type 0) (b : Bool) (x y : A) → b ≡ false → P y → P (cond b x y)
at_false P true x y e h = cc
at_false P false x y e h = h

pub name-blank : (b : ℕ) → is_name_start b ≡ true → is_blank_byte b ≡ false
name-blank b h = grind (arith, nat_tests)

digit-blank : (b : ℕ) → is_digit b ≡ true → is_blank_byte b ≡ false
digit-blank b h = grind (arith, nat_tests)

digit-name : (b : ℕ) → is_digit b ≡ true → is_name_start b ≡ false
digit-name b h = grind (arith, nat_tests)

pub mark-blank : (b : ℕ) → is_mark_byte b ≡ true → is_blank_byte b ≡ false
mark-blank b h = grind (arith, nat_tests)

pub mark-name : (b : ℕ) → is_mark_byte b ≡ true → is_name_start b ≡ false
mark-name b h = grind (arith, nat_tests)

pub mark-digit : (b : ℕ) → is_mark_byte b ≡ true → is_digit b ≡ false
mark-digit b h = grind (arith, nat_tests)

pub mark-others : (b : ℕ) → is_mark_byte b ≡ true → (eqb b 45 ≡ false) × (eqb b 34 ≡ false) × (eqb b 47 ≡ false)
mark-others b h = (grind (arith, nat_tests), grind (arith, nat_tests), grind (arith, nat_tests))

-- a digit begins a number
pub digit_size : (P : Size → Type 0) (b : ℕ) (rest : List ℕ) → is_digit b ≡ true → P (number_size rest) → P (size_of b rest)
digit_size P b rest d h = at_false P (is_blank_byte b) _ _ (digit-blank b d) (at_false P (is_name_start b) _ _ (digit-name b d) (at_true P (is_digit b) _ _ d h))

-- so does a `-` before a digit
pub minus_digit_size : (P : Size → Type 0) (b d : ℕ) (rest : List ℕ) → b ≡ 45 → is_digit d ≡ true → P (number_size (d ∷ rest)) → P (size_of b (d ∷ rest))
minus_digit_size P b d rest e h p =
    let Q : ℕ → Type 0 = λ x. P (size_of x (d ∷ rest)) in
    subst Q (sym e) (at_true P (is_digit d) _ _ h p)

-- what a text begins with
abbrev pub front_size : List ℕ → Size
front_size [] = None
front_size (b ∷ rest) = size_of b rest

name_covers : (front rest : List ℕ) → IsName front → Covers (Some sorts.Name) (length front) (front_size (front ++ rest))
name_covers [] rest h = absurd h
name_covers (b ∷ front) rest h =
    let C : Size → Type 0 = Covers (Some sorts.Name) (suc (length front)) in
    let over = run_over is_name_byte front rest h.1 in
    at_false C (is_blank_byte b) _ _ (name-blank b h.0) (at_true C (is_name_start b) _ _ h.0
    (covers_le (Some sorts.Name) (suc (length front)) (suc (prefix_len is_name_byte (front ++ rest))) (omega (arith, over))))

int_size : (ds rest : List ℕ) → Each is_digit ds → Covers (Some sorts.Int) (suc (length ds)) (number_size (ds ++ rest))
int_size ds rest h =
    let C : Size → Type 0 = Covers (Some sorts.Int) (suc (length ds)) in
    let more = prefix_len is_digit (ds ++ rest) in
    let over = run_over is_digit ds rest h in
    let fraction = fraction_len (drop more (ds ++ rest)) in
    cond_both (eqb fraction 0) _ _ C
    (λ _. covers_le (Some sorts.Int) (suc (length ds)) (suc more) (omega (arith, over)))
    (λ e. let some = eqb-false fraction 0 e in inl (omega (arith, over, some)))

int_covers : (front rest : List ℕ) → IsInt front → Covers (Some sorts.Int) (length front) (front_size (front ++ rest))
int_covers [] rest h = absurd h
int_covers (b ∷ ds) rest (inl h) = digit_size (Covers (Some sorts.Int) (suc (length ds))) b (ds ++ rest) h.0 (int_size ds rest h.1)
int_covers (b ∷ []) rest (inr h) = absurd h.1
int_covers (b ∷ d ∷ ds) rest (inr h) = minus_digit_size (Covers (Some sorts.Int) (suc (suc (length ds)))) b d (ds ++ rest) h.0 h.1.0 (int_size (d ∷ ds) rest h.1)

pub drop-front : (xs ys : List ℕ) → drop (length xs) (xs ++ ys) ≡ ys
drop-front [] ys = refl
drop-front (x ∷ xs) ys = drop-front xs ys

pub number_from : (rest : List ℕ) (more fraction : ℕ) → prefix_len is_digit rest ≡ more → fraction_len (drop more rest) ≡ fraction → number_size rest ≡ cond (eqb fraction 0) (Some (Some sorts.Int, suc more)) (Some (Some sorts.Fraction, suc (more + fraction)))
number_from rest more fraction e f =
    let P : ℕ → Type 0 = λ m. number_size rest ≡ cond (eqb (fraction_len (drop m rest)) 0) (Some (Some sorts.Int, suc m)) (Some (Some sorts.Fraction, suc (m + fraction_len (drop m rest)))) in
    subst P e refl ∙ ap (λ (n : ℕ). cond (eqb n 0) (Some (Some sorts.Int, suc more)) (Some (Some sorts.Fraction, suc (more + n)))) f

fraction_size : (m : ℕ) (ds part rest : List ℕ) → m ≡ suc (length ds + suc (length part)) → Each is_digit ds → AreDigits part → Covers (Some sorts.Fraction) m (number_size (ds ++ 46 ∷ (part ++ rest)))
fraction_size m ds [] rest e h k = absurd k
fraction_size m ds (p ∷ ps) rest e h k =
    let digits = prefix_len is_digit ((p ∷ ps) ++ rest) in
    let behind = 46 ∷ ((p ∷ ps) ++ rest) in
    let C : Size → Type 0 = Covers (Some sorts.Fraction) m in
    let over : length (p ∷ ps) ≤ digits = run_over is_digit (p ∷ ps) rest k in
    let fraction : fraction_len behind ≡ digits + 1 = let P : ℕ → Type 0 = λ n. n ≡ digits + 1 in
    cond_both (eqb digits 0) 0 (digits + 1) P (λ z. let none = eqb-true digits 0 z in absurd (omega (arith, none, over))) (λ _. refl) in
    let size = number_from (ds ++ behind) (length ds) (digits + 1) (run_stops is_digit ds 46 ((p ∷ ps) ++ rest) h refl) (ap fraction_len (drop-front ds behind) ∙ fraction) in
    subst C (sym size)
    (at_false C (eqb (digits + 1) 0) _ _ (ne_eqb (digits + 1) 0 (λ z. omega arith))
    (covers_le (Some sorts.Fraction) m (suc (length ds + (digits + 1))) (omega (arith, e, over))))

fraction_whole : (m : ℕ) (whole part rest : List ℕ) → m ≡ length whole + suc (length part) → IsInt whole → AreDigits part → Covers (Some sorts.Fraction) m (front_size (whole ++ 46 ∷ (part ++ rest)))
fraction_whole m [] part rest e h k = absurd h
fraction_whole m (b ∷ ds) part rest e (inl h) k = digit_size (Covers (Some sorts.Fraction) m) b (ds ++ 46 ∷ (part ++ rest)) h.0 (fraction_size m ds part rest (omega (arith, e)) h.1 k)
fraction_whole m (b ∷ []) part rest e (inr h) k = absurd h.1
fraction_whole m (b ∷ d ∷ ds) part rest e (inr h) k =
    minus_digit_size (Covers (Some sorts.Fraction) m) b d (ds ++ 46 ∷ (part ++ rest)) h.0 h.1.0 (fraction_size m (d ∷ ds) part rest (omega (arith, e)) h.1 k)

fraction_covers : (front rest : List ℕ) → IsFraction front → Covers (Some sorts.Fraction) (length front) (front_size (front ++ rest))
fraction_covers front rest h =
    let whole = h.0 in
    let part = h.1 in
    let count : length front ≡ length whole + suc (length part) = ap length h.4 ∙ length-append whole (46 ∷ part) in
    let text : front ++ rest ≡ whole ++ 46 ∷ (part ++ rest) = ap (λ (xs : List ℕ). xs ++ rest) h.4 ∙ append_assoc whole (46 ∷ part) rest in
    let P : List ℕ → Type 0 = λ bytes. Covers (Some sorts.Fraction) (length front) (front_size bytes) in
    subst P (sym text) (fraction_whole (length front) whole part rest count h.2 h.3)

mark_covers : (front rest : List ℕ) → IsMark front → Covers (Some sorts.Mark) (length front) (front_size (front ++ rest))
mark_covers [] rest h = absurd h
mark_covers (b ∷ []) rest h =
    let C : Size → Type 0 = Covers (Some sorts.Mark) 1 in
    let o = mark-others b h in
    at_false C (is_blank_byte b) _ _ (mark-blank b h) (at_false C (is_name_start b) _ _ (mark-name b h) (at_false C (is_digit b) _ _ (mark-digit b h)
    (at_false C (eqb b 45) _ _ o.0 (at_false C (eqb b 34) _ _ o.1 (at_false C (eqb b 47) _ _ o.2 (at_true C (is_mark_byte b) _ _ h (covers_same (Some sorts.Mark) 1 1 refl)))))))
mark_covers (b ∷ c ∷ []) rest h =
    let P : ℕ → Type 0 = λ x. Covers (Some sorts.Mark) 2 (size_of x (c ∷ rest)) in
    let Q : ℕ → Type 0 = λ y. Covers (Some sorts.Mark) 2 (size_of 45 (y ∷ rest)) in
    subst P (sym h.0) (subst Q (sym h.1) (covers_same (Some sorts.Mark) 2 2 refl))
mark_covers (b ∷ c ∷ d ∷ bytes) rest h = absurd h

text_covers : (front rest : List ℕ) → IsText front → ((tail : List ℕ) → front ++ rest ≢ 34 ∷ 34 ∷ 34 ∷ tail) → Covers (Some sorts.Text) (length front) (front_size (front ++ rest))
text_covers front rest h alone =
    let inside = h.0 in
    let C : Size → Type 0 = Covers (Some sorts.Text) (length front) in
    let text : front ++ rest ≡ 34 ∷ (inside ++ 34 ∷ rest) = ap (λ (xs : List ℕ). xs ++ rest) h.2 ∙ ap (λ (xs : List ℕ). 34 ∷ xs) (append_assoc inside (34 ∷ []) rest) in
    let count : length front ≡ 0 + length inside + 2 = ap length h.2 ∙ omega (arith, length-append inside (34 ∷ [])) in
    let P : List ℕ → Type 0 = λ bytes. C (front_size bytes) in
    let R : Option ℕ → Type 0 = λ place. C (text_size place) in
    subst P (sym text)
    (cond_both (starts_with nat_eq (34 ∷ (inside ++ 34 ∷ rest)) (34 ∷ 34 ∷ 34 ∷ [])) _ _ C
    (λ three. absurd (alone _ (text ∙ starts_so (34 ∷ (inside ++ 34 ∷ rest)) (34 ∷ 34 ∷ 34 ∷ []) three)))
    (λ _. subst R (sym (closing_behind 0 inside rest h.1)) (covers_same (Some sorts.Text) (length front) (0 + length inside + 2) count)))

-- a comment is found up to its first closing
closed_covers : (m more : ℕ) (body close rest : List ℕ) → FirstIs close body → 0 < length close → m ≡ length body + more → Covers None m (closed_size more (place_of 0 close ((body ++ close) ++ rest)))
closed_covers m more body close rest f h e =
    let R : Option ℕ → Type 0 = λ place. Covers None m (closed_size more place) in
    let place : place_of 0 close ((body ++ close) ++ rest) ≡ Some (0 + length body) = ap (place_of 0 close) (append_assoc body close rest) ∙ place_first 0 close body rest f h in
    subst R (sym place) (covers_same None m (0 + length body + more) (omega (arith, e)))

blank_covers : (front rest : List ℕ) → IsBlank front → Covers None (length front) (front_size (front ++ rest))
blank_covers front rest (space b h e) =
    let P : List ℕ → Type 0 = λ xs. Covers None (length xs) (front_size (xs ++ rest)) in
    subst P (sym e) (at_true (Covers None 1) (is_blank_byte b) _ _ h (covers_same None 1 1 refl))
blank_covers front rest (line bytes h e) =
    let P : List ℕ → Type 0 = λ xs. Covers None (length xs) (front_size (xs ++ rest)) in
    subst P (sym e) (covers_le None (suc (suc (length bytes))) (prefix_len is_in_line (bytes ++ rest) + 2) (omega (arith, run_over is_in_line bytes rest h)))
blank_covers front rest (block h) =
    let P : List ℕ → Type 0 = λ xs. Covers None (length xs) (front_size (xs ++ rest)) in
    subst P (sym h.2) (closed_covers _ 4 h.0 (42 ∷ 47 ∷ []) rest h.1 (omega arith) (omega (arith, length-append h.0 (42 ∷ 47 ∷ []))))
blank_covers front rest (quotes h) =
    let P : List ℕ → Type 0 = λ xs. Covers None (length xs) (front_size (xs ++ rest)) in
    subst P (sym h.2) (closed_covers _ 6 h.0 (34 ∷ 34 ∷ 34 ∷ []) rest h.1 (omega arith) (omega (arith, length-append h.0 (34 ∷ 34 ∷ 34 ∷ []))))

-- what stands at the front of a text is found, or something longer
pub size_covers : (thing : Option Sort) (front rest : List ℕ) → IsAt thing front rest → Covers thing (length front) (front_size (front ++ rest))
size_covers None front rest h = blank_covers front rest h
size_covers (Some sorts.Name) front rest h = name_covers front rest h
size_covers (Some sorts.Int) front rest h = int_covers front rest h
size_covers (Some sorts.Fraction) front rest h = fraction_covers front rest h
size_covers (Some sorts.Text) front rest h = text_covers front rest h.0 h.1
size_covers (Some sorts.Mark) front rest h = mark_covers front rest h
