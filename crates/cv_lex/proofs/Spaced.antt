-- A lexeme that a space follows is the longest that stands there.
use Rattle.std.proofs.Common.{◌≡◌, ◌≢◌, ℕ, suc, ◌+◌, ◌≤◌, eqb, Option, Some, None, List, [], ◌∷◌, ◌++◌, length, drop, refl, sym, ap, ◌∙◌, subst, inl, inr, append_assoc, arith}
use Rattle.std.specs.Prelude.{nat_eq}
use Rattle.std.specs.List.{prefix_len, starts_with}
use Rattle.std.proofs.lemmas.Bool.{cond_both, ne_eqb, eqb-true}
use Rattle.std.proofs.lemmas.List.{length-append}
use Rattle.cv_lex.specs.declared.lexeme.Sort.{Sort}
use Rattle.cv_lex.specs.declared.lexeme.Sort.TheVariants as sorts
use Rattle.cv_lex.specs.Bytes.{is_blank_byte, is_name_start, is_name_byte, is_digit, is_mark_byte}
use Rattle.cv_lex.specs.Fronts.{fraction_len}
use Rattle.cv_lex.specs.Shapes.{Each, AreDigits, IsName, IsInt, IsText, IsMark, space, IsAt, Stands}
use Rattle.cv_lex.proofs.Covers.{Covers, front_size, size_covers, at_true, at_false, name-blank, mark-blank, mark-name, mark-digit, mark-others, digit_size, minus_digit_size, number_from, drop-front}
use Rattle.cv_lex.proofs.Insides.{closing_behind}
use Rattle.cv_lex.proofs.Places.{starts_so}
use Rattle.cv_lex.proofs.Runs.{run_stops}
use Rattle.cv_lex.proofs.Sizes.{Size, number_size, text_size, size_of}
use Rattle.cv_lex.proofs.Stood.{no_longer}

-- nothing longer is found
abbrev AtMost : ℕ → Size → Type 0
AtMost m None = Unit {0}
AtMost m (Some found) = found.1 ≤ m

name_ends : (front rest : List ℕ) → IsName front → AtMost (length front) (front_size (front ++ 32 ∷ rest))
name_ends [] rest h = absurd h
name_ends (b ∷ front) rest h =
    let A : Size → Type 0 = AtMost (suc (length front)) in
    at_false A (is_blank_byte b) _ _ (name-blank b h.0) (at_true A (is_name_start b) _ _ h.0
    (omega (arith, run_stops is_name_byte front 32 rest h.1 refl)))

int_ends : (ds rest : List ℕ) → Each is_digit ds → AtMost (suc (length ds)) (number_size (ds ++ 32 ∷ rest))
int_ends ds rest h =
    let none : fraction_len (drop (length ds) (ds ++ 32 ∷ rest)) ≡ 0 = ap fraction_len (drop-front ds (32 ∷ rest)) in
    subst (AtMost (suc (length ds))) (sym (number_from (ds ++ 32 ∷ rest) (length ds) 0 (run_stops is_digit ds 32 rest h refl) none)) (omega arith)

whole_ends : (front rest : List ℕ) → IsInt front → AtMost (length front) (front_size (front ++ 32 ∷ rest))
whole_ends [] rest h = absurd h
whole_ends (b ∷ ds) rest (inl h) = digit_size (AtMost (suc (length ds))) b (ds ++ 32 ∷ rest) h.0 (int_ends ds rest h.1)
whole_ends (b ∷ []) rest (inr h) = absurd h.1
whole_ends (b ∷ d ∷ ds) rest (inr h) = minus_digit_size (AtMost (suc (suc (length ds)))) b d (ds ++ 32 ∷ rest) h.0 h.1.0 (int_ends (d ∷ ds) rest h.1)

part_ends : (m : ℕ) (ds part rest : List ℕ) → m ≡ suc (length ds + suc (length part)) → Each is_digit ds → AreDigits part → AtMost m (number_size (ds ++ 46 ∷ (part ++ 32 ∷ rest)))
part_ends m ds [] rest e h k = absurd k
part_ends m ds (p ∷ ps) rest e h k =
    let digits = prefix_len is_digit ((p ∷ ps) ++ 32 ∷ rest) in
    let behind = 46 ∷ ((p ∷ ps) ++ 32 ∷ rest) in
    let stops : digits ≡ length (p ∷ ps) = run_stops is_digit (p ∷ ps) 32 rest k refl in
    let fraction : fraction_len behind ≡ digits + 1 = let P : ℕ → Type 0 = λ n. n ≡ digits + 1 in
    cond_both (eqb digits 0) 0 (digits + 1) P (λ z. let none = eqb-true digits 0 z in absurd (omega (arith, none, stops))) (λ _. refl) in
    let size = number_from (ds ++ behind) (length ds) (digits + 1) (run_stops is_digit ds 46 ((p ∷ ps) ++ 32 ∷ rest) h refl) (ap fraction_len (drop-front ds behind) ∙ fraction) in
    subst (AtMost m) (sym size)
    (at_false (AtMost m) (eqb (digits + 1) 0) _ _ (ne_eqb (digits + 1) 0 (λ z. omega arith)) (omega (arith, e, stops)))

fraction_ends : (m : ℕ) (whole part rest : List ℕ) → m ≡ length whole + suc (length part) → IsInt whole → AreDigits part → AtMost m (front_size (whole ++ 46 ∷ (part ++ 32 ∷ rest)))
fraction_ends m [] part rest e h k = absurd h
fraction_ends m (b ∷ ds) part rest e (inl h) k = digit_size (AtMost m) b (ds ++ 46 ∷ (part ++ 32 ∷ rest)) h.0 (part_ends m ds part rest (omega (arith, e)) h.1 k)
fraction_ends m (b ∷ []) part rest e (inr h) k = absurd h.1
fraction_ends m (b ∷ d ∷ ds) part rest e (inr h) k =
    minus_digit_size (AtMost m) b d (ds ++ 46 ∷ (part ++ 32 ∷ rest)) h.0 h.1.0 (part_ends m (d ∷ ds) part rest (omega (arith, e)) h.1 k)

mark_ends : (front rest : List ℕ) → IsMark front → AtMost (length front) (front_size (front ++ 32 ∷ rest))
mark_ends [] rest h = absurd h
mark_ends (b ∷ []) rest h =
    let A : Size → Type 0 = AtMost 1 in
    let o = mark-others b h in
    at_false A (is_blank_byte b) _ _ (mark-blank b h) (at_false A (is_name_start b) _ _ (mark-name b h) (at_false A (is_digit b) _ _ (mark-digit b h)
    (at_false A (eqb b 45) _ _ o.0 (at_false A (eqb b 34) _ _ o.1 (at_false A (eqb b 47) _ _ o.2 (at_true A (is_mark_byte b) _ _ h (omega arith)))))))
mark_ends (b ∷ c ∷ []) rest h =
    let P : ℕ → Type 0 = λ x. AtMost 2 (size_of x (c ∷ 32 ∷ rest)) in
    let Q : ℕ → Type 0 = λ y. AtMost 2 (size_of 45 (y ∷ 32 ∷ rest)) in
    let two : 2 ≤ 2 = omega arith in
    subst P (sym h.0) (subst Q (sym h.1) two)
mark_ends (b ∷ c ∷ d ∷ bytes) rest h = absurd h

text_ends : (front rest : List ℕ) → IsText front → ((tail : List ℕ) → front ++ rest ≢ 34 ∷ 34 ∷ 34 ∷ tail) → AtMost (length front) (front_size (front ++ rest))
text_ends front rest h alone =
    let inside = h.0 in
    let text : front ++ rest ≡ 34 ∷ (inside ++ 34 ∷ rest) = ap (λ (xs : List ℕ). xs ++ rest) h.2 ∙ ap (λ (xs : List ℕ). 34 ∷ xs) (append_assoc inside (34 ∷ []) rest) in
    let count : length front ≡ 0 + length inside + 2 = ap length h.2 ∙ omega (arith, length-append inside (34 ∷ [])) in
    let P : List ℕ → Type 0 = λ bytes. AtMost (length front) (front_size bytes) in
    let R : Option ℕ → Type 0 = λ place. AtMost (length front) (text_size place) in
    subst P (sym text)
    (cond_both (starts_with nat_eq (34 ∷ (inside ++ 34 ∷ rest)) (34 ∷ 34 ∷ 34 ∷ [])) _ _ (AtMost (length front))
    (λ three. absurd (alone _ (text ∙ starts_so (34 ∷ (inside ++ 34 ∷ rest)) (34 ∷ 34 ∷ 34 ∷ []) three)))
    (λ _. subst R (sym (closing_behind 0 inside rest h.1)) (omega (arith, count))))

sort_ends : (sort : Sort) (front rest : List ℕ) → IsAt (Some sort) front (32 ∷ rest) → AtMost (length front) (front_size (front ++ 32 ∷ rest))
sort_ends sorts.Name front rest h = name_ends front rest h
sort_ends sorts.Int front rest h = whole_ends front rest h
sort_ends sorts.Fraction front rest h =
    let count : length front ≡ length h.0 + suc (length h.1) = ap length h.4 ∙ length-append h.0 (46 ∷ h.1) in
    let text : front ++ 32 ∷ rest ≡ h.0 ++ 46 ∷ (h.1 ++ 32 ∷ rest) = ap (λ (xs : List ℕ). xs ++ 32 ∷ rest) h.4 ∙ append_assoc h.0 (46 ∷ h.1) (32 ∷ rest) in
    let P : List ℕ → Type 0 = λ bytes. AtMost (length front) (front_size bytes) in
    subst P (sym text) (fraction_ends (length front) h.0 h.1 rest count h.2 h.3)
sort_ends sorts.Text front rest h = text_ends front (32 ∷ rest) h.0 h.1
sort_ends sorts.Mark front rest h = mark_ends front rest h

-- what is at most found bounds what stands
bounded : (other : Option Sort) (m n : ℕ) (size : Size) → Covers other n size → AtMost m size → n ≤ m
bounded other m n None c h = absurd c
bounded other m n (Some found) c h = omega (arith, h, no_longer other found.0 n found.1 c)

longest_of : (front rest : List ℕ) → AtMost (length front) (front_size (front ++ rest)) → (other : Option Sort) (longer tail : List ℕ) → front ++ rest ≡ longer ++ tail → IsAt other longer tail → length longer ≤ length front
longest_of front rest h other longer tail e at =
    let P : List ℕ → Type 0 = λ bytes. Covers other (length longer) (front_size bytes) in
    bounded other (length front) (length longer) (front_size (front ++ rest)) (subst P (sym e) (size_covers other longer tail at)) h

-- a lexeme before a space
pub lexeme_stands : (sort : Sort) (front rest : List ℕ) → IsAt (Some sort) front (32 ∷ rest) → Stands (Some sort) front (32 ∷ rest)
lexeme_stands sort front rest h = record { is = h; longest = longest_of front (32 ∷ rest) (sort_ends sort front rest h) }

-- a space
pub space_stands : (rest : List ℕ) → Stands None (32 ∷ []) rest
space_stands rest = record { is = space 32 refl refl; longest = longest_of (32 ∷ []) rest (omega arith) }
