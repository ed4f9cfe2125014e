-- What the front of a text is, against what is found there by its shape.
use Rattle.std.proofs.Common.{◌≡◌, ℕ, suc, ◌+◌, ◌-◌, ◌<◌, Bool, true, false, cond, eqb, ltb, Option, Some, None, List, [], ◌∷◌, length, get_or, take, drop, refl, sym, ap, ◌∙◌, subst, add-one, arith}
use Rattle.std.specs.Prelude.{is_some, nat_eq}
use Rattle.std.specs.List.{prefix_len, starts_with}
use Rattle.std.proofs.lemmas.Bool.{cond_both, ltb-true, ltb-false, true≢false}
use Rattle.std.proofs.lemmas.List.{length-take-le, take-take}
use Rattle.std.proofs.lemmas.List.Sums.{prefix_len-le-length}
use Rattle.cv_lex.specs.declared.lexeme.Sort.{Sort}
use Rattle.cv_lex.specs.declared.lexeme.Sort.TheVariants as sorts
use Rattle.cv_lex.specs.declared.fronts.Front.{Front}
use Rattle.cv_lex.specs.declared.fronts.Front.TheVariants as fronts
use Rattle.cv_lex.specs.declared.lexeme.LexFault.TheVariants as faults
use Rattle.cv_lex.specs.Bytes.{is_blank_byte, is_name_start, is_name_byte, is_digit, is_mark_byte}
use Rattle.cv_lex.specs.Fronts.{front_of, name_front, fraction_len, int_front, number_front, minus_front, comment_front, slash_front, inside_front, text_front, quote_front}
use Rattle.cv_lex.specs.Numbers.{int_of}
use Rattle.cv_lex.specs.Shapes.{IsInLimits}
use Rattle.cv_lex.specs.Spans.{closing}
use Rattle.cv_lex.specs.Texts.{said_from, bad_of}
use Rattle.cv_lex.proofs.Insides.{closing_inside}
use Rattle.cv_lex.proofs.Sizes.{Size, number_size, minus_size, closed_size, slash_size, text_size, quote_size, size_of}

-- what is found does not fit
abbrev pub IsUnfit : List ℕ → Option Sort → ℕ → Type 0
IsUnfit bytes None n = ⊥
IsUnfit bytes (Some sort) n = IsInLimits sort (take n bytes) → ⊥

-- the front is what was found, if that fits; else it is a flaw
abbrev pub Agrees : List ℕ → Front → Size → Type 0
Agrees bytes (fronts.Blank more) size = size ≡ Some (None, suc more)
Agrees bytes (fronts.Lexeme sort more) size = (size ≡ Some (Some sort, suc more)) × IsInLimits sort (take (suc more) bytes)
Agrees bytes (fronts.Flaw fault) None = Unit {0}
Agrees bytes (fronts.Flaw fault) (Some found) = IsUnfit bytes found.0 found.1

-- two choices by one test
pub both_if : {A B : Type 0} (P : A → B → Type 0) (b : Bool) (x y : A) (u v : B) → (b ≡ true → P x u) → (b ≡ false → P y v) → P (cond b x y) (cond b u v)
both_if P true x y u v h k = h refl
both_if P false x y u v h k = k refl

name_agrees : (at b : ℕ) (rest : List ℕ) → Agrees (b ∷ rest) (name_front at (b ∷ rest)) (Some (Some sorts.Name, suc (prefix_len is_name_byte rest)))
name_agrees at b rest =
    let more = prefix_len is_name_byte rest in
    let size : length (take more rest) ≡ more = length-take-le more rest (prefix_len-le-length is_name_byte rest) in
    cond_both (ltb more 64) _ _ (λ (front : Front). Agrees (b ∷ rest) front (Some (Some sorts.Name, suc more)))
    (λ e. (refl, omega (arith, size, ltb-true more 64 e)))
    (λ e fit. omega (arith, size, ltb-false more 64 e, fit))

int_agrees : (at : ℕ) (bytes : List ℕ) (more : ℕ) → Agrees bytes (int_front at bytes more) (Some (Some sorts.Int, suc more))
int_agrees at bytes more =
    let P : ℕ → Type 0 = λ m. Agrees bytes (cond (is_some (int_of (take m bytes))) (fronts.Lexeme sorts.Int more) (fronts.Flaw (faults.WideNumber at))) (Some (Some sorts.Int, suc more)) in
    let Q : Front → Type 0 = λ front. Agrees bytes front (Some (Some sorts.Int, suc more)) in
    subst P (sym (add-one more))
    (cond_both (is_some (int_of (take (suc more) bytes))) _ _ Q (λ e. (refl, e)) (λ e fit. true≢false (sym fit ∙ e)))

number_agrees : (at b : ℕ) (rest : List ℕ) → Agrees (b ∷ rest) (number_front at (b ∷ rest)) (number_size rest)
number_agrees at b rest =
    let more = prefix_len is_digit rest in
    let P : ℕ → Type 0 = λ m. Agrees (b ∷ rest) (cond (eqb (fraction_len (drop m (b ∷ rest))) 0) (int_front at (b ∷ rest) more) (fronts.Lexeme sorts.Fraction (more + fraction_len (drop m (b ∷ rest))))) (number_size rest) in
    subst P (sym (add-one more))
    (both_if (Agrees (b ∷ rest)) (eqb (fraction_len (drop more rest)) 0) _ _ _ _ (λ _. int_agrees at (b ∷ rest) more) (λ _. (refl, tt)))

minus_agrees : (at b : ℕ) (rest : List ℕ) → Agrees (b ∷ rest) (minus_front at (b ∷ rest)) (minus_size rest)
minus_agrees at b rest =
    both_if (Agrees (b ∷ rest)) (is_digit (get_or rest 0 0)) _ _ _ _ (λ _. number_agrees at b rest) (λ _.
    both_if (Agrees (b ∷ rest)) (eqb (get_or rest 0 0) 62) _ _ _ _ (λ _. (refl, tt)) (λ _. tt))

comment_agrees : (at : ℕ) (bytes : List ℕ) (m n : ℕ) (place : Option ℕ) → m + 1 ≡ n → Agrees bytes (comment_front at m place) (closed_size n place)
comment_agrees at bytes m n None e = tt
comment_agrees at bytes m n (Some place) e = ap (λ k. Some (None, k)) (omega (arith, e))

slash_agrees : (at b : ℕ) (rest : List ℕ) → Agrees (b ∷ rest) (slash_front at (b ∷ rest)) (slash_size rest)
slash_agrees at b rest =
    both_if (Agrees (b ∷ rest)) (eqb (get_or rest 0 0) 47) _ _ _ _ (λ _. ap (λ k. Some (None, k)) (omega arith)) (λ _.
    both_if (Agrees (b ∷ rest)) (eqb (get_or rest 0 0) 42) _ _ _ _ (λ _. comment_agrees at (b ∷ rest) 3 4 _ refl) (λ _. tt))

-- what stands between the quotes
pub between : (b : ℕ) (rest : List ℕ) (place : ℕ) → place < length rest → take (length (take (suc (place + 1)) (b ∷ rest)) - 2) (take (place + 1) rest) ≡ take place rest
between b rest place h =
    let size : length (take (place + 1) rest) ≡ place + 1 = length-take-le (place + 1) rest (omega arith) in
    ap (λ k. take k (take (place + 1) rest)) (omega (arith, size)) ∙ take-take place (place + 1) rest (omega arith)

inside_agrees : (at b : ℕ) (rest : List ℕ) (place : ℕ) (bad : Option ℕ) → place < length rest → bad_of (said_from 0 0 (take place rest)) ≡ bad → Agrees (b ∷ rest) (inside_front at place bad) (Some (Some sorts.Text, suc (place + 1)))
inside_agrees at b rest place None h e = (refl, ap (λ (inside : List ℕ). bad_of (said_from 0 0 inside)) (between b rest place h) ∙ e)
inside_agrees at b rest place (Some bad) h e = λ fit.
    let good : None ≡ Some bad = sym fit ∙ ap (λ (inside : List ℕ). bad_of (said_from 0 0 inside)) (between b rest place h) ∙ e in cc

text_agrees : (at b : ℕ) (rest : List ℕ) (place : Option ℕ) → closing 0 false rest ≡ place → Agrees (b ∷ rest) (text_front at rest place) (text_size place)
text_agrees at b rest None e = tt
text_agrees at b rest (Some place) e =
    let q = closing_inside 0 rest place e in
    let P : ℕ → Type 0 = λ n. Agrees (b ∷ rest) (inside_front at place (bad_of (said_from 0 0 (take place rest)))) (Some (Some sorts.Text, n)) in
    let count : suc (place + 1) ≡ place + 2 = omega arith in
    subst P count (inside_agrees at b rest place _ (omega (arith, q.1, q.2.2)) refl)

quote_agrees : (at b : ℕ) (rest : List ℕ) → Agrees (b ∷ rest) (quote_front at (b ∷ rest)) (quote_size b rest)
quote_agrees at b rest =
    both_if (Agrees (b ∷ rest)) (starts_with nat_eq (b ∷ rest) (34 ∷ 34 ∷ 34 ∷ [])) _ _ _ _
    (λ _. comment_agrees at (b ∷ rest) 5 6 _ refl) (λ _. text_agrees at b rest _ refl)

-- the front of a text is what is found there
pub front_agrees : (at b : ℕ) (rest : List ℕ) → Agrees (b ∷ rest) (front_of at (b ∷ rest)) (size_of b rest)
front_agrees at b rest =
    both_if (Agrees (b ∷ rest)) (is_blank_byte b) _ _ _ _ (λ _. refl) (λ _.
    both_if (Agrees (b ∷ rest)) (is_name_start b) _ _ _ _ (λ _. name_agrees at b rest) (λ _.
    both_if (Agrees (b ∷ rest)) (is_digit b) _ _ _ _ (λ _. number_agrees at b rest) (λ _.
    both_if (Agrees (b ∷ rest)) (eqb b 45) _ _ _ _ (λ _. minus_agrees at b rest) (λ _.
    both_if (Agrees (b ∷ rest)) (eqb b 34) _ _ _ _ (λ _. quote_agrees at b rest) (λ _.
    both_if (Agrees (b ∷ rest)) (eqb b 47) _ _ _ _ (λ _. slash_agrees at b rest) (λ _.
    both_if (Agrees (b ∷ rest)) (is_mark_byte b) _ _ _ _ (λ _. (refl, tt)) (λ _. tt)))))))

-- a lexeme at the front keeps the limits of its sort
abbrev pub KeepsLimits : List ℕ → Front → Type 0
KeepsLimits bytes (fronts.Blank more) = Unit {0}
KeepsLimits bytes (fronts.Lexeme sort more) = IsInLimits sort (take (suc more) bytes)
KeepsLimits bytes (fronts.Flaw fault) = Unit {0}

limits : (bytes : List ℕ) (front : Front) (size : Size) → Agrees bytes front size → KeepsLimits bytes front
limits bytes (fronts.Blank more) size a = tt
limits bytes (fronts.Lexeme sort more) size a = a.1
limits bytes (fronts.Flaw fault) size a = tt

pub front_limits : (at b : ℕ) (rest : List ℕ) → KeepsLimits (b ∷ rest) (front_of at (b ∷ rest))
front_limits at b rest = limits (b ∷ rest) (front_of at (b ∷ rest)) (size_of b rest) (front_agrees at b rest)
