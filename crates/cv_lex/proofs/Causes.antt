-- Each flaw at the front of a text has its cause.
use Rattle.std.proofs.Common.{◌≡◌, ℕ, suc, ◌+◌, ◌-◌, ◌<◌, false, cond, eqb, ltb, Option, Some, None, List, [], ◌∷◌, length, get_or, take, drop, refl, sym, ap, ◌∙◌, subst, inl, inr, add-one, arith}
use Rattle.std.specs.Prelude.{is_some, nat_eq}
use Rattle.std.specs.List.{prefix_len, starts_with}
use Rattle.std.proofs.lemmas.Bool.{cond_both, eqb-true, eqb-false, ltb-false, true≢false}
use Rattle.std.proofs.lemmas.List.{length-take-le, take-append-drop}
use Rattle.std.proofs.lemmas.List.Sums.{prefix_len-le-length}
use Rattle.cv_lex.specs.declared.lexeme.Sort.{Sort}
use Rattle.cv_lex.specs.declared.lexeme.Sort.TheVariants as sorts
use Rattle.cv_lex.specs.declared.fronts.Front.{Front}
use Rattle.cv_lex.specs.declared.fronts.Front.TheVariants as fronts
use Rattle.cv_lex.specs.declared.lexeme.LexFault.{LexFault}
use Rattle.cv_lex.specs.declared.lexeme.LexFault.TheVariants as faults
use Rattle.cv_lex.specs.Bytes.{is_blank_byte, is_name_start, is_name_byte, is_digit, is_mark_byte}
use Rattle.cv_lex.specs.Faults.{NothingStands, OpensComment, OpensText, Exceeds, IsFaultAt}
use Rattle.cv_lex.specs.Fronts.{front_of, name_front, fraction_len, int_front, number_front, minus_front, comment_front, slash_front, inside_front, text_front, quote_front}
use Rattle.cv_lex.specs.Numbers.{int_of}
use Rattle.cv_lex.specs.Shapes.{IsInLimits}
use Rattle.cv_lex.specs.Spans.{closing}
use Rattle.cv_lex.specs.Texts.{said_from, bad_of}
use Rattle.cv_lex.proofs.Agrees.{both_if, between}
use Rattle.cv_lex.proofs.Covers.{Covers, front_size, size_covers}
use Rattle.cv_lex.proofs.Insides.{closing_inside}
use Rattle.cv_lex.proofs.Places.{starts_so, starts_from}
use Rattle.cv_lex.proofs.Sizes.{Size, number_size, minus_size, closed_size, slash_size, text_size, quote_size, size_of}
use Rattle.cv_lex.proofs.Stood.{stands}

-- where nothing is found nothing stands
nothing_stands : (bytes : List ℕ) → front_size bytes ≡ None → NothingStands bytes
nothing_stands bytes e = λ thing front tail split h.
    let P : List ℕ → Type 0 = λ xs. Covers thing (length front) (front_size xs) in
    subst (Covers thing (length front)) e (subst P (sym split) (size_covers thing front tail h))

-- a flaw's cause, by what is found
abbrev pub Causes : ℕ → List ℕ → Front → Size → Type 0
Causes at bytes (fronts.Blank more) size = Unit {0}
Causes at bytes (fronts.Lexeme sort more) size = Unit {0}
Causes at bytes (fronts.Flaw (faults.BadChar p)) size = (p ≡ at) × (size ≡ None) × (OpensText bytes → ⊥) × (OpensComment bytes → ⊥)
Causes at bytes (fronts.Flaw (faults.OpenText p)) size = (p ≡ at) × (size ≡ None) × OpensText bytes × (OpensComment bytes → ⊥)
Causes at bytes (fronts.Flaw (faults.OpenComment p)) size = (p ≡ at) × (size ≡ None) × OpensComment bytes
Causes at bytes (fronts.Flaw (faults.WideNumber p)) size = (p ≡ at) × (n : ℕ) × (size ≡ Some (Some sorts.Int, n)) × (IsInLimits sorts.Int (take n bytes) → ⊥)
Causes at bytes (fronts.Flaw (faults.BadEscape p)) size =
    (bad : ℕ) × (n : ℕ) × (p ≡ at + (bad + 1)) × (size ≡ Some (Some sorts.Text, n)) × (bad_of (said_from 0 0 (take (length (take n bytes) - 2) (drop 1 (take n bytes)))) ≡ Some bad)
Causes at bytes (fronts.Flaw (faults.LongName p)) size = (p ≡ at) × (n : ℕ) × (size ≡ Some (Some sorts.Name, n)) × (IsInLimits sorts.Name (take n bytes) → ⊥)
Causes at bytes (fronts.Flaw faults.OutOfMemory) size = ⊥

-- other first bytes open nothing
no_text : (b : ℕ) (rest : List ℕ) → (b ≡ 34 → ⊥) → OpensText (b ∷ rest) → ⊥
no_text b rest q h = let first : b ≡ 34 = cc in q first

no_comment : (b : ℕ) (rest : List ℕ) → (b ≡ 34 → ⊥) → (b ≡ 47 → get_or rest 0 0 ≡ 42 → ⊥) → OpensComment (b ∷ rest) → ⊥
no_comment b rest q s (tail, inl h) = let first : b ≡ 47 = cc in let behind : rest ≡ 42 ∷ tail = cc in s first (ap (λ (xs : List ℕ). get_or xs 0 0) behind)
no_comment b rest q s (tail, inr h) = let first : b ≡ 34 = cc in q first

name_causes : (at b : ℕ) (rest : List ℕ) → Causes at (b ∷ rest) (name_front at (b ∷ rest)) (Some (Some sorts.Name, suc (prefix_len is_name_byte rest)))
name_causes at b rest =
    let more = prefix_len is_name_byte rest in
    let size : length (take more rest) ≡ more = length-take-le more rest (prefix_len-le-length is_name_byte rest) in
    cond_both (ltb more 64) _ _ (λ (front : Front). Causes at (b ∷ rest) front (Some (Some sorts.Name, suc more)))
    (λ e. tt)
    (λ e. (refl, suc more, refl, λ fit. omega (arith, size, ltb-false more 64 e, fit)))

int_causes : (at : ℕ) (bytes : List ℕ) (more : ℕ) → Causes at bytes (int_front at bytes more) (Some (Some sorts.Int, suc more))
int_causes at bytes more =
    let P : ℕ → Type 0 = λ m. Causes at bytes (cond (is_some (int_of (take m bytes))) (fronts.Lexeme sorts.Int more) (fronts.Flaw (faults.WideNumber at))) (Some (Some sorts.Int, suc more)) in
    let Q : Front → Type 0 = λ front. Causes at bytes front (Some (Some sorts.Int, suc more)) in
    subst P (sym (add-one more))
    (cond_both (is_some (int_of (take (suc more) bytes))) _ _ Q (λ e. tt) (λ e. (refl, suc more, refl, λ fit. true≢false (sym fit ∙ e))))

number_causes : (at b : ℕ) (rest : List ℕ) → Causes at (b ∷ rest) (number_front at (b ∷ rest)) (number_size rest)
number_causes at b rest =
    let more = prefix_len is_digit rest in
    let P : ℕ → Type 0 = λ m. Causes at (b ∷ rest) (cond (eqb (fraction_len (drop m (b ∷ rest))) 0) (int_front at (b ∷ rest) more) (fronts.Lexeme sorts.Fraction (more + fraction_len (drop m (b ∷ rest))))) (number_size rest) in
    subst P (sym (add-one more))
    (both_if (Causes at (b ∷ rest)) (eqb (fraction_len (drop more rest)) 0) _ _ _ _ (λ _. int_causes at (b ∷ rest) more) (λ _. tt))

minus_causes : (at b : ℕ) (rest : List ℕ) → (b ≡ 34 → ⊥) → (b ≡ 47 → ⊥) → Causes at (b ∷ rest) (minus_front at (b ∷ rest)) (minus_size rest)
minus_causes at b rest q s =
    both_if (Causes at (b ∷ rest)) (is_digit (get_or rest 0 0)) _ _ _ _ (λ _. number_causes at b rest) (λ _.
    both_if (Causes at (b ∷ rest)) (eqb (get_or rest 0 0) 62) _ _ _ _ (λ _. tt)
    (λ _. (refl, refl, no_text b rest q, no_comment b rest q (λ e _. s e))))

comment_causes : (at : ℕ) (bytes : List ℕ) (m n : ℕ) (place : Option ℕ) → OpensComment bytes → Causes at bytes (comment_front at m place) (closed_size n place)
comment_causes at bytes m n None h = (refl, refl, h)
comment_causes at bytes m n (Some place) h = tt

block_opens : (b : ℕ) (rest : List ℕ) → b ≡ 47 → get_or rest 0 0 ≡ 42 → OpensComment (b ∷ rest)
block_opens b [] e f = absurd (omega (arith, f))
block_opens b (c ∷ rest) e f = (rest, inl (ap (λ (x : ℕ). x ∷ c ∷ rest) e ∙ ap (λ (y : ℕ). 47 ∷ y ∷ rest) f))

slash_causes : (at b : ℕ) (rest : List ℕ) → b ≡ 47 → Causes at (b ∷ rest) (slash_front at (b ∷ rest)) (slash_size rest)
slash_causes at b rest slash =
    both_if (Causes at (b ∷ rest)) (eqb (get_or rest 0 0) 47) _ _ _ _ (λ _. tt) (λ _.
    both_if (Causes at (b ∷ rest)) (eqb (get_or rest 0 0) 42) _ _ _ _
    (λ e. comment_causes at (b ∷ rest) 3 4 _ (block_opens b rest slash (eqb-true _ 42 e)))
    (λ e. (refl, refl, no_text b rest (λ q. omega (arith, q, slash)), no_comment b rest (λ q. omega (arith, q, slash)) (λ _ f. eqb-false (get_or rest 0 0) 42 e f))))

inside_causes : (at b : ℕ) (rest : List ℕ) (place : ℕ) (bad : Option ℕ) → place < length rest → bad_of (said_from 0 0 (take place rest)) ≡ bad → Causes at (b ∷ rest) (inside_front at place bad) (Some (Some sorts.Text, suc (place + 1)))
inside_causes at b rest place None h e = tt
inside_causes at b rest place (Some bad) h e =
    (bad, suc (place + 1), refl, refl, ap (λ (inside : List ℕ). bad_of (said_from 0 0 inside)) (between b rest place h) ∙ e)

-- a quote that does not begin three opens no comment
only_three : (b : ℕ) (rest : List ℕ) → b ≡ 34 → starts_with nat_eq (b ∷ rest) (34 ∷ 34 ∷ 34 ∷ []) ≡ false → OpensComment (b ∷ rest) → ⊥
only_three b rest q other (tail, inl h) = let first : b ≡ 47 = cc in omega (arith, first, q)
only_three b rest q other (tail, inr h) = true≢false (sym (starts_from (b ∷ rest) (34 ∷ 34 ∷ 34 ∷ []) tail h) ∙ other)

text_causes : (at b : ℕ) (rest : List ℕ) (place : Option ℕ) → b ≡ 34 → starts_with nat_eq (b ∷ rest) (34 ∷ 34 ∷ 34 ∷ []) ≡ false → closing 0 false rest ≡ place → Causes at (b ∷ rest) (text_front at rest place) (text_size place)
text_causes at b rest None q other e =
    (refl, refl, (rest, ap (λ (x : ℕ). x ∷ rest) q), only_three b rest q other)
text_causes at b rest (Some place) q other e =
    let c = closing_inside 0 rest place e in
    let P : ℕ → Type 0 = λ n. Causes at (b ∷ rest) (inside_front at place (bad_of (said_from 0 0 (take place rest)))) (Some (Some sorts.Text, n)) in
    let count : suc (place + 1) ≡ place + 2 = omega arith in
    subst P count (inside_causes at b rest place _ (omega (arith, c.1, c.2.2)) refl)

quote_causes : (at b : ℕ) (rest : List ℕ) → b ≡ 34 → Causes at (b ∷ rest) (quote_front at (b ∷ rest)) (quote_size b rest)
quote_causes at b rest q =
    both_if (Causes at (b ∷ rest)) (starts_with nat_eq (b ∷ rest) (34 ∷ 34 ∷ 34 ∷ [])) _ _ _ _
    (λ three. comment_causes at (b ∷ rest) 5 6 _ (_, inr (starts_so (b ∷ rest) (34 ∷ 34 ∷ 34 ∷ []) three)))
    (λ other. text_causes at b rest _ q other refl)

pub front_causes : (at b : ℕ) (rest : List ℕ) → Causes at (b ∷ rest) (front_of at (b ∷ rest)) (size_of b rest)
front_causes at b rest =
    both_if (Causes at (b ∷ rest)) (is_blank_byte b) _ _ _ _ (λ _. tt) (λ _.
    both_if (Causes at (b ∷ rest)) (is_name_start b) _ _ _ _ (λ _. name_causes at b rest) (λ _.
    both_if (Causes at (b ∷ rest)) (is_digit b) _ _ _ _ (λ _. number_causes at b rest) (λ _.
    both_if (Causes at (b ∷ rest)) (eqb b 45) _ _ _ _ (λ e. let minus = eqb-true b 45 e in minus_causes at b rest (λ q. omega (arith, q, minus)) (λ s. omega (arith, s, minus))) (λ _.
    both_if (Causes at (b ∷ rest)) (eqb b 34) _ _ _ _ (λ e. quote_causes at b rest (eqb-true b 34 e)) (λ quote.
    both_if (Causes at (b ∷ rest)) (eqb b 47) _ _ _ _ (λ e. slash_causes at b rest (eqb-true b 47 e)) (λ slash.
    both_if (Causes at (b ∷ rest)) (is_mark_byte b) _ _ _ _ (λ _. tt)
    (λ _. (refl, refl, no_text b rest (eqb-false b 34 quote), no_comment b rest (eqb-false b 34 quote) (λ s _. eqb-false b 47 slash s)))))))))

-- what is found stands there, beyond a limit
exceeds : (sort : Sort) (b : ℕ) (rest : List ℕ) (n : ℕ) → size_of b rest ≡ Some (Some sort, n) → (IsInLimits sort (take n (b ∷ rest)) → ⊥) → Exceeds sort (b ∷ rest)
exceeds sort b rest n e unfit = (take n (b ∷ rest), drop n (b ∷ rest), sym (take-append-drop n (b ∷ rest)), (stands b rest (Some sort) n e).0, unfit)

caused : (at b : ℕ) (rest : List ℕ) (fault : LexFault) → Causes at (b ∷ rest) (fronts.Flaw fault) (size_of b rest) → IsFaultAt fault at (b ∷ rest)
caused at b rest (faults.BadChar p) c = (c.0, omega arith, nothing_stands (b ∷ rest) c.1, c.2, c.3)
caused at b rest (faults.OpenText p) c = (c.0, nothing_stands (b ∷ rest) c.1, c.2, c.3)
caused at b rest (faults.OpenComment p) c = (c.0, nothing_stands (b ∷ rest) c.1, c.2)
caused at b rest (faults.WideNumber p) c = (c.0, exceeds sorts.Int b rest c.1 c.2 c.3)
caused at b rest (faults.BadEscape p) c =
    (c.0 + 1, c.2, (take c.1 (b ∷ rest), drop c.1 (b ∷ rest), c.0, sym (take-append-drop c.1 (b ∷ rest)), (stands b rest (Some sorts.Text) c.1 c.3).0, c.4, refl))
caused at b rest (faults.LongName p) c = (c.0, exceeds sorts.Name b rest c.1 c.2 c.3)
caused at b rest faults.OutOfMemory c = absurd c

-- a flaw at the front is a fault there
pub flaw_caused : (at b : ℕ) (rest : List ℕ) (fault : LexFault) → front_of at (b ∷ rest) ≡ fronts.Flaw fault → IsFaultAt fault at (b ∷ rest)
flaw_caused at b rest fault e =
    let P : Front → Type 0 = λ front. Causes at (b ∷ rest) front (size_of b rest) in
    caused at b rest fault (subst P e (front_causes at b rest))
